use Rattle.std.proofs.Common.{◌≡◌, ◌*◌, map, ap, length, refl, subst, sym, Ok, ◌∙◌, rules}
use Rattle.std.specs.Prelude.{filter}
use Rattle.std.proofs.lemmas.Result.{on_ok_weaker}
use Rattle.bit_classes.specs.Sieves.{IsSieve}
use Rattle.query_core.specs.Joins.{crossed, crossed_and_padded}
use Rattle.query_core.specs.declared.kinds.Pairing.TheVariants.{Left}
use Rattle.fill_core.specs.Choices.{hole_choices, is_wanted, left_choice}
use Rattle.fill_core.specs.Offers.{pair_candidates}
use Rattle.fill_core.specs.View.{entry_filled}
use Rattle.fill_core.proofs.MaskLaws.{length_crossed, length_padded}
use Rattle.fill_core.proofs.OfferLaws.{no_left_joins, same_pair}
use Rattle.fill_core.proofs.SiftLaws.{left_alike, left_accepted, left_wide, gathered_alike, too_much_alike, same_hole, pairs_there, pairs_offered_wide, found_there}
use Rattle.fill_core.proofs.between.Between.hand_left_joins.Goals as goal

pub returns-in_default-clause-gathered : goal.returns-in_default-clause-gathered
returns-in_default-clause-gathered g c =
    let a = entry_filled c.args.self.now.left.now c.args.parts.now.left.now in
    let b = entry_filled c.args.self.now.right.now c.args.parts.now.right.now in
    no_left_joins c.args.self.now.task.now (g.R.Receiver.gives c.args.receiver.now) (g.R.Receiver.held c.args.receiver.now c.args.store.now) a b c.args.self.now.types.now c.as_slice.result.now c.requires.same
    (search (rules, c.as_slice.ensures, c.in_ok-candidates.ensures, c.as_slice-lefts.ensures, c.as_slice-rights.ensures)) (c.look.ensures.nothing (c.in_ok-findings.was ∙ ap Ok c.in_default.is))

pub returns-then-is_shut_pair-clause-gathered : goal.returns-then-is_shut_pair-clause-gathered
returns-then-is_shut_pair-clause-gathered g c =
    let s = c.args.self.now in
    let p = c.args.parts.now in
    let gives = g.R.Receiver.gives c.args.receiver.now in
    let none = c.is_shut_pair.ensures c.if-is_shut_pair.true in
    no_left_joins s.task.now gives (g.R.Receiver.held c.args.receiver.now c.args.store.now) (entry_filled s.left.now p.left.now) (entry_filled s.right.now p.right.now) s.types.now (pair_candidates Left (length s.right.now) p.left.now.rows p.right.now.rows)
    c.requires.same refl (same_pair gives c.seen.result.kind Left c.seen.result.types.now s.types.now (length c.seen.result.right.now) (length s.right.now) c.seen.result.lefts.now p.left.now.rows c.seen.result.rights.now p.right.now.rows
    c.seen.ensures.kind c.seen.ensures.types (ap length c.seen.ensures.right) c.seen.ensures.lefts c.seen.ensures.rights none)

pub wanted-requires-clause-sieve : goal.wanted-requires-clause-sieve
wanted-requires-clause-sieve g c =
    let s = c.args.self.now in
    let r = c.args.receiver.now in
    let a = entry_filled s.left.now c.args.parts.now.left.now in
    let b = entry_filled s.right.now c.args.parts.now.right.now in
    let lefts = c.as_slice-lefts.result.now in
    let rights = c.as_slice-rights.result.now in
    let found = found_there (g.R.Receiver.found r s.types.now c.as_slice.result.now) c.in_ok-findings.field-0 c.in-Some.findings c.in_ok-findings.ensures.found c.in-Some.is in
    let size = ap length (c.as_slice.ensures ∙ c.in_ok-candidates.ensures) ∙ length_padded (length s.right.now) lefts rights in
    let told = c.in_ok-told.ensures s.types.now c.as_slice.result.now size found in
    let may = g.R.Receiver.may r c.in_ok-told.told in
    let wide : length c.hole.result.candidates.now ≡ length lefts * length rights = ap length (c.hole.ensures.candidates ∙ c.as_slice-2.ensures ∙ c.in_ok-pairs.ensures) ∙ length_crossed lefts rights in
    subst (λ n. IsSieve n may) (sym wide) told.0

pub left_choices-requires : goal.left_choices-requires
left_choices-requires g c =
    let s = c.args.self.now in
    let r = c.args.receiver.now in
    let a = entry_filled s.left.now c.args.parts.now.left.now in
    let b = entry_filled s.right.now c.args.parts.now.right.now in
    let lefts = c.as_slice-lefts.result.now in
    let rights = c.as_slice-rights.result.now in
    let may = g.R.Receiver.may r c.in_ok-told.told in
    let three = same_hole (is_wanted may) c.as_slice-3.result.now c.hole.result.task.now s.task.now c.hole.result.types.now s.types.now c.hole.result.candidates.now (crossed lefts rights)
    (c.as_slice-3.ensures.value ∙ c.in_ok-of_pairs.ensures) c.hole.ensures.task c.hole.ensures.types (c.hole.ensures.candidates ∙ c.as_slice-2.ensures ∙ c.in_ok-pairs.ensures) in
    pairs_offered_wide (is_wanted may) c.as_slice-3.result.now s.task.now s.types.now lefts rights three

pub take-requires-clause-wide : goal.take-requires-clause-wide
take-requires-clause-wide g c =
    let s = c.args.self.now in
    let r = c.args.receiver.now in
    let a = entry_filled s.left.now c.args.parts.now.left.now in
    let b = entry_filled s.right.now c.args.parts.now.right.now in
    let lefts = c.as_slice-lefts.result.now in
    let rights = c.as_slice-rights.result.now in
    let may = g.R.Receiver.may r c.in_ok-told.told in
    let three = same_hole (is_wanted may) c.as_slice-3.result.now c.hole.result.task.now s.task.now c.hole.result.types.now s.types.now c.hole.result.candidates.now (crossed lefts rights)
    (c.as_slice-3.ensures.value ∙ c.in_ok-of_pairs.ensures) c.hole.ensures.task c.hole.ensures.types (c.hole.ensures.candidates ∙ c.as_slice-2.ensures ∙ c.in_ok-pairs.ensures) in
    let preds = c.as_slice-4.ensures ∙ c.in_ok-preds.ensures in
    let candidates : c.as_slice-5.result.now ≡ crossed_and_padded (length b.types) a.rows b.rows = c.as_slice-5.ensures ∙ c.in_ok-candidates.ensures ∙ ap (λ rows. crossed_and_padded (length b.types) rows rights) c.as_slice-lefts.ensures ∙ ap (crossed_and_padded (length b.types) a.rows) c.as_slice-rights.ensures in
    let six : c.as_slice-6.result.now ≡ map (left_choice (length a.rows) (length b.rows)) (filter (is_wanted may) (hole_choices s.task.now s.types.now (crossed a.rows b.rows))) =
    c.as_slice-6.ensures.value ∙ c.in_ok-choices.ensures ∙ ap (map (left_choice (length lefts) (length rights))) three
    ∙ ap (λ ls. map (left_choice (length ls) (length rights)) (filter (is_wanted may) (hole_choices s.task.now s.types.now (crossed ls rights)))) c.as_slice-lefts.ensures
    ∙ ap (λ rs. map (left_choice (length a.rows) (length rs)) (filter (is_wanted may) (hole_choices s.task.now s.types.now (crossed a.rows rs)))) c.as_slice-rights.ensures in
    left_wide s.task.now s.types.now c.as_slice-4.result.now c.as_slice-5.result.now may c.as_slice-6.result.now a b c.requires.same preds candidates six

pub take-requires-clause-accepts : goal.take-requires-clause-accepts
take-requires-clause-accepts g c =
    let s = c.args.self.now in
    let r = c.args.receiver.now in
    let a = entry_filled s.left.now c.args.parts.now.left.now in
    let b = entry_filled s.right.now c.args.parts.now.right.now in
    let lefts = c.as_slice-lefts.result.now in
    let rights = c.as_slice-rights.result.now in
    let may = g.R.Receiver.may r c.in_ok-told.told in
    let three = same_hole (is_wanted may) c.as_slice-3.result.now c.hole.result.task.now s.task.now c.hole.result.types.now s.types.now c.hole.result.candidates.now (crossed lefts rights)
    (c.as_slice-3.ensures.value ∙ c.in_ok-of_pairs.ensures) c.hole.ensures.task c.hole.ensures.types (c.hole.ensures.candidates ∙ c.as_slice-2.ensures ∙ c.in_ok-pairs.ensures) in
    let preds = c.as_slice-4.ensures ∙ c.in_ok-preds.ensures in
    let candidates : c.as_slice-5.result.now ≡ crossed_and_padded (length b.types) a.rows b.rows = c.as_slice-5.ensures ∙ c.in_ok-candidates.ensures ∙ ap (λ rows. crossed_and_padded (length b.types) rows rights) c.as_slice-lefts.ensures ∙ ap (crossed_and_padded (length b.types) a.rows) c.as_slice-rights.ensures in
    let six : c.as_slice-6.result.now ≡ map (left_choice (length a.rows) (length b.rows)) (filter (is_wanted may) (hole_choices s.task.now s.types.now (crossed a.rows b.rows))) =
    c.as_slice-6.ensures.value ∙ c.in_ok-choices.ensures ∙ ap (map (left_choice (length lefts) (length rights))) three
    ∙ ap (λ ls. map (left_choice (length ls) (length rights)) (filter (is_wanted may) (hole_choices s.task.now s.types.now (crossed ls rights)))) c.as_slice-lefts.ensures
    ∙ ap (λ rs. map (left_choice (length a.rows) (length rs)) (filter (is_wanted may) (hole_choices s.task.now s.types.now (crossed a.rows rs)))) c.as_slice-rights.ensures in
    left_accepted s.task.now s.types.now c.as_slice-4.result.now c.as_slice-5.result.now may c.as_slice-6.result.now a b c.requires.same preds candidates six (g.R.Receiver.accepts r) c.requires.accepts

pub returns-clause-gathered : goal.returns-clause-gathered
returns-clause-gathered g c =
    let s = c.args.self.now in
    let r = c.args.receiver.now in
    let a = entry_filled s.left.now c.args.parts.now.left.now in
    let b = entry_filled s.right.now c.args.parts.now.right.now in
    let lefts = c.as_slice-lefts.result.now in
    let rights = c.as_slice-rights.result.now in
    let found = found_there (g.R.Receiver.found r s.types.now c.as_slice.result.now) c.in_ok-findings.field-0 c.in-Some.findings c.in_ok-findings.ensures.found c.in-Some.is in
    let size = ap length (c.as_slice.ensures ∙ c.in_ok-candidates.ensures) ∙ length_padded (length s.right.now) lefts rights in
    let told = c.in_ok-told.ensures s.types.now c.as_slice.result.now size found in
    let may = g.R.Receiver.may r c.in_ok-told.told in
    let three = same_hole (is_wanted may) c.as_slice-3.result.now c.hole.result.task.now s.task.now c.hole.result.types.now s.types.now c.hole.result.candidates.now (crossed lefts rights)
    (c.as_slice-3.ensures.value ∙ c.in_ok-of_pairs.ensures) c.hole.ensures.task c.hole.ensures.types (c.hole.ensures.candidates ∙ c.as_slice-2.ensures ∙ c.in_ok-pairs.ensures) in
    let preds = c.as_slice-4.ensures ∙ c.in_ok-preds.ensures in
    let candidates : c.as_slice-5.result.now ≡ crossed_and_padded (length b.types) a.rows b.rows = c.as_slice-5.ensures ∙ c.in_ok-candidates.ensures ∙ ap (λ rows. crossed_and_padded (length b.types) rows rights) c.as_slice-lefts.ensures ∙ ap (crossed_and_padded (length b.types) a.rows) c.as_slice-rights.ensures in
    let six : c.as_slice-6.result.now ≡ map (left_choice (length a.rows) (length b.rows)) (filter (is_wanted may) (hole_choices s.task.now s.types.now (crossed a.rows b.rows))) =
    c.as_slice-6.ensures.value ∙ c.in_ok-choices.ensures ∙ ap (map (left_choice (length lefts) (length rights))) three
    ∙ ap (λ ls. map (left_choice (length ls) (length rights)) (filter (is_wanted may) (hole_choices s.task.now s.types.now (crossed ls rights)))) c.as_slice-lefts.ensures
    ∙ ap (λ rs. map (left_choice (length a.rows) (length rs)) (filter (is_wanted may) (hole_choices s.task.now s.types.now (crossed a.rows rs)))) c.as_slice-rights.ensures in
    let sifts = pairs_there (g.R.Receiver.gives r) s.types.now c.as_slice.result.now c.as_slice-5.result.now (length lefts) (length rights) (length a.rows) (length b.rows) may told (c.as_slice.ensures ∙ sym c.as_slice-5.ensures) (ap length c.as_slice-lefts.ensures) (ap length c.as_slice-rights.ensures) in
    let same = left_alike s.task.now s.types.now c.as_slice-4.result.now c.as_slice-5.result.now may c.as_slice-6.result.now a b c.requires.same preds candidates six (g.R.Receiver.gives r) sifts in
    on_ok_weaker c.take.result (gathered_alike (g.R.Receiver.held r) (g.R.Receiver.gives r) c.args.store.now c.take.new.store _ _ same) c.take.ensures.gathered

pub returns-clause-heavy : goal.returns-clause-heavy
returns-clause-heavy g c is =
    let s = c.args.self.now in
    let r = c.args.receiver.now in
    let a = entry_filled s.left.now c.args.parts.now.left.now in
    let b = entry_filled s.right.now c.args.parts.now.right.now in
    let lefts = c.as_slice-lefts.result.now in
    let rights = c.as_slice-rights.result.now in
    let found = found_there (g.R.Receiver.found r s.types.now c.as_slice.result.now) c.in_ok-findings.field-0 c.in-Some.findings c.in_ok-findings.ensures.found c.in-Some.is in
    let size = ap length (c.as_slice.ensures ∙ c.in_ok-candidates.ensures) ∙ length_padded (length s.right.now) lefts rights in
    let told = c.in_ok-told.ensures s.types.now c.as_slice.result.now size found in
    let may = g.R.Receiver.may r c.in_ok-told.told in
    let three = same_hole (is_wanted may) c.as_slice-3.result.now c.hole.result.task.now s.task.now c.hole.result.types.now s.types.now c.hole.result.candidates.now (crossed lefts rights)
    (c.as_slice-3.ensures.value ∙ c.in_ok-of_pairs.ensures) c.hole.ensures.task c.hole.ensures.types (c.hole.ensures.candidates ∙ c.as_slice-2.ensures ∙ c.in_ok-pairs.ensures) in
    let preds = c.as_slice-4.ensures ∙ c.in_ok-preds.ensures in
    let candidates : c.as_slice-5.result.now ≡ crossed_and_padded (length b.types) a.rows b.rows = c.as_slice-5.ensures ∙ c.in_ok-candidates.ensures ∙ ap (λ rows. crossed_and_padded (length b.types) rows rights) c.as_slice-lefts.ensures ∙ ap (crossed_and_padded (length b.types) a.rows) c.as_slice-rights.ensures in
    let six : c.as_slice-6.result.now ≡ map (left_choice (length a.rows) (length b.rows)) (filter (is_wanted may) (hole_choices s.task.now s.types.now (crossed a.rows b.rows))) =
    c.as_slice-6.ensures.value ∙ c.in_ok-choices.ensures ∙ ap (map (left_choice (length lefts) (length rights))) three
    ∙ ap (λ ls. map (left_choice (length ls) (length rights)) (filter (is_wanted may) (hole_choices s.task.now s.types.now (crossed ls rights)))) c.as_slice-lefts.ensures
    ∙ ap (λ rs. map (left_choice (length a.rows) (length rs)) (filter (is_wanted may) (hole_choices s.task.now s.types.now (crossed a.rows rs)))) c.as_slice-rights.ensures in
    let sifts = pairs_there (g.R.Receiver.gives r) s.types.now c.as_slice.result.now c.as_slice-5.result.now (length lefts) (length rights) (length a.rows) (length b.rows) may told (c.as_slice.ensures ∙ sym c.as_slice-5.ensures) (ap length c.as_slice-lefts.ensures) (ap length c.as_slice-rights.ensures) in
    let same = left_alike s.task.now s.types.now c.as_slice-4.result.now c.as_slice-5.result.now may c.as_slice-6.result.now a b c.requires.same preds candidates six (g.R.Receiver.gives r) sifts in
    too_much_alike (g.R.Receiver.bound r) (g.R.Receiver.weighs r) (g.R.Receiver.gives r) (g.R.Receiver.held r c.args.store.now) _ _ same (c.take.ensures.heavy is)

pub of_pairs-requires : goal.of_pairs-requires
of_pairs-requires g c =
    let s = c.args.self.now in
    let r = c.args.receiver.now in
    let size = ap length (c.as_slice.ensures ∙ c.in_ok-candidates.ensures) ∙ length_padded (length s.right.now) c.as_slice-lefts.result.now c.as_slice-rights.result.now in
    let about = found_there (λ f. g.R.Receiver.about r f (length c.as_slice.result.now)) c.in_ok-findings.field-0 c.in-Some.findings c.in_ok-findings.ensures.about c.in-Some.is in
    subst (g.R.Receiver.about r c.in-Some.findings) size about

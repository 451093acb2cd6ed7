use Rattle.std.proofs.Common.{◌≡◌, ap, length, refl, sym, Ok, ◌∙◌, rules}
use Rattle.query_core.specs.Joins.{crossed}
use Rattle.fill_core.specs.Choices.{is_wanted}
use Rattle.std.proofs.lemmas.Result.{on_ok_weaker}
use Rattle.fill_core.specs.View.{entry_filled}
use Rattle.fill_core.proofs.OfferLaws.{no_joins, same_pair}
use Rattle.fill_core.proofs.SiftLaws.{joins_alike, joins_accepted, offered_wide, gathered_alike, too_much_alike, same_hole, sifts_there}
use Rattle.query_core.specs.declared.kinds.Pairing.TheVariants.{Join}
use Rattle.fill_core.specs.Offers.{pair_candidates}
use Rattle.fill_core.proofs.between.Between.hand_joins.Goals as goal

pub returns-in_default-clause-gathered : goal.returns-in_default-clause-gathered
returns-in_default-clause-gathered g c =
    let a = entry_filled c.args.self.now.left.now c.args.parts.now.left.now in
    let b = entry_filled c.args.self.now.right.now c.args.parts.now.right.now in
    no_joins c.args.self.now.task.now (g.R.Receiver.gives c.args.receiver.now) (g.R.Receiver.held c.args.receiver.now c.args.store.now) a b c.args.self.now.types.now c.as_slice.result.now c.requires.same
    (c.as_slice.ensures ∙ c.in_ok-pairs.ensures ∙ search (rules, c.as_slice-lefts.ensures, c.as_slice-rights.ensures)) (c.look.ensures.nothing (c.in_ok-findings.was ∙ ap Ok c.in_default.is))

pub returns-then-is_shut_pair-clause-gathered : goal.returns-then-is_shut_pair-clause-gathered
returns-then-is_shut_pair-clause-gathered g c =
    let s = c.args.self.now in
    let p = c.args.parts.now in
    let gives = g.R.Receiver.gives c.args.receiver.now in
    let none = c.is_shut_pair.ensures c.if-is_shut_pair.true in
    no_joins s.task.now gives (g.R.Receiver.held c.args.receiver.now c.args.store.now) (entry_filled s.left.now p.left.now) (entry_filled s.right.now p.right.now) s.types.now (pair_candidates Join (length s.right.now) p.left.now.rows p.right.now.rows)
    c.requires.same refl (same_pair gives c.seen.result.kind Join c.seen.result.types.now s.types.now (length c.seen.result.right.now) (length s.right.now) c.seen.result.lefts.now p.left.now.rows c.seen.result.rights.now p.right.now.rows
    c.seen.ensures.kind c.seen.ensures.types (ap length c.seen.ensures.right) c.seen.ensures.lefts c.seen.ensures.rights none)

pub take-requires-clause-wide : goal.take-requires-clause-wide
take-requires-clause-wide g c =
    let s = c.args.self.now in
    let r = c.args.receiver.now in
    let a = entry_filled s.left.now c.args.parts.now.left.now in
    let b = entry_filled s.right.now c.args.parts.now.right.now in
    let may = g.R.Receiver.may r c.in-Some.findings in
    let preds = c.as_slice-3.ensures ∙ c.in_ok-preds.ensures in
    let pairs : c.as_slice-4.result.now ≡ crossed a.rows b.rows = c.as_slice-4.ensures ∙ c.in_ok-pairs.ensures ∙ ap (λ rows. crossed rows c.as_slice-rights.result.now) c.as_slice-lefts.ensures ∙ ap (crossed a.rows) c.as_slice-rights.ensures in
    let offered = same_hole (is_wanted may) c.as_slice-5.result.now c.hole-hole.result.task.now s.task.now c.hole-hole.result.types.now s.types.now c.hole-hole.result.candidates.now c.as_slice-4.result.now
    (c.as_slice-5.ensures.value ∙ c.in_ok-choices.ensures) c.hole-hole.ensures.task c.hole-hole.ensures.types (c.hole-hole.ensures.candidates ∙ c.as_slice-2.ensures ∙ sym c.as_slice-4.ensures) in
    offered_wide s.task.now s.types.now c.as_slice-3.result.now c.as_slice-4.result.now may c.as_slice-5.result.now offered

pub take-requires-clause-accepts : goal.take-requires-clause-accepts
take-requires-clause-accepts g c =
    let s = c.args.self.now in
    let r = c.args.receiver.now in
    let a = entry_filled s.left.now c.args.parts.now.left.now in
    let b = entry_filled s.right.now c.args.parts.now.right.now in
    let may = g.R.Receiver.may r c.in-Some.findings in
    let preds = c.as_slice-3.ensures ∙ c.in_ok-preds.ensures in
    let pairs : c.as_slice-4.result.now ≡ crossed a.rows b.rows = c.as_slice-4.ensures ∙ c.in_ok-pairs.ensures ∙ ap (λ rows. crossed rows c.as_slice-rights.result.now) c.as_slice-lefts.ensures ∙ ap (crossed a.rows) c.as_slice-rights.ensures in
    let offered = same_hole (is_wanted may) c.as_slice-5.result.now c.hole-hole.result.task.now s.task.now c.hole-hole.result.types.now s.types.now c.hole-hole.result.candidates.now c.as_slice-4.result.now
    (c.as_slice-5.ensures.value ∙ c.in_ok-choices.ensures) c.hole-hole.ensures.task c.hole-hole.ensures.types (c.hole-hole.ensures.candidates ∙ c.as_slice-2.ensures ∙ sym c.as_slice-4.ensures) in
    joins_accepted s.task.now s.types.now c.as_slice-3.result.now c.as_slice-4.result.now may c.as_slice-5.result.now a b c.requires.same preds pairs offered (g.R.Receiver.accepts r) c.requires.accepts

pub returns-clause-gathered : goal.returns-clause-gathered
returns-clause-gathered g c =
    let s = c.args.self.now in
    let r = c.args.receiver.now in
    let a = entry_filled s.left.now c.args.parts.now.left.now in
    let b = entry_filled s.right.now c.args.parts.now.right.now in
    let may = g.R.Receiver.may r c.in-Some.findings in
    let preds = c.as_slice-3.ensures ∙ c.in_ok-preds.ensures in
    let pairs : c.as_slice-4.result.now ≡ crossed a.rows b.rows = c.as_slice-4.ensures ∙ c.in_ok-pairs.ensures ∙ ap (λ rows. crossed rows c.as_slice-rights.result.now) c.as_slice-lefts.ensures ∙ ap (crossed a.rows) c.as_slice-rights.ensures in
    let offered = same_hole (is_wanted may) c.as_slice-5.result.now c.hole-hole.result.task.now s.task.now c.hole-hole.result.types.now s.types.now c.hole-hole.result.candidates.now c.as_slice-4.result.now
    (c.as_slice-5.ensures.value ∙ c.in_ok-choices.ensures) c.hole-hole.ensures.task c.hole-hole.ensures.types (c.hole-hole.ensures.candidates ∙ c.as_slice-2.ensures ∙ sym c.as_slice-4.ensures) in
    let sifts = sifts_there (g.R.Receiver.gives r) s.types.now c.as_slice.result.now c.as_slice-4.result.now (g.R.Receiver.may r) c.in_ok-findings.field-0 c.in-Some.findings c.in_ok-findings.ensures.sifts c.in-Some.is (c.as_slice.ensures ∙ sym c.as_slice-4.ensures) in
    let same = joins_alike s.task.now s.types.now c.as_slice-3.result.now c.as_slice-4.result.now may c.as_slice-5.result.now a b c.requires.same preds pairs offered (g.R.Receiver.gives r) sifts in
    on_ok_weaker c.take.result (gathered_alike (g.R.Receiver.held r) (g.R.Receiver.gives r) c.args.store.now c.take.new.store _ _ same) c.take.ensures.gathered

pub returns-clause-heavy : goal.returns-clause-heavy
returns-clause-heavy g c is =
    let s = c.args.self.now in
    let r = c.args.receiver.now in
    let a = entry_filled s.left.now c.args.parts.now.left.now in
    let b = entry_filled s.right.now c.args.parts.now.right.now in
    let may = g.R.Receiver.may r c.in-Some.findings in
    let preds = c.as_slice-3.ensures ∙ c.in_ok-preds.ensures in
    let pairs : c.as_slice-4.result.now ≡ crossed a.rows b.rows = c.as_slice-4.ensures ∙ c.in_ok-pairs.ensures ∙ ap (λ rows. crossed rows c.as_slice-rights.result.now) c.as_slice-lefts.ensures ∙ ap (crossed a.rows) c.as_slice-rights.ensures in
    let offered = same_hole (is_wanted may) c.as_slice-5.result.now c.hole-hole.result.task.now s.task.now c.hole-hole.result.types.now s.types.now c.hole-hole.result.candidates.now c.as_slice-4.result.now
    (c.as_slice-5.ensures.value ∙ c.in_ok-choices.ensures) c.hole-hole.ensures.task c.hole-hole.ensures.types (c.hole-hole.ensures.candidates ∙ c.as_slice-2.ensures ∙ sym c.as_slice-4.ensures) in
    let sifts = sifts_there (g.R.Receiver.gives r) s.types.now c.as_slice.result.now c.as_slice-4.result.now (g.R.Receiver.may r) c.in_ok-findings.field-0 c.in-Some.findings c.in_ok-findings.ensures.sifts c.in-Some.is (c.as_slice.ensures ∙ sym c.as_slice-4.ensures) in
    let same = joins_alike s.task.now s.types.now c.as_slice-3.result.now c.as_slice-4.result.now may c.as_slice-5.result.now a b c.requires.same preds pairs offered (g.R.Receiver.gives r) sifts in
    too_much_alike (g.R.Receiver.bound r) (g.R.Receiver.weighs r) (g.R.Receiver.gives r) (g.R.Receiver.held r c.args.store.now) _ _ same (c.take.ensures.heavy is)

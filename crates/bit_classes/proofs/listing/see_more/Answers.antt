use Rattle.std.proofs.Common.{◌≡◌, sym, ap, ◌∙◌, ◌+◌, ◌*◌, nat_le, if◌then◌else◌, [], Ok, Err}
use Rattle.std.proofs.lemmas.Result.{err_from_is_err_and}
use Rattle.bit_classes.specs.declared.join.Join.TheVariants.{And, Or}
use Rattle.bit_classes.specs.Walk.{Walk, sifted, numbered, told_two, told_three}
use Rattle.bit_classes.proofs.WalkLaws.{sees_same}
use Rattle.bit_classes.proofs.SplitLaws.{sifted_widths}
use Rattle.bit_classes.proofs.PartLaws.{sees_parts, sees_first_part, length-told_two, more_from_two, more_of_three}
use Rattle.bit_classes.proofs.listing.see_more.Goals as goal

pub see_two-requires-clause-ands : goal.see_two-requires-clause-ands
see_two-requires-clause-ands g c =
    let may = g.S.Sieve.may c.args.sieve.now in
    let ands_is : c.as_slice.result.now ≡ sifted (may And) c.args.rows.now = c.as_slice.ensures.value ∙ c.in_ok-ands.ensures in
    rw ands_is (sifted_widths c.args.found.now.width (may And) c.args.rows.now c.requires.widths)

pub see_two-requires-clause-ors : goal.see_two-requires-clause-ors
see_two-requires-clause-ors g c =
    let may = g.S.Sieve.may c.args.sieve.now in
    let ors_is : c.as_slice-2.result.now ≡ sifted (may Or) c.args.rows.now = c.as_slice-2.ensures.value ∙ c.in_ok-ors.ensures in
    rw ors_is (sifted_widths c.args.found.now.width (may Or) c.args.rows.now c.requires.widths)

pub returns-in_err-see_two : goal.returns-in_err-see_two
returns-in_err-see_two g c =
    let may = g.S.Sieve.may c.args.sieve.now in
    let rows = c.args.rows.now in
    let ands = sifted (may And) rows in
    let ors = sifted (may Or) rows in
    let ands_is : c.as_slice.result.now ≡ ands = c.as_slice.ensures.value ∙ c.in_ok-ands.ensures in
    let ors_is : c.as_slice-2.result.now ≡ ors = c.as_slice-2.ensures.value ∙ c.in_ok-ors.ensures in
    let three = if nat_le 3 c.args.bound then told_three may ands ors else [] in
    let all = ap (numbered c.args.number) (sym (more_from_two may rows c.args.bound c.if-bound-lt2.false)) in
    let end = c.in_err-see_two.field-0.0 in
    let stopped = sees_same c.args.found.now c.see_two.new.found (Err end) _ _ (λ k. numbered c.args.number (told_two (ands_is k) (ors_is k))) c.in_err-see_two.ensures in
    let p = err_from_is_err_and c.from_residual-in_err-see_two.result c.from_residual-in_err-see_two.ensures.1 in
    rw (p.1, p.2) (sees_same c.args.found.now c.see_two.new.found (Err end) _ _ all (sees_first_part c.args.found.now c.see_two.new.found c.see_two.new.found c.args.number (told_two ands ors) three end stopped))

pub see_three-requires-clause-ands : goal.see_three-requires-clause-ands
see_three-requires-clause-ands g c =
    let may = g.S.Sieve.may c.args.sieve.now in
    let ands_is : c.as_slice-3.result.now ≡ sifted (may And) c.args.rows.now = c.as_slice-3.ensures.value ∙ c.in_ok-ands.ensures in
    let kept = ap (λ (w : Walk). w.width) c.in_ok-see_two.ensures in
    rw (ands_is, kept) (sifted_widths c.args.found.now.width (may And) c.args.rows.now c.requires.widths)

pub see_three-requires-clause-ors : goal.see_three-requires-clause-ors
see_three-requires-clause-ors g c =
    let may = g.S.Sieve.may c.args.sieve.now in
    let ors_is : c.as_slice-4.result.now ≡ sifted (may Or) c.args.rows.now = c.as_slice-4.ensures.value ∙ c.in_ok-ors.ensures in
    let kept = ap (λ (w : Walk). w.width) c.in_ok-see_two.ensures in
    rw (ors_is, kept) (sifted_widths c.args.found.now.width (may Or) c.args.rows.now c.requires.widths)

pub returns : goal.returns
returns g c =
    let may = g.S.Sieve.may c.args.sieve.now in
    let rows = c.args.rows.now in
    let ands = sifted (may And) rows in
    let ors = sifted (may Or) rows in
    let ands_is : c.as_slice.result.now ≡ ands = c.as_slice.ensures.value ∙ c.in_ok-ands.ensures in
    let ors_is : c.as_slice-2.result.now ≡ ors = c.as_slice-2.ensures.value ∙ c.in_ok-ors.ensures in
    let ands_still : c.as_slice-3.result.now ≡ ands = c.as_slice-3.ensures.value ∙ c.in_ok-ands.ensures in
    let ors_still : c.as_slice-4.result.now ≡ ors = c.as_slice-4.ensures.value ∙ c.in_ok-ors.ensures in
    let all = ap (numbered c.args.number) (sym (more_of_three may rows c.args.bound c.if-bound-lt2.false c.if-bound-lt3.false)) in
    let next = c.args.number + 2 * c.pair_count.result in
    let next_is = ap (λ k. c.args.number + k) (ap (λ k. 2 * k) c.pair_count.ensures.count ∙ sym (length-told_two may rows)) in
    let first = sees_same c.args.found.now c.see_two.new.found (Ok tt) _ _ (λ k. numbered c.args.number (told_two (ands_is k) (ors_is k))) c.in_ok-see_two.ensures in
    let second = sees_same c.see_two.new.found c.see_three.new.found c.see_three.result _ _ (λ k. numbered next (told_three may (ands_still k) (ors_still k))) c.see_three.ensures in
    sees_same c.args.found.now c.see_three.new.found c.see_three.result _ _ all
    (sees_parts c.args.found.now c.see_two.new.found c.see_three.new.found c.args.number next (told_two ands ors) (told_three may ands ors) c.see_three.result next_is first second)

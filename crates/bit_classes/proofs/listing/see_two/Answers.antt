use Rattle.std.proofs.Common.{sym, ap, ◌∙◌, ◌+◌}
use Rattle.std.proofs.lemmas.Result.{err_from_is_err_and}
use Rattle.bit_classes.specs.declared.join.Join.TheVariants.{And, Or}
use Rattle.bit_classes.specs.Walk.{told_pairs}
use Rattle.bit_classes.proofs.PartLaws.{sees_parts, sees_first_part, length-told_pairs}
use Rattle.bit_classes.proofs.listing.see_two.Goals as goal

pub returns-in_err-see_later : goal.returns-in_err-see_later
returns-in_err-see_later c =
    let ands = told_pairs And c.args.ands.now in
    let ors = told_pairs Or c.args.ors.now in
    let p = err_from_is_err_and c.from_residual.result c.from_residual.ensures.1 in
    rw (p.1, p.2) (sees_first_part c.args.found.now c.see_later.new.found c.see_later.new.found c.args.number ands ors c.in_err-see_later.field-0.0 c.in_err-see_later.ensures)

pub returns : goal.returns
returns c =
    let ands = told_pairs And c.args.ands.now in
    let ors = told_pairs Or c.args.ors.now in
    let next = ap (λ k. c.args.number + k) (c.pair_count.ensures.count ∙ sym (length-told_pairs And c.args.ands.now)) in
    sees_parts c.args.found.now c.see_later.new.found c.see_later-2.new.found c.args.number (c.args.number + c.pair_count.result) ands ors c.see_later-2.result next c.in_ok-see_later.ensures c.see_later-2.ensures

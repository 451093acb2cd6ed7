use Rattle.std.proofs.Common.{[], sym, ap, ◌∙◌, ◌+◌}
use Rattle.std.proofs.lemmas.Result.{err_from_is_err_and}
use Rattle.bit_classes.specs.declared.join.Join.TheVariants.{And, Or}
use Rattle.bit_classes.specs.Walk.{told_triples}
use Rattle.bit_classes.proofs.PartLaws.{sees_parts, sees_first_part, length-told_triples}
use Rattle.bit_classes.proofs.listing.see_three.Goals as goal

pub returns-in_err-see_triples : goal.returns-in_err-see_triples
returns-in_err-see_triples g c =
    let may = g.S.Sieve.may c.args.sieve.now in
    let ands = told_triples (may And) And [] c.args.ands.now in
    let ors = told_triples (may Or) Or [] c.args.ors.now in
    let p = err_from_is_err_and c.from_residual.result c.from_residual.ensures.1 in
    rw (p.1, p.2) (sees_first_part c.args.found.now c.see_triples.new.found c.see_triples.new.found c.args.number ands ors c.in_err-see_triples.field-0.0 c.in_err-see_triples.ensures)

pub returns : goal.returns
returns g c =
    let may = g.S.Sieve.may c.args.sieve.now in
    let ands = told_triples (may And) And [] c.args.ands.now in
    let ors = told_triples (may Or) Or [] c.args.ors.now in
    let next = ap (λ k. c.args.number + k) (c.triple_count.ensures.count ∙ sym (length-told_triples (may And) And [] c.args.ands.now)) in
    sees_parts c.args.found.now c.see_triples.new.found c.see_triples-2.new.found c.args.number (c.args.number + c.triple_count.result) ands ors c.see_triples-2.result next c.in_ok-see_triples.ensures c.see_triples-2.ensures

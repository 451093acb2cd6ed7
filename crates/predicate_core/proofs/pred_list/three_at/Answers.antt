use Rattle.std.proofs.Common.{◌≡◌, ◌+◌, ◌-◌, ◌<◌, length, option_map, sym, ap, ◌∙◌, arith}
use Rattle.predicate_core.specs.declared.atom.Atom.{Atom}
use Rattle.predicate_core.specs.declared.pred.Pred.{Pred}
use Rattle.predicate_core.specs.declared.pred.Pred.TheVariants.{And3, Or3}
use Rattle.predicate_core.specs.Atoms.{triples}
use Rattle.predicate_core.proofs.NumberLaws.{joined_front, joined_back, length-triples}
use Rattle.predicate_core.proofs.pred_list.three_at.Goals as goal

abbrev by_and : Atom × Atom × Atom → Pred
by_and p = And3 p.0 p.1 p.2

abbrev by_or : Atom × Atom × Atom → Pred
by_or p = Or3 p.0 p.1 p.2

pub returns-then-number-count : goal.returns-then-number-count
returns-then-number-count c =
    let atoms = c.args.atoms.now in
    let below : c.args.number < length (triples atoms) = rw (length-triples atoms) (rw c.triple_count-count.ensures.count at c.if-number-count.true) in
    c.and_three.ensures ∙ (ap (option_map by_and) c.triple_at.ensures ∙ sym (joined_front by_and by_or (triples atoms) c.args.number below))

pub returns-else-number-count : goal.returns-else-number-count
returns-else-number-count c =
    let atoms = c.args.atoms.now in
    let count = c.triple_count-count.result in
    let past : c.args.number ≡ length (triples atoms) + (c.args.number - count) = rw (length-triples atoms, ← c.triple_count-count.ensures.count) (omega arith) in
    c.or_three.ensures ∙ (ap (option_map by_or) c.triple_at-else-number-count.ensures ∙ sym (joined_back by_and by_or (triples atoms) (c.args.number - count) c.args.number past))

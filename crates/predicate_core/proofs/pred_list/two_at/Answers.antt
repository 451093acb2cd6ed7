use Rattle.std.proofs.Common.{◌≡◌, ◌+◌, ◌-◌, ◌<◌, length, option_map, sym, ap, ◌∙◌, arith}
use Rattle.predicate_core.specs.declared.atom.Atom.{Atom}
use Rattle.predicate_core.specs.declared.pred.Pred.{Pred}
use Rattle.predicate_core.specs.declared.pred.Pred.TheVariants.{And2, Or2}
use Rattle.predicate_core.specs.Atoms.{pairs}
use Rattle.predicate_core.proofs.NumberLaws.{joined_front, joined_back, length-pairs}
use Rattle.predicate_core.proofs.pred_list.two_at.Goals as goal

abbrev by_and : Atom × Atom → Pred
by_and p = And2 p.0 p.1

abbrev by_or : Atom × Atom → Pred
by_or p = Or2 p.0 p.1

pub returns-then-number-count : goal.returns-then-number-count
returns-then-number-count c =
    let atoms = c.args.atoms.now in
    let below : c.args.number < length (pairs atoms) = rw (length-pairs atoms) (rw c.pair_count-count.ensures.count at c.if-number-count.true) in
    c.and_two.ensures ∙ (ap (option_map by_and) c.pair_at.ensures ∙ sym (joined_front by_and by_or (pairs atoms) c.args.number below))

pub returns-else-number-count : goal.returns-else-number-count
returns-else-number-count c =
    let atoms = c.args.atoms.now in
    let count = c.pair_count-count.result in
    let past : c.args.number ≡ length (pairs atoms) + (c.args.number - count) = rw (length-pairs atoms, ← c.pair_count-count.ensures.count) (omega arith) in
    c.or_two.ensures ∙ (ap (option_map by_or) c.pair_at-else-number-count.ensures ∙ sym (joined_back by_and by_or (pairs atoms) (c.args.number - count) c.args.number past))

use Rattle.std.proofs.Common.{sym, ◌∙◌, ◌-◌, length, arith}
use Rattle.value_core.specs.declared.comparison.CmpOp.TheVariants.{Eq}
use Rattle.predicate_core.specs.declared.atom.Atom.TheVariants.{Cols}
use Rattle.predicate_core.proofs.NumberLaws.{pair_here, pair_later}
use Rattle.predicate_core.proofs.numbers.pair_at.Goals as goal

pub returns-then-k-rest : goal.returns-then-k-rest
returns-then-k-rest c = sym (pair_here c.args.atoms.now c.loop-i.i c.loop-i.k (Cols 0 Eq 0) c.loop-i-test.true c.if-k-rest.true) ∙ c.loop-i.invariant

pub loop-i-preserved : goal.loop-i-preserved
loop-i-preserved c =
    let atoms = c.args.atoms.now in
    let rest = length atoms - c.loop-i.i - 1 in
    sym (pair_later atoms c.loop-i.i c.loop-i.k (c.loop-i.k - rest) (Cols 0 Eq 0) c.loop-i-test.true (omega arith)) ∙ c.loop-i.invariant

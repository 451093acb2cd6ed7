use Rattle.std.proofs.Common.{◌≡◌, ◌<◌, ◌-◌, ◌+◌, length, drop, sym, ◌∙◌, arith}
use Rattle.std.proofs.lemmas.List.{take_rest}
use Rattle.value_core.specs.declared.comparison.CmpOp.TheVariants.{Eq}
use Rattle.predicate_core.specs.declared.atom.Atom.TheVariants.{Cols}
use Rattle.predicate_core.specs.Counts.{pair_count}
use Rattle.predicate_core.proofs.NumberLaws.{triple_found, triple_later}
use Rattle.predicate_core.proofs.numbers.triple_at.Goals as goal

pub returns-in_err-b : goal.returns-in_err-b
returns-in_err-b c =
    let atoms = c.args.atoms.now in
    let i = c.loop-i.i in
    let counted = rw (take_rest atoms (i + 1)) at c.pair_count-rest.ensures.count in
    let pair = rw (take_rest atoms (i + 1)) at c.pair_at.ensures in
    let within : c.loop-i.k < pair_count (length (drop (i + 1) atoms)) = rw counted at c.if-k-rest.true in
    let found = triple_found atoms i c.loop-i.k (Cols 0 Eq 0) c.pair_at.result c.loop-i-test.true within pair in
    c.from_residual.ensures ∙ (sym (rw c.in_err-b.was at found) ∙ c.loop-i.invariant)

pub returns-then-k-rest : goal.returns-then-k-rest
returns-then-k-rest c =
    let atoms = c.args.atoms.now in
    let i = c.loop-i.i in
    let counted = rw (take_rest atoms (i + 1)) at c.pair_count-rest.ensures.count in
    let pair = rw (take_rest atoms (i + 1)) at c.pair_at.ensures in
    let within : c.loop-i.k < pair_count (length (drop (i + 1) atoms)) = rw counted at c.if-k-rest.true in
    let found = triple_found atoms i c.loop-i.k (Cols 0 Eq 0) c.pair_at.result c.loop-i-test.true within pair in
    sym (rw c.in_ok-b.was at found) ∙ c.loop-i.invariant

pub loop-i-preserved : goal.loop-i-preserved
loop-i-preserved c =
    let atoms = c.args.atoms.now in
    let i = c.loop-i.i in
    let counted = rw (take_rest atoms (i + 1)) at c.pair_count-rest.ensures.count in
    let past : c.loop-i.k ≡ pair_count (length (drop (i + 1) atoms)) + (c.loop-i.k - c.pair_count-rest.result) = rw (← counted) (omega arith) in
    sym (triple_later atoms i c.loop-i.k (c.loop-i.k - c.pair_count-rest.result) (Cols 0 Eq 0) c.loop-i-test.true past) ∙ c.loop-i.invariant

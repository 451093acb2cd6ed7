use Rattle.std.proofs.Common.{◌≡◌, length, drop}
use Rattle.std.specs.Cmp.Lexicographic.{pointwise}
use Rattle.table_core.specs.Bag.{same_cells}
use Rattle.fill_core.proofs.same.same_tuples.Given as goal

abbrev pub invariant-loop-i : goal.invariant-loop-i
invariant-loop-i l = (length l.a ≡ length l.b) × (pointwise same_cells l.a l.b ≡ pointwise same_cells (drop l.i l.a) (drop l.i l.b))

use Rattle.std.proofs.Common.{◌≡◌, length, drop}
use Rattle.table_core.specs.Bag.{same_cells}
use Rattle.table_core.proofs.bag.same_cells.Given as goal

abbrev pub invariant-loop-i : goal.invariant-loop-i
invariant-loop-i l = (length l.a ≡ length l.b) × (same_cells l.a l.b ≡ same_cells (drop l.i l.a) (drop l.i l.b))

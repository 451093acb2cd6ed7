use Rattle.std.proofs.Common.{◌≡◌, length, map, drop}
use Rattle.table_core.specs.Bag.{same_cells}
use Rattle.over_cells.specs.Cells.{value_of}
use Rattle.over_eval.specs.Over.{cell_at}
use Rattle.over_eval.proofs.members.have_values.Given as goal

abbrev pub invariant-loop-i : goal.invariant-loop-i
invariant-loop-i l = (length l.keys ≡ length l.values) × (same_cells (map (λ at. value_of (cell_at l.cells at)) l.keys) l.values ≡ same_cells (map (λ at. value_of (cell_at l.cells at)) (drop l.i l.keys)) (drop l.i l.values))

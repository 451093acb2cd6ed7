use Rattle.std.proofs.Common.{◌≡◌, drop}
use Rattle.table_core.specs.Rows.{wrong_cell}
use Rattle.table_core.proofs.table.wrong_cell.Given as goal

abbrev pub invariant-loop-at : goal.invariant-loop-at
invariant-loop-at l = wrong_cell 0 l.columns l.cells ≡ wrong_cell l.at (drop l.at l.columns) (drop l.at l.cells)

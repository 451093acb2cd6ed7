use Rattle.std.proofs.Common.{◌≡◌, ◌++◌, take}
use Rattle.over_eval.proofs.row.push_cells.Given as goal

abbrev pub invariant-loop-cell : goal.invariant-loop-cell
invariant-loop-cell l = l.out.items ≡ l.initial.out.items ++ take l.cell-index l.cells

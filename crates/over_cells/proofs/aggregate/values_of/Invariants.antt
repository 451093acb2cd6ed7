use Rattle.std.proofs.Common.{◌≡◌, map, take}
use Rattle.over_cells.specs.Cells.{value_of}
use Rattle.over_cells.proofs.aggregate.values_of.Given as goal

abbrev pub invariant-loop-cell : goal.invariant-loop-cell
invariant-loop-cell l = l.values ≡ map value_of (take l.cell-index l.cells)

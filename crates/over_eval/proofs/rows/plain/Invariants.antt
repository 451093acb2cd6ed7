use Rattle.std.proofs.Common.{◌≡◌, take}
use Rattle.over_eval.specs.Over.{plain}
use Rattle.over_eval.proofs.rows.plain.Given as goal

abbrev pub invariant-loop-cell : goal.invariant-loop-cell
invariant-loop-cell l = l.values.items ≡ plain (take l.cell-index l.cells)

use Rattle.std.proofs.Common.{◌≡◌, take}
use Rattle.over_eval.specs.Over.{exact_row}
use Rattle.over_eval.proofs.rows.exact_row.Given as goal

abbrev pub invariant-loop-value : goal.invariant-loop-value
invariant-loop-value l = l.cells.items ≡ exact_row (take l.value-index l.row)

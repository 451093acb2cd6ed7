use Rattle.std.proofs.Common.{◌≡◌, map, take}
use Rattle.over_eval.specs.Over.{exact_row}
use Rattle.over_eval.proofs.rows.exact_rows.Given as goal

abbrev pub invariant-loop-row : goal.invariant-loop-row
invariant-loop-row l = l.out ≡ map exact_row (take l.row-index l.rows)

use Rattle.std.proofs.Common.{◌≡◌, map, take}
use Rattle.over_eval.specs.Over.{plain}
use Rattle.over_eval.proofs.rows.plain_rows.Given as goal

abbrev pub invariant-loop-row : goal.invariant-loop-row
invariant-loop-row l = l.out ≡ map plain (take l.row-index l.rows)

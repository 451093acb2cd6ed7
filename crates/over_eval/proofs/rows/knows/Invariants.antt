use Rattle.std.proofs.Common.{◌≡◌, drop}
use Rattle.over_eval.specs.Over.{knows}
use Rattle.over_eval.proofs.rows.knows.Given as goal

abbrev pub invariant-loop-at : goal.invariant-loop-at
invariant-loop-at l = knows l.keys l.cells ≡ knows (drop l.at-index l.keys) l.cells

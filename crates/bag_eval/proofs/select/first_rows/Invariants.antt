use Rattle.std.proofs.Common.{◌≡◌, take}
use Rattle.query_core.specs.Firsts.{firsts}
use Rattle.bag_eval.proofs.select.first_rows.Given as goal

abbrev pub invariant-loop-row : goal.invariant-loop-row
invariant-loop-row l = l.out ≡ firsts (take l.row-index l.rows)

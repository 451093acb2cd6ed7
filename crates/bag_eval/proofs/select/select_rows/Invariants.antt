use Rattle.std.proofs.Common.{◌≡◌, map, take}
use Rattle.query_core.specs.Firsts.{projected}
use Rattle.bag_eval.proofs.select.select_rows.Given as goal

abbrev pub invariant-loop-row : goal.invariant-loop-row
invariant-loop-row l = l.out ≡ map (projected l.picks) (take l.row-index l.rows)

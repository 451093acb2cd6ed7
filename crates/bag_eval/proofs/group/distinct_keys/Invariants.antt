use Rattle.std.proofs.Common.{◌≡◌, map, take}
use Rattle.query_core.specs.Firsts.{projected, firsts}
use Rattle.bag_eval.proofs.group.distinct_keys.Given as goal

abbrev pub invariant-loop-row : goal.invariant-loop-row
invariant-loop-row l = l.out ≡ firsts (map (projected l.keys) (take l.row-index l.rows))

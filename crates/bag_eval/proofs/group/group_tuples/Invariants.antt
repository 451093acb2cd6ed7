use Rattle.std.proofs.Common.{◌≡◌, ◌++◌, map, drop, option_map}
use Rattle.query_core.specs.Groups.{group_row, all_some, grouped}
use Rattle.bag_eval.proofs.group.group_tuples.Given as goal

abbrev pub invariant-loop-key : goal.invariant-loop-key
invariant-loop-key l = option_map (λ rest. l.out ++ rest) (all_some (map (group_row l.keys l.agg l.rows) (drop l.key-index l.key-items))) ≡ grouped l.keys l.agg l.rows

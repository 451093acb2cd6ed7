use Rattle.std.proofs.Common.{◌≡◌, ◌++◌, drop}
use Rattle.query_core.specs.Groups.{values_of, members}
use Rattle.bag_eval.proofs.group.member_values.Given as goal

abbrev pub invariant-loop-row : goal.invariant-loop-row
invariant-loop-row l = l.out ++ values_of l.column (members l.keys (drop l.row-index l.rows) l.key) ≡ values_of l.column (members l.keys l.rows l.key)

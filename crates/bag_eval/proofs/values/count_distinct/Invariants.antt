use Rattle.std.proofs.Common.{◌≡◌, ◌≤◌, length, take}
use Rattle.query_core.specs.Groups.{distinct_values}
use Rattle.bag_eval.proofs.values.count_distinct.Given as goal

abbrev pub invariant-loop-i : goal.invariant-loop-i
invariant-loop-i l = (l.count ≡ length (distinct_values (take l.i l.values))) × (l.count ≤ l.i)

use Rattle.std.proofs.Common.{◌≡◌, drop}
use Rattle.table_core.specs.Limits.{all_distinct}
use Rattle.value_core.specs.Value.{same}
use Rattle.table_core.proofs.limits.are_values_distinct.Given as goal

abbrev pub invariant-loop-i : goal.invariant-loop-i
invariant-loop-i l = all_distinct same l.values ≡ all_distinct same (drop l.i l.values)

use Rattle.std.proofs.Common.{◌≡◌, ◌++◌, take}
use Rattle.table_core.proofs.task.push_values.Given as goal

abbrev pub invariant-loop-value : goal.invariant-loop-value
invariant-loop-value l = l.out ≡ l.initial.out ++ take l.value-index l.values

use Rattle.std.proofs.Common.{◌≡◌, length}
use Rattle.value_core.specs.Value.{same}
use Rattle.task_file.specs.TaskFile.{all_distinct}
use Rattle.task_file.proofs.constants.all_distinct.Given as goal

abbrev pub invariant-loop-value : goal.invariant-loop-value
invariant-loop-value l = all_distinct same l.rest ≡ all_distinct same l.values

abbrev pub decreases-loop-value : goal.decreases-loop-value
decreases-loop-value l = length l.rest

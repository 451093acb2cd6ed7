use Rattle.std.proofs.Common.{◌≡◌, length}
use Rattle.std.specs.Str.{bytes_eq}
use Rattle.task_file.specs.TaskFile.{all_distinct}
use Rattle.task_file.proofs.aggregates.all_distinct.Given as goal

abbrev pub invariant-loop-name : goal.invariant-loop-name
invariant-loop-name l = all_distinct bytes_eq l.rest ≡ all_distinct bytes_eq l.names

abbrev pub decreases-loop-name : goal.decreases-loop-name
decreases-loop-name l = length l.rest

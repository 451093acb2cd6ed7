-- How large a task is.
use Rattle.std.specs.Prelude.{Bool, nat_le, length}
use Rattle.table_core.specs.declared.task.TaskParts.{TaskParts}
use Rattle.query_core.specs.Grammar.{skeletons}

-- whether a task has at most 100,000 skeletons
abbrev pub has_few_skeletons : TaskParts → Bool
has_few_skeletons task = nat_le (length (skeletons task)) 100000

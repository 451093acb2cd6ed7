use Rattle.toml.specs.View.{table_view}
use Rattle.task_file.proofs.Limits.{makes_task}
use Rattle.task_file.proofs.task.read_task_file.Goals as goal

pub returns-in-Ok-clause-limits : goal.returns-in-Ok-clause-limits
returns-in-Ok-clause-limits c = makes_task (table_view c.in-Some.table) c.in-Ok.task c.in-Ok.ensures

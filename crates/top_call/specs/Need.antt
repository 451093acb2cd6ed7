-- What a search of a task needs of its budget.
use Rattle.std.specs.Prelude.{ℕ, ◌+◌, Bool, ◌||◌, nat_le, List, length}
use Rattle.std.specs.Prelude.{filter as list_filter}
use Rattle.std.specs.List.{list_any, sum_by}
use Rattle.table_core.specs.declared.task.TaskParts.{TaskParts}
use Rattle.query_core.specs.Tree.{Tree}
use Rattle.query_core.specs.Grammar.{skeletons}
use Rattle.query_core.specs.Answers.{answers}
use Rattle.skeleton_graph.specs.Below.{has_below}
use Rattle.fill_core.specs.View.{weight_of}
use Rattle.over_eval.specs.Laws.{live_skeletons}

-- the parts that a search of a task fills: the skeletons that some live skeleton has below itself
abbrev pub live_parts : TaskParts → List Tree
live_parts task = list_filter (λ part. list_any (λ s. has_below s.1 part) (live_skeletons task)) (skeletons task)

-- what a search of a task needs of its budget: the weights of these parts, and the number of answers
abbrev pub need : TaskParts → ℕ
need task = sum_by (weight_of task) (live_parts task) + length (answers task)

-- whether a task is answered: by plain listing always, and else where its budget is no less than the need
abbrev pub is_allowed : Bool → TaskParts → Bool
is_allowed plain task = plain || nat_le (need task) task.budget

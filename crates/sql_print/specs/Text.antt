-- The text of a run.
use Rattle.std.specs.Prelude.{ℕ, List, [], ◌∷◌, ◌++◌, flat_map, length, take, codes, ◌==◌, if◌then◌else◌}
use Rattle.std.specs.List.{enumerate_from}
use Rattle.std.specs.Fmt.{decimal}
use Rattle.table_core.specs.declared.task.TaskParts.{TaskParts}
use Rattle.query_core.specs.Answers.{RankedQuery, answers}
use Rattle.sql_print.specs.Sql.{sql}

-- the line with the number of answers
abbrev pub count_line : ℕ → List ℕ
count_line n = decimal n ++ (if n == 1 then codes " query" else codes " queries") ++ 10 ∷ []

-- the line of an answer with its number
abbrev pub answer_line : TaskParts → ℕ × RankedQuery → List ℕ
answer_line task p = decimal p.0 ++ codes ": " ++ sql task p.1.query ++ 10 ∷ []

-- the number of all of these, then the first `show` of them, numbered from 1
abbrev pub text_of : TaskParts → List RankedQuery → List ℕ
text_of task list = count_line (length list) ++ flat_map (answer_line task) (enumerate_from 1 (take task.show list))

-- the text of a task
abbrev pub text : TaskParts → List ℕ
text task = text_of task (answers task)

-- The answers of a task: the standard queries of its grammar that give the output, best first.
use Rattle.std.specs.Prelude.{Bool, false, ◌&&◌, ◌==◌, List, [], ◌∷◌, map, length, Option, Some, None, if◌then◌else◌}
use Rattle.std.specs.Prelude.{filter as list_filter}
use Rattle.table_core.specs.Rows.{Row}
use Rattle.table_core.specs.Bag.{same_rows}
use Rattle.table_core.specs.declared.task.TaskParts.{TaskParts}
use Rattle.query_core.specs.Tree.{Select}
use Rattle.query_core.specs.Meaning.{answer}
use Rattle.query_core.specs.Grammar.{Numbered, queries}
use Rattle.query_core.specs.Standard.{is_standard}
use Rattle.query_core.specs.Rank.{Key, key, before}

-- whether a query's rows are the output's: as many columns, and the same bag
abbrev pub are_output : TaskParts → Select → Option (List Row) → Bool
are_output task q None = false
are_output task q (Some given) = (length q.picks == length task.output.columns) && same_rows given task.output.rows

-- whether a query gives the example output
abbrev pub gives : TaskParts → Select → Bool
gives task q = are_output task q (answer task.inputs task.constants q)

-- a query with its key
pub record RankedQuery : Type 0 where
  pub key : Key
  pub query : Select

-- a numbered query with its key
abbrev pub ranked : TaskParts → Numbered → RankedQuery
ranked task n = record { key = key task n.skeleton n.query; query = n.query }

-- whether a ranked query comes strictly before another
abbrev pub comes_before : RankedQuery → RankedQuery → Bool
comes_before a b = before a.key b.key

-- an element put into a list, in front of the first that doesn't come before it
abbrev pub placed : {X : Type 0} → (X → X → Bool) → X → List X → List X
placed first x [] = x ∷ []
placed first x (y ∷ ys) = if first y x then y ∷ placed first x ys else x ∷ y ∷ ys

-- the elements of a list in ascending order; those that tie keep their order
abbrev pub ascending : {X : Type 0} → (X → X → Bool) → List X → List X
ascending first [] = []
ascending first (x ∷ xs) = placed first x (ascending first xs)

-- whether a query is an answer: it is standard and gives the output
abbrev pub is_answer : TaskParts → Numbered → Bool
is_answer task n = is_standard task n.query && gives task n.query

-- the answers in the grammar's order
abbrev pub found : TaskParts → List Numbered
found task = list_filter (is_answer task) (queries task)

-- the answers of a task, best first
abbrev pub answers : TaskParts → List RankedQuery
answers task = ascending comes_before (map (ranked task) (found task))

-- Laws of abstract rows: no answer is lost where only live skeletons are filled.
use Rattle.std.specs.Prelude.{◌≡◌, ℕ, true, false, ◌⊎◌, ◌↔◌, List, [], map, flat_map, Some, None, Contains}
use Rattle.std.specs.Prelude.{filter as list_filter}
use Rattle.std.specs.List.{enumerate_from}
use Rattle.table_core.specs.Rows.{Row}
use Rattle.table_core.specs.declared.task.TaskParts.{TaskParts}
use Rattle.query_core.specs.Tree.{Tree}
use Rattle.query_core.specs.Tree as t
use Rattle.query_core.specs.Meaning.{rows}
use Rattle.query_core.specs.Grammar.{skeletons, fillings, numbered}
use Rattle.query_core.specs.Answers.{is_answer, found}
use Rattle.over_eval.specs.Over.{AbsRow, has_hole, over}
use Rattle.over_eval.specs.Live.{covers_row, live}
use Rattle.over_eval.specs.Placed.{Placed}

-- a row is covered by an abstract row
abbrev pub IsCovered : Row → AbsRow → Type 0
IsCovered row cells = covers_row cells row ≡ true

-- each row has an abstract row, of its own, that covers it
abbrev pub AreCovered : List Row → List AbsRow → Type 0
AreCovered given abstract = Placed IsCovered given abstract

-- where a filling of a skeleton has rows, the skeleton has abstract rows that cover them
abbrev pub RowsAreCovered : TaskParts → Type 0
RowsAreCovered task =
    (skeleton body : Tree) (given : List Row) → Contains (fillings task skeleton) body → rows task.inputs task.constants body ≡ Some given
    → (abstract : List AbsRow) × (over task skeleton ≡ Some abstract) × AreCovered given abstract

-- a skeleton that isn't live has no answer
abbrev pub OnlyLiveAnswer : TaskParts → Type 0
OnlyLiveAnswer task = (n : ℕ) (skeleton : Tree) → live task skeleton ≡ false → list_filter (is_answer task) (numbered task (n, skeleton)) ≡ []

-- the skeletons that are live, each with its number
abbrev pub live_skeletons : TaskParts → List (ℕ × Tree)
live_skeletons task = list_filter (λ s. live task s.1) (enumerate_from 0 (skeletons task))

-- the numbers of the live skeletons, ascending
abbrev pub live_numbers : TaskParts → List ℕ
live_numbers task = map (λ s. s.0) (live_skeletons task)

-- the answers of a task are those of its live skeletons, in order
abbrev pub AnswersOfLive : TaskParts → Type 0
AnswersOfLive task = found task ≡ list_filter (is_answer task) (flat_map (numbered task) (live_skeletons task))

-- a tree has no hole, and no rows
abbrev pub IsRowless : TaskParts → Tree → Type 0
IsRowless task tree = (has_hole tree ≡ false) × (rows task.inputs task.constants tree ≡ None)

-- a tree, or some part of it, has no hole and no rows
abbrev pub HasRowlessPart : TaskParts → Tree → Type 0
HasRowlessPart task (t.base table) = IsRowless task (t.base table)
HasRowlessPart task (t.filter child p) = IsRowless task (t.filter child p) ⊎ HasRowlessPart task child
HasRowlessPart task (t.pair kind a b p) = IsRowless task (t.pair kind a b p) ⊎ (HasRowlessPart task a ⊎ HasRowlessPart task b)
HasRowlessPart task (t.group child keys agg) = IsRowless task (t.group child keys agg) ⊎ HasRowlessPart task child
HasRowlessPart task (t.unite kind a b) = IsRowless task (t.unite kind a b) ⊎ (HasRowlessPart task a ⊎ HasRowlessPart task b)

-- a tree never has rows exactly where it, or some part of it, has no hole and no rows
abbrev pub NeverByRowlessPart : TaskParts → Type 0
NeverByRowlessPart task = (tree : Tree) → (over task tree ≡ None) ↔ HasRowlessPart task tree

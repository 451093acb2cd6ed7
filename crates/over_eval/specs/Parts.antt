-- What there is of a skeleton's parts.
use Rattle.std.specs.Prelude.{◌≡◌, List, Option}
use Rattle.table_core.specs.declared.task.TaskParts.{TaskParts}
use Rattle.query_core.specs.Tree.{Tree}
use Rattle.query_core.specs.Tree as t
use Rattle.over_eval.specs.Over.{AbsRow, over}

-- what there is of a skeleton's parts, by what there is of each skeleton: of its left part or its only one, and of its right part
abbrev pub ArePartsOf : {A : Type 0} → (Tree → Option A) → Tree → Option A → Option A → Type 0
ArePartsOf each (t.base table) left right = Unit
ArePartsOf each (t.filter child p) left right = left ≡ each child
ArePartsOf each (t.pair kind a b p) left right = (left ≡ each a) × (right ≡ each b)
ArePartsOf each (t.group child keys agg) left right = left ≡ each child
ArePartsOf each (t.unite kind a b) left right = (left ≡ each a) × (right ≡ each b)

-- the abstract rows of a skeleton's parts
abbrev pub AreOversOf : TaskParts → Tree → Option (List AbsRow) → Option (List AbsRow) → Type 0
AreOversOf task skeleton left right = ArePartsOf (over task) skeleton left right

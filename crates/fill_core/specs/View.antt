-- The plain data that entries and rows stand for.
use Rattle.std.specs.Prelude.{◌≡◌, ℕ, ◌+◌, Bool, true, ◌&&◌, List, map, length, is_some, Option, Some, None}
use Rattle.std.specs.List.{sum_by}
use Rattle.value_core.specs.declared.value.ColType.{ColType}
use Rattle.table_core.specs.declared.task.TaskParts.{TaskParts}
use Rattle.query_core.specs.Filled.{Filled, standard_fillings}
use Rattle.query_core.specs.Meaning.{columns}
use Rattle.query_core.specs.Tree.{Tree}
use Rattle.query_core.specs.Tree as t
use Rattle.fill_core.specs.declared.fillings.Entry.{Entry}
use Rattle.fill_core.specs.declared.fillings.Fillings.{Fillings}

-- an entry of columns of these types, as a filling
abbrev pub entry_filled : List ColType → Entry → Filled
entry_filled types e = record { types = types; preds = e.preds; rows = e.rows }

-- some entries
abbrev pub entries_filled : List ColType → List Entry → List Filled
entries_filled types entries = map (entry_filled types) entries

-- the fillings of a row
abbrev pub row_filled : Fillings → List Filled
row_filled r = entries_filled r.types r.entries

-- a row has the standard fillings of a skeleton, and the types of its columns
abbrev pub AreFillingsOf : TaskParts → Tree → Fillings → Type 0
AreFillingsOf task skeleton row = (row_filled row ≡ standard_fillings task skeleton) × (row.types ≡ columns task.inputs skeleton)

-- the row of a part is there, and is the one of this skeleton
abbrev pub IsPartOf : TaskParts → Tree → Option Fillings → Type 0
IsPartOf task skeleton None = ⊥
IsPartOf task skeleton (Some row) = AreFillingsOf task skeleton row

-- the rows of a skeleton's parts: of its left part or its only one, and of its right part
abbrev pub ArePartsOf : TaskParts → Tree → Option Fillings → Option Fillings → Type 0
ArePartsOf task (t.base table) left right = Unit
ArePartsOf task (t.filter child p) left right = IsPartOf task child left
ArePartsOf task (t.pair kind a b p) left right = IsPartOf task a left × IsPartOf task b right
ArePartsOf task (t.group child keys agg) left right = IsPartOf task child left
ArePartsOf task (t.unite kind a b) left right = IsPartOf task a left × IsPartOf task b right

-- whether the parts of a skeleton are there
abbrev pub has_parts : Tree → Option Fillings → Option Fillings → Bool
has_parts (t.base table) left right = true
has_parts (t.filter child p) left right = is_some left
has_parts (t.pair kind a b p) left right = is_some left && is_some right
has_parts (t.group child keys agg) left right = is_some left
has_parts (t.unite kind a b) left right = is_some left && is_some right

-- the weight of a filling: one and the number of its rows
abbrev pub filled_weight : Filled → ℕ
filled_weight f = length f.rows + 1

-- the weight of some entries: for each one and the number of its rows
abbrev pub entries_weight : List Entry → ℕ
entries_weight entries = sum_by (λ (e : Entry). length e.rows + 1) entries

-- the weight of a node's fillings
abbrev pub weight : Fillings → ℕ
weight row = entries_weight row.entries

-- the weight of a skeleton: that of its standard fillings
abbrev pub weight_of : TaskParts → Tree → ℕ
weight_of task skeleton = sum_by filled_weight (standard_fillings task skeleton)

-- What is told of the columns of a skeleton's abstract rows, and of a skeleton by what is told of its parts.
use Rattle.std.specs.Prelude.{ℕ, Bool, true, ◌==◌, List, length, Option, Some, None, option_map, option_and_then, if◌then◌else◌}
use Rattle.std.specs.List.{list_all}
use Rattle.value_core.specs.declared.value.ColType.{ColType}
use Rattle.value_core.specs.declared.value.Value.{Value}
use Rattle.table_core.specs.Rows.{TableData, types_of}
use Rattle.table_core.specs.declared.task.TaskParts.{TaskParts}
use Rattle.query_core.specs.Meaning.{columns}
use Rattle.query_core.specs.Tree.{Tree}
use Rattle.query_core.specs.Tree as t
use Rattle.map_walk.specs.Supply.{supplies_by, pair_supplies, group_supplies, opens}
use Rattle.map_walk.specs.declared.supply.Supply.{Supply}
use Rattle.over_cells.specs.Cells.{covers}
use Rattle.over_eval.specs.Over.{AbsRow, cell_at, over}
use Rattle.over_eval.specs.declared.kept.KeptPart.{KeptPart}

-- whether an abstract row may have a value in the column at a place
abbrev pub cells_have : AbsRow → ℕ → Value → Bool
cells_have cells at v = covers (cell_at cells at) v

-- whether all abstract rows have so many cells
abbrev pub are_wide : ℕ → List AbsRow → Bool
are_wide width over = list_all (λ cells. length cells == width) over

-- how much each of so many columns of abstract rows has of each column of an output; nothing is told where a row has another number of cells
abbrev pub told_of : ℕ → TableData → List AbsRow → Option (List (List Supply))
told_of width output over = if are_wide width over then Some (supplies_by cells_have width over output) else None

-- abstract rows, and what is told of their columns
abbrev pub kept_rows : ℕ → TableData → List AbsRow → KeptPart
kept_rows width output over = record { rows = over; supplies = told_of width output over }

-- what is kept of a skeleton; none where it never has rows
abbrev pub kept_of : TaskParts → Tree → Option KeptPart
kept_of task skeleton = option_map (kept_rows (length (columns task.inputs skeleton)) task.output) (over task skeleton)

-- the rows that are kept, and what is told of them
abbrev pub part_rows : Option KeptPart → Option (List AbsRow)
part_rows part = option_map (λ (p : KeptPart). p.rows) part

abbrev pub told : Option KeptPart → Option (List (List Supply))
told part = option_and_then (λ (p : KeptPart). p.supplies) part

-- what is told by what is told of two parts
abbrev pub told_both : (List (List Supply) → List (List Supply) → List (List Supply)) → Option (List (List Supply)) → Option (List (List Supply)) → Option (List (List Supply))
told_both f None right = None
told_both f (Some left) right = option_map (f left) right

-- what is told of a skeleton by what is told of its parts; nothing of an input and of a union
abbrev pub told_over : Tree → Option (List (List Supply)) → Option (List (List Supply)) → Option (List (List Supply))
told_over (t.base table) left right = None
told_over (t.filter child p) left right = left
told_over (t.pair kind a b p) left right = told_both (pair_supplies kind) left right
told_over (t.group child keys agg) left right = option_map (group_supplies keys) left
told_over (t.unite kind a b) left right = None

-- whether columns of these types may have all values of an output, by what is told of them
abbrev pub may_open : List ColType → Option (List (List Supply)) → TableData → Bool
may_open types None output = true
may_open types (Some supplies) output = opens types supplies (types_of output)

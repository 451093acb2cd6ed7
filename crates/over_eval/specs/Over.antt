-- The abstract rows of a skeleton: they stand for its rows under every choice of predicates.
use Rattle.std.specs.Prelude.{ℕ, Bool, true, false, ◌||◌, List, [], ◌∷◌, ◌++◌, map, flat_map, length, replicate, slice_get, unwrap_or, Option, Some, None, option_map, if◌then◌else◌}
use Rattle.std.specs.Prelude.{filter as list_filter}
use Rattle.std.specs.List.{list_all}
use Rattle.value_core.specs.declared.value.Value.TheVariants.{Null}
use Rattle.table_core.specs.Rows.{Row}
use Rattle.table_core.specs.Bag.{same_cells}
use Rattle.table_core.specs.declared.task.TaskParts.{TaskParts}
use Rattle.query_core.specs.Tree.{Tree}
use Rattle.query_core.specs.Tree as t
use Rattle.query_core.specs.Firsts.{projected}
use Rattle.query_core.specs.Groups.{group_keys}
use Rattle.query_core.specs.Meaning.{columns, rows, input_at}
use Rattle.query_core.specs.declared.agg.Agg.{Agg}
use Rattle.query_core.specs.declared.agg.Agg.TheVariants as agg
use Rattle.query_core.specs.declared.kinds.Pairing.{Pairing}
use Rattle.query_core.specs.declared.kinds.Pairing.TheVariants.{Join, Left}
use Rattle.over_cells.specs.Cells.{value_of, are_known}
use Rattle.over_cells.specs.Aggregates.{agg_cell}
use Rattle.over_cells.specs.declared.cell.AbsCell.{AbsCell}
use Rattle.over_cells.specs.declared.cell.AbsCell.TheVariants.{Known, Any}
use Rattle.over_cells.specs.declared.cell.AggKind.{AggKind}
use Rattle.over_cells.specs.declared.cell.AggKind.TheVariants as kind

-- an abstract row
abbrev pub AbsRow : Type 0
AbsRow = List AbsCell

-- the abstract row of a row that is known
abbrev pub exact_row : Row → AbsRow
exact_row row = map Known row

-- the cell of a column, a known NULL where there is none
abbrev pub cell_at : AbsRow → ℕ → AbsCell
cell_at cells at = unwrap_or (slice_get cells at) (Known Null)

-- the cells of these columns
abbrev pub cells_at : List ℕ → AbsRow → AbsRow
cells_at picks cells = map (cell_at cells) picks

-- the values of an abstract row, NULL where one isn't known
abbrev pub plain : AbsRow → Row
plain cells = map value_of cells

-- whether a tree has a hole: a place of a predicate
abbrev pub has_hole : Tree → Bool
has_hole (t.base table) = false
has_hole (t.filter child p) = true
has_hole (t.pair kind a b p) = true
has_hole (t.group child keys agg) = has_hole child
has_hole (t.unite kind a b) = has_hole a || has_hole b

-- the pairs of a left row with each right row
abbrev pub pairs_over : List AbsRow → AbsRow → List AbsRow
pairs_over rights left = map (λ right. left ++ right) rights

-- a left row padded with so many NULLs
abbrev pub padded_over : ℕ → AbsRow → AbsRow
padded_over width left = left ++ replicate width (Known Null)

-- the rows of a pair of two parts: all pairs, and behind them, of a left join, each left row padded
abbrev pub over_pair : Pairing → ℕ → List AbsRow → List AbsRow → List AbsRow
over_pair Join width lefts rights = flat_map (pairs_over rights) lefts
over_pair Left width lefts rights = flat_map (pairs_over rights) lefts ++ map (padded_over width) lefts

-- an aggregate without its column
abbrev pub agg_kind : Agg → AggKind
agg_kind agg.CountAll = kind.CountAll
agg_kind (agg.Count column) = kind.Count
agg_kind (agg.CountDistinct column) = kind.CountDistinct
agg_kind (agg.Sum column) = kind.Sum
agg_kind (agg.Min column) = kind.Min
agg_kind (agg.Max column) = kind.Max

-- the cells of an aggregate's column; none where it has no column
abbrev pub agg_cells : Agg → List AbsRow → List AbsCell
agg_cells agg.CountAll over = []
agg_cells (agg.Count column) over = map (λ cells. cell_at cells column) over
agg_cells (agg.CountDistinct column) over = map (λ cells. cell_at cells column) over
agg_cells (agg.Sum column) over = map (λ cells. cell_at cells column) over
agg_cells (agg.Min column) over = map (λ cells. cell_at cells column) over
agg_cells (agg.Max column) over = map (λ cells. cell_at cells column) over

-- the abstract rows whose known key cells are this key
abbrev pub members_over : List ℕ → List AbsRow → Row → List AbsRow
members_over keys over key = list_filter (λ cells. same_cells (projected keys (plain cells)) key) over

-- whether there are key columns
abbrev pub has_keys : List ℕ → Bool
has_keys [] = false
has_keys (k ∷ ks) = true

-- the cell of an aggregate over the rows of a group
abbrev pub cell_of : List ℕ → Agg → List AbsRow → AbsCell
cell_of keys agg members = agg_cell (agg_kind agg) (has_keys keys) (agg_cells agg members) (length members)

-- the row of a group: its key, and then the aggregate's cell
abbrev pub group_over : List ℕ → Agg → List AbsRow → Row → AbsRow
group_over keys agg over key = exact_row key ++ cell_of keys agg (members_over keys over key) ∷ []

-- whether the key cells of a row are known
abbrev pub knows : List ℕ → AbsRow → Bool
knows keys cells = are_known (cells_at keys cells)

-- a row whose group isn't known: its key cells, and then any value
abbrev pub any_group : List ℕ → AbsRow → AbsRow
any_group keys cells = cells_at keys cells ++ Any ∷ []

-- the rows of the groups of some rows: one for each key where all key cells are known, and else one for each row
abbrev pub groups_over : List ℕ → Agg → List AbsRow → List AbsRow
groups_over keys agg over = if list_all (knows keys) over then map (group_over keys agg over) (group_keys keys (map plain over)) else map (any_group keys) over

-- what a function gives of two parts' rows, never where a part never has rows
abbrev pub over_both : (List AbsRow → List AbsRow → List AbsRow) → Option (List AbsRow) → Option (List AbsRow) → Option (List AbsRow)
over_both f None rights = None
over_both f (Some lefts) rights = option_map (f lefts) rights

-- the rows of a tree without holes, each cell known; never any where a sum in it has no value
abbrev pub exact : TaskParts → Tree → Option (List AbsRow)
exact task tree = option_map (map exact_row) (rows task.inputs task.constants tree)

-- the abstract rows of a skeleton; none at all where it never has rows. No predicate is read
abbrev pub over : TaskParts → Tree → Option (List AbsRow)
over task (t.base table) = Some (map exact_row (input_at task.inputs table).rows)
over task (t.filter child p) = over task child
over task (t.pair kind a b p) = over_both (over_pair kind (length (columns task.inputs b))) (over task a) (over task b)
over task (t.group child keys agg) = if has_hole child then option_map (groups_over keys agg) (over task child) else exact task (t.group child keys agg)
over task (t.unite kind a b) = if has_hole a || has_hole b then over_both (λ lefts rights. lefts ++ rights) (over task a) (over task b) else exact task (t.unite kind a b)

-- What a query means: its columns and its rows.
use Rattle.std.specs.Prelude.{ℕ, Bool, List, [], ◌∷◌, ◌++◌, map, length, unwrap_or, slice_get, Option, Some, None, option_map, if◌then◌else◌}
use Rattle.std.specs.Prelude.{filter as list_filter}
use Rattle.value_core.specs.declared.value.Value.{Value}
use Rattle.value_core.specs.declared.value.ColType.{ColType}
use Rattle.value_core.specs.declared.value.ColType.TheVariants as kind
use Rattle.predicate_core.specs.Truth.{keeps}
use Rattle.table_core.specs.Rows.{Row, TableData, empty_table, types_of}
use Rattle.query_core.specs.Tree.{Tree, Select}
use Rattle.query_core.specs.Tree as t
use Rattle.query_core.specs.Firsts.{projected, firsts, united}
use Rattle.query_core.specs.Joins.{paired}
use Rattle.query_core.specs.Groups.{grouped}
use Rattle.query_core.specs.declared.agg.Agg.{Agg}
use Rattle.query_core.specs.declared.agg.Agg.TheVariants.{CountAll, Count, CountDistinct, Sum, Min, Max}

-- the input of a number, a table of nothing where there is none
abbrev pub input_at : List TableData → ℕ → TableData
input_at inputs at = unwrap_or (slice_get inputs at) (empty_table [] [])

-- the type of a column, text where there is none
abbrev pub type_at : List ColType → ℕ → ColType
type_at types at = unwrap_or (slice_get types at) kind.Text

-- the type of what an aggregate gives over columns of these types
abbrev pub agg_type : List ColType → Agg → ColType
agg_type types CountAll = kind.Int
agg_type types (Count column) = kind.Int
agg_type types (CountDistinct column) = kind.Int
agg_type types (Sum column) = kind.Int
agg_type types (Min column) = type_at types column
agg_type types (Max column) = type_at types column

-- the types of a group's columns: its keys', and then the aggregate's
abbrev pub group_types : List ColType → List ℕ → Agg → List ColType
group_types types keys agg = map (type_at types) keys ++ agg_type types agg ∷ []

-- the types of a tree's columns
abbrev pub columns : List TableData → Tree → List ColType
columns inputs (t.base table) = types_of (input_at inputs table)
columns inputs (t.filter child p) = columns inputs child
columns inputs (t.pair kind a b p) = columns inputs a ++ columns inputs b
columns inputs (t.group child keys agg) = group_types (columns inputs child) keys agg
columns inputs (t.unite kind a b) = columns inputs a

-- the types of the columns over which the predicate of a pair stands: the left part's, and then the right part's
abbrev pub hole_types : List TableData → Tree → Tree → List ColType
hole_types inputs a b = columns inputs a ++ columns inputs b

-- what a function gives of two parts' rows, none at all where a part has none
abbrev pub of_both : (List Row → List Row → List Row) → Option (List Row) → Option (List Row) → Option (List Row)
of_both f None rights = None
of_both f (Some lefts) rights = option_map (f lefts) rights

-- what a function gives of a part's rows, none at all where the part has none
abbrev pub of_rows : (List Row → Option (List Row)) → Option (List Row) → Option (List Row)
of_rows f None = None
of_rows f (Some rows) = f rows

-- the rows of a tree over these inputs and constants, in order, or none at all where a sum in it has no value
abbrev pub rows : List TableData → List Value → Tree → Option (List Row)
rows inputs constants (t.base table) = Some (input_at inputs table).rows
rows inputs constants (t.filter child p) = option_map (list_filter (keeps constants p)) (rows inputs constants child)
rows inputs constants (t.pair kind a b p) =
    of_both (paired kind constants p (length (columns inputs b))) (rows inputs constants a) (rows inputs constants b)
rows inputs constants (t.group child keys agg) = of_rows (grouped keys agg) (rows inputs constants child)
rows inputs constants (t.unite kind a b) = of_both (united kind) (rows inputs constants a) (rows inputs constants b)

-- the rows of a query's body, projected
abbrev pub selected : List ℕ → List Row → List Row
selected picks body = map (projected picks) body

-- the rows of a body, projected, and each kept once where distinct
abbrev pub given_rows : List ℕ → Bool → List Row → List Row
given_rows picks distinct body = if distinct then firsts (selected picks body) else selected picks body

-- the rows that a query gives for the rows of its body
abbrev pub given : Select → List Row → List Row
given q body = given_rows q.picks q.distinct body

-- the rows that a query gives over these inputs and constants, in order
abbrev pub answer : List TableData → List Value → Select → Option (List Row)
answer inputs constants q = option_map (given q) (rows inputs constants q.body)

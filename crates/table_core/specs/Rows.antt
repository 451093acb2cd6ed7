-- Tables: typed columns and rows.
use Rattle.std.specs.Prelude.{ℕ, ◌+◌, Bool, List, [], ◌∷◌, length, ◌==◌, Option, Some, None, is_none, option_map, map, if◌then◌else◌}
use Rattle.std.specs.List.{list_all}
use Rattle.value_core.specs.Value.{fits}
use Rattle.value_core.specs.declared.value.Value.{Value}
use Rattle.value_core.specs.declared.value.ColType.{ColType}
use Rattle.table_core.specs.declared.column.Column.{Column}
use Rattle.table_core.specs.declared.table.PushFault.{PushFault}
use Rattle.table_core.specs.declared.table.PushFault.TheVariants.{Width, WrongType}

-- a row is a list of values
abbrev pub Row : Type 0
Row = List Value

-- what a table is: its name, its columns and its rows, in order and each as often as it stands there
pub record TableData : Type 0 where
  pub name : List ℕ
  pub columns : List Column
  pub rows : List Row

-- the least column, counted from `at`, whose cell isn't of its type
abbrev pub wrong_cell : ℕ → List Column → Row → Option ℕ
wrong_cell at [] cells = None
wrong_cell at (c ∷ cs) [] = None
wrong_cell at (c ∷ cs) (v ∷ vs) = if fits c.kind v then wrong_cell (at + 1) cs vs else Some at

-- why a row can't stand under these columns: another number of cells, else a cell of a wrong type
abbrev pub push_fault : List Column → Row → Option PushFault
push_fault columns row = if length row == length columns then option_map WrongType (wrong_cell 0 columns row) else Some (Width (length row))

-- whether a row may stand under these columns
abbrev pub fits_columns : List Column → Row → Bool
fits_columns columns row = is_none (push_fault columns row)

-- whether each row may stand under the table's columns
abbrev pub are_typed : List Column → List Row → Bool
are_typed columns rows = list_all (fits_columns columns) rows

-- the types of a table's columns
abbrev pub types_of : TableData → List ColType
types_of table = map (λ c. c.kind) table.columns

-- a row of nothing but a table's name and columns
abbrev pub empty_table : List ℕ → List Column → TableData
empty_table name columns = record { name = name; columns = columns; rows = [] }

-- the table with one row more at the end
abbrev pub with_rows : TableData → List Row → TableData
with_rows table rows = record { name = table.name; columns = table.columns; rows = rows }

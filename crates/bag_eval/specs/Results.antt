-- The tables that evaluation gives: named `q`, with columns `c1`, `c2`, ..
use Rattle.std.specs.Prelude.{ℕ, ◌+◌, Bool, true, false, List, [], ◌∷◌, ◌++◌, codes, Option, Some, None}
use Rattle.std.specs.Cmp.Lexicographic.{pointwise}
use Rattle.std.specs.Fmt.{decimal}
use Rattle.std.specs.List.{list_all}
use Rattle.value_core.specs.Value.{fits}
use Rattle.value_core.specs.declared.value.ColType.{ColType}
use Rattle.table_core.specs.Rows.{Row, TableData}
use Rattle.table_core.specs.declared.column.Column.{Column}
use Rattle.query_core.specs.declared.kinds.Uniting.{Uniting}
use Rattle.query_core.specs.declared.kinds.Uniting.TheVariants.{All, Firsts}
use Rattle.bag_eval.specs.declared.eval.Eval.{Eval}
use Rattle.bag_eval.specs.declared.eval.Eval.TheVariants.{Rows, Past64}

-- whether each row has for each of these types a value that may stand in a column of it
abbrev pub rows_fit : List ColType → List Row → Bool
rows_fit types rows = list_all (pointwise fits types) rows

-- the name of a column: c and its number
abbrev pub column_name : ℕ → List ℕ
column_name number = codes "c" ++ decimal number

-- columns of these types, numbered from `number`
abbrev pub named_columns : ℕ → List ColType → List Column
named_columns number [] = []
named_columns number (t ∷ ts) = record { name = column_name number; kind = t } ∷ named_columns (number + 1) ts

-- the table of these types and rows
abbrev pub result_table : List ColType → List Row → TableData
result_table types rows = record { name = codes "q"; columns = named_columns 1 types; rows = rows }

-- what evaluation gives: a table of these types and rows, or that a sum leaves 64 bits, where there are none
abbrev pub evaluated : List ColType → Option (List Row) → Eval
evaluated types None = Past64
evaluated types (Some rows) = Rows (result_table types rows)

-- how two parts are united: every copy where that is asked for, else each row once
abbrev pub uniting : Bool → Uniting
uniting true = All
uniting false = Firsts

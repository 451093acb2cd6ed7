-- The table that the bytes of a file tell: a header, and the rows under it; else the first fault of the file.
use Rattle.std.specs.Prelude.{ℕ, ◌+◌, Bool, true, not, ◌&&◌, ◌||◌, ◌==◌, nat_eq, nat_le, nat_lt, if◌then◌else◌, List, [], ◌∷◌, ◌++◌, length, slice_get, Option, Some, None, is_some, option_map, unwrap_or, Result, Ok, Err}
use Rattle.std.specs.List.{list_all, list_any}
use Rattle.std.specs.Cmp.Lexicographic.{pointwise}
use Rattle.csv_records.specs.Records.{records_of}
use Rattle.first_fault.specs.Reading.{◌>>=◌, found_or, kept_or, each}
use Rattle.value_core.specs.declared.word.TheConstants.{LONGEST_WORD}
use Rattle.value_core.specs.declared.value.Value.{Value}
use Rattle.value_core.specs.declared.value.Value.TheVariants.{Null, Int, Text}
use Rattle.value_core.specs.declared.value.ColType.{ColType}
use Rattle.value_core.specs.declared.value.ColType.TheVariants as kind
use Rattle.value_core.specs.Integer.{integer_of}
use Rattle.value_core.specs.Text.{is_text}
use Rattle.table_core.specs.Rows.{Row, TableData}
use Rattle.table_core.specs.declared.column.Column.{Column}
use Rattle.table_read.specs.declared.size.Size.{Size}
use Rattle.table_read.specs.declared.fault.TableFault.{TableFault}
use Rattle.table_read.specs.declared.fault.TableFault.TheVariants.{BadText, NoHeader, TooManyColumns, BadName, BadTypes, TooManyRows, BadWidth, BadCell}

-- a record is the list of its fields, each the list of its bytes
abbrev pub Fields : Type 0
Fields = List (List ℕ)

-- the field at a place of a record, which is empty past the end
abbrev pub field_at : Fields → ℕ → List ℕ
field_at fields at = unwrap_or (slice_get fields at) []

-- a word, where the bytes are neither too few nor too many for one
abbrev pub word_of : List ℕ → Option (List ℕ)
word_of bytes = if nat_lt 0 (length bytes) && nat_le (length bytes) LONGEST_WORD then Some bytes else None

-- whether a name is one of the earlier ones
abbrev pub is_repeated : List (List ℕ) → List ℕ → Bool
is_repeated earlier name = list_any (λ n. pointwise nat_eq n name) earlier

-- a name of a column: a word that no earlier column has
abbrev pub name_of : List (List ℕ) → List ℕ → Option (List ℕ)
name_of earlier name = if is_repeated earlier name then None else word_of name

-- the earlier names, and those of the columns from this place on
abbrev pub names_after : ℕ → List (List ℕ) → Fields → Result (List (List ℕ)) TableFault
names_after at earlier [] = Ok earlier
names_after at earlier (field ∷ fields) = do
  name ← found_or (BadName (at + 1)) (name_of earlier field)
  names_after (at + 1) (earlier ++ name ∷ []) fields

-- the names of the columns: at most so many
unfoldable pub names_of : ℕ → Fields → Result (List (List ℕ)) TableFault
names_of widest header = do
  fields ← kept_or TooManyColumns (nat_le (length header) widest) header
  names_after 0 [] fields

-- as many types as there are columns, where types are declared
abbrev pub are_types_of : ℕ → Option (List ColType) → Bool
are_types_of width None = true
are_types_of width (Some types) = length types == width

-- the row at this place: not one too many, and with as many fields as there are columns
abbrev pub line_at : ℕ → ℕ → ℕ → Fields → Result Fields TableFault
line_at longest width at row = do
  line ← kept_or TooManyRows (nat_lt at longest) row
  kept_or (BadWidth (at + 1)) (length line == width) line

-- whether a row has something in a column
abbrev pub is_filled : ℕ → Fields → Bool
is_filled at row = nat_lt 0 (length (field_at row at))

-- whether what a row has in a column is empty or spells a whole number
abbrev pub may_be_integer : ℕ → Fields → Bool
may_be_integer at row = not (is_filled at row) || is_some (integer_of (field_at row at))

-- whether some row has something in a column
abbrev pub has_filled : ℕ → List Fields → Bool
has_filled at rows = list_any (is_filled at) rows

-- whether all that the rows have in a column spells whole numbers
abbrev pub has_integers : ℕ → List Fields → Bool
has_integers at rows = list_all (may_be_integer at) rows

-- the type of a column that is read off the rows: whole numbers, where it has some and nothing else, else texts
abbrev pub kind_of : ℕ → List Fields → ColType
kind_of at rows = if has_filled at rows && has_integers at rows then kind.Int else kind.Text

-- the columns of these names, of which the first stands at this place, with types read off the rows
abbrev pub inferred_from : ℕ → List (List ℕ) → List Fields → List Column
inferred_from at [] rows = []
inferred_from at (name ∷ names) rows = record { name = name; kind = kind_of at rows } ∷ inferred_from (at + 1) names rows

-- the columns of these names and types
abbrev pub declared_as : List (List ℕ) → List ColType → List Column
declared_as [] types = []
declared_as (name ∷ names) [] = []
declared_as (name ∷ names) (type ∷ types) = record { name = name; kind = type } ∷ declared_as names types

-- the columns of these names: with the declared types, or with those that are read off the rows
abbrev pub columns_of : Option (List ColType) → List (List ℕ) → List Fields → List Column
columns_of None names rows = inferred_from 0 names rows
columns_of (Some types) names rows = declared_as names types

-- the value that a field which isn't empty spells in a column of this type
abbrev pub filled_cell : ColType → List ℕ → Option Value
filled_cell kind.Int field = option_map Int (integer_of field)
filled_cell kind.Text field = option_map Text (word_of field)

-- the value that a field spells in a column of this type: NULL, where it is empty
abbrev pub cell_of : ColType → List ℕ → Option Value
cell_of type field = if length field == 0 then Some Null else filled_cell type field

-- the value of the row at this place in a column at its place
abbrev pub cell_at : ℕ → Fields → ℕ → Column → Result Value TableFault
cell_at row fields at column = found_or (BadCell (row + 1) (at + 1)) (cell_of column.kind (field_at fields at))

-- the values that the row at this place spells in the columns
abbrev pub tuple_at : List Column → ℕ → Fields → Result Row TableFault
tuple_at columns row fields = each (cell_at row fields) 0 columns

-- the table of these columns, with what the rows spell in them
unfoldable pub table_with : List ℕ → List Column → List Fields → Result TableData TableFault
table_with name columns rows = do
  tuples ← each (tuple_at columns) 0 rows
  Ok (record { name = name; columns = columns; rows = tuples })

-- the table of this header and these rows
unfoldable pub table_under : List ℕ → Size → Option (List ColType) → Fields → List Fields → Result TableData TableFault
table_under name size types header rows = do
  names ← names_of size.columns header
  declared ← kept_or BadTypes (are_types_of (length names) types) types
  lines ← each (line_at size.rows (length names)) 0 rows
  table_with name (columns_of declared names lines) lines

-- the first record is the header, and the others are the rows
abbrev pub table_in : List ℕ → Size → Option (List ColType) → List Fields → Result TableData TableFault
table_in name size types [] = Err NoHeader
table_in name size types (header ∷ rows) = table_under name size types header rows

-- the table of this name that these bytes tell, of at most this size and with these types where they are declared
unfoldable pub table_of : List ℕ → Size → Option (List ColType) → List ℕ → Result TableData TableFault
table_of name size types bytes = do
  text ← kept_or BadText (is_text bytes) bytes
  table_in name size types (records_of text)

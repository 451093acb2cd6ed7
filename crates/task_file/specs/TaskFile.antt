-- The task file.
use Rattle.std.specs.Prelude.{◌≡◌, ℕ, Bool, true, not, ◌&&◌, List, [], ◌∷◌, ◌++◌, length, map, codes, Option, Some, None, option_map, Result, Ok, if◌then◌else◌}
use Rattle.std.specs.List.{list_all, list_any}
use Rattle.std.specs.Option.{is_some, option_or}
use Rattle.std.specs.Str.{bytes_eq}
use Rattle.toml.specs.Data.{Data, Members, as_str, as_integer, as_table}
use Rattle.first_fault.specs.Reading.{◌>>=◌, found_or, renamed}
use Rattle.first_fault.specs.declared.stop.Stop.{Stop}
use Rattle.first_fault.specs.declared.stop.Stop.TheVariants.{Fault, OutOfMemory}
use Rattle.toml_keys.specs.Keys.{◌>>=◌ as ◌>>?◌, when, document_of, number_of, text_of, array_of, required, optional, is_among, known, under}
use Rattle.toml_keys.specs.declared.fault.KeyFault.{KeyFault}
use Rattle.toml_keys.specs.declared.fault.KeyFault.TheVariants.{BadKey}
use Rattle.value_core.specs.declared.value.ColType.{ColType}
use Rattle.value_core.specs.declared.value.ColType.TheVariants as kind
use Rattle.value_core.specs.declared.value.Value.{Value}
use Rattle.value_core.specs.declared.value.Value.TheVariants.{Int, Text}
use Rattle.value_core.specs.Value.{same}
use Rattle.value_core.specs.declared.word.TheConstants.{LONGEST_WORD}
use Rattle.table_core.specs.Rows.{TableData}
use Rattle.table_core.specs.Limits.{is_table_within, is_output_within, first_bad_part}
use Rattle.table_core.specs.declared.limits.TheConstants.{LARGEST_BUDGET, LONGEST_FILE_NAME, MOST_ATOMS, MOST_COLUMNS, MOST_CONSTANTS, MOST_INPUTS, MOST_LEAVES, MOST_OPS, MOST_OUTPUT_COLUMNS, MOST_ROWS, MOST_SHOWN}
use Rattle.table_core.specs.declared.agg_set.AggSet.{AggSet}
use Rattle.table_core.specs.declared.task.TaskParts.{TaskParts}
use Rattle.task_file.specs.declared.fault.TaskFileFault.{TaskFileFault}
use Rattle.task_file.specs.declared.fault.TaskFileFault.TheVariants.{BadToml, Key}
use Rattle.task_file.specs.declared.table_file.InputFile.{InputFile}
use Rattle.task_file.specs.declared.table_file.OutputFile.{OutputFile}
use Rattle.task_file.specs.declared.task.TaskFile.{TaskFile}

-- the names of the aggregates
abbrev pub aggregate_names : List (List ℕ)
aggregate_names = codes "count(*)" ∷ codes "count" ∷ codes "count distinct" ∷ codes "sum" ∷ codes "min" ∷ codes "max" ∷ []

-- the keys at the top, of an input and of the output
abbrev pub task_keys : List (List ℕ)
task_keys = codes "input" ∷ codes "output" ∷ codes "constants" ∷ codes "aggregates" ∷ codes "ops" ∷ codes "leaves" ∷ codes "atoms" ∷ codes "show" ∷ codes "budget" ∷ []

abbrev pub input_keys : List (List ℕ)
input_keys = codes "name" ∷ codes "file" ∷ codes "types" ∷ []

abbrev pub output_keys : List (List ℕ)
output_keys = codes "file" ∷ codes "types" ∷ []

-- the values, where each is there
abbrev pub all_some : {A : Type 0} → List (Option A) → Option (List A)
all_some [] = Some []
all_some (None ∷ rest) = None
all_some (Some value ∷ rest) = option_map (λ values. value ∷ values) (all_some rest)

-- no two of a list are the same by this test
abbrev pub all_distinct : {A : Type 0} → (A → A → Bool) → List A → Bool
all_distinct alike [] = true
all_distinct alike (x ∷ others) = not (list_any (alike x) others) && all_distinct alike others

-- the type of this name
abbrev pub type_named : List ℕ → Option ColType
type_named name = if bytes_eq name (codes "int") then Some kind.Int else if bytes_eq name (codes "text") then Some kind.Text else None

-- the type of a column
unfoldable pub type_of : Data → Option ColType
type_of value = as_str value >>? type_named

-- the types of 1 to so many columns
unfoldable pub types_of : ℕ → Data → Option (List ColType)
types_of most value = array_of 1 most value >>? (λ items. all_some (map type_of items))

-- the types that a table declares, if it declares some
unfoldable pub types_at : ℕ → Members → Result (Option (List ColType)) KeyFault
types_at most members = optional (codes "types") None (λ value. option_map Some (types_of most value)) members

-- the file of a table
unfoldable pub file_at : Members → Result (List ℕ) KeyFault
file_at members = required (codes "file") (text_of LONGEST_FILE_NAME) members

-- whether one of these inputs has the name
abbrev pub is_named : List InputFile → List ℕ → Bool
is_named inputs name = list_any (λ input. bytes_eq input.name name) inputs

-- a name that none of the earlier inputs has
unfoldable pub name_of : List InputFile → Data → Option (List ℕ)
name_of earlier value = text_of LONGEST_WORD value >>? (λ name. when (not (is_named earlier name)) name)

-- an input after these earlier ones: a name, a file, and perhaps types
unfoldable pub input_in : List InputFile → Members → Result InputFile KeyFault
input_in earlier members = do
  table ← known input_keys members
  name ← required (codes "name") (name_of earlier) table
  file ← file_at table
  types ← types_at MOST_COLUMNS table
  Ok (record { name = name; file = file; types = types })

-- an input that stands among the inputs
unfoldable pub input_of : List InputFile → Data → Result InputFile KeyFault
input_of earlier value = do
  members ← found_or (BadKey (codes "input")) (as_table value)
  renamed (under (codes "input.")) (input_in earlier members)

-- the inputs after the earlier ones, and those
abbrev pub inputs_after : List InputFile → List Data → Result (List InputFile) KeyFault
inputs_after earlier [] = Ok earlier
inputs_after earlier (value ∷ values) = do
  input ← input_of earlier value
  inputs_after (earlier ++ input ∷ []) values

-- an array of as many tables as there may be inputs
unfoldable pub tables_of : Data → Option (List Data)
tables_of value = array_of 1 MOST_INPUTS value >>? (λ items. when (list_all (λ item. is_some (as_table item)) items) items)

-- the inputs, in the file's order
unfoldable pub inputs_of : Members → Result (List InputFile) KeyFault
inputs_of members = required (codes "input") tables_of members >>= inputs_after []

-- the output: a file, and perhaps types
unfoldable pub output_in : Members → Result OutputFile KeyFault
output_in members = do
  table ← known output_keys members
  file ← file_at table
  types ← types_at MOST_OUTPUT_COLUMNS table
  Ok (record { file = file; types = types })

unfoldable pub output_of : Members → Result OutputFile KeyFault
output_of members = do
  table ← required (codes "output") as_table members
  renamed (under (codes "output.")) (output_in table)

-- a constant: a whole number or a text
unfoldable pub constant_of : Data → Option Value
constant_of value = option_or (option_map Int (as_integer value)) (option_map Text (text_of LONGEST_WORD value))

-- an array of distinct constants
unfoldable pub constants_of : Data → Option (List Value)
constants_of value =
    array_of 0 MOST_CONSTANTS value >>? (λ items. all_some (map constant_of items)) >>? (λ constants. when (all_distinct same constants) constants)

-- the name of an aggregate
unfoldable pub aggregate_name_of : Data → Option (List ℕ)
aggregate_name_of value = as_str value >>? (λ name. when (is_among aggregate_names name) name)

-- the aggregates of these names
abbrev pub aggregates_named : List (List ℕ) → AggSet
aggregates_named names = record {
  count_all = is_among names (codes "count(*)");
  count = is_among names (codes "count");
  count_distinct = is_among names (codes "count distinct");
  sum = is_among names (codes "sum");
  min = is_among names (codes "min");
  max = is_among names (codes "max");
}

-- an array of distinct names of aggregates
unfoldable pub aggregates_of : Data → Option AggSet
aggregates_of value =
    array_of 0 (length aggregate_names) value >>? (λ items. all_some (map aggregate_name_of items)) >>? (λ names. when (all_distinct bytes_eq names) (aggregates_named names))

-- the task, with its keys read in this order
unfoldable pub task_of : Members → Result TaskFile KeyFault
task_of members = do
  table ← known task_keys members
  inputs ← inputs_of table
  output ← output_of table
  constants ← optional (codes "constants") [] constants_of table
  aggregates ← optional (codes "aggregates") (aggregates_named []) aggregates_of table
  ops ← optional (codes "ops") 2 (number_of 0 MOST_OPS) table
  leaves ← optional (codes "leaves") 2 (number_of 1 MOST_LEAVES) table
  atoms ← optional (codes "atoms") 2 (number_of 1 MOST_ATOMS) table
  show ← optional (codes "show") 25 (number_of 1 MOST_SHOWN) table
  budget ← optional (codes "budget") 200000 (number_of 1 LARGEST_BUDGET) table
  Ok (record { inputs = inputs; output = output; constants = constants; aggregates = aggregates; ops = ops; leaves = leaves; atoms = atoms; show = show; budget = budget })

-- the task that a file of these bytes writes
unfoldable pub task_file_of : List ℕ → Result TaskFile TaskFileFault
task_file_of bytes = do
  members ← found_or BadToml (document_of bytes)
  renamed Key (task_of members)

-- the stop of a key, as that of the file
abbrev pub stop_of_key : Stop KeyFault → Stop TaskFileFault
stop_of_key (Fault fault) = Fault (Key fault)
stop_of_key OutOfMemory = OutOfMemory

-- the parts of a task: what its file says, with these tables
abbrev pub parts_of : TaskFile → List TableData → TableData → TaskParts
parts_of task inputs output = record {
  inputs = inputs;
  output = output;
  constants = task.constants;
  aggregates = task.aggregates;
  ops = task.ops;
  leaves = task.leaves;
  atoms = task.atoms;
  show = task.show;
  budget = task.budget;
}

-- with tables of its inputs' names that are within their limits, and an output that is, a task file makes a task
abbrev pub MakesTask : TaskFile → Type 0
MakesTask task = (inputs : List TableData) (output : TableData)
    → map (λ (t : TableData). t.name) inputs ≡ map (λ (i : InputFile). i.name) task.inputs
    → list_all (is_table_within MOST_COLUMNS MOST_ROWS) inputs ≡ true
    → is_output_within output ≡ true
    → first_bad_part (parts_of task inputs output) ≡ None

-- The task that a folder tells, or the first thing that is wrong with it.
use Rattle.std.specs.Prelude.{◌≡◌, ℕ, ◌⊎◌, Bool, true, nat_le, List, [], ◌∷◌, ◌++◌, length, map, codes, Option, Some, None, if◌then◌else◌}
use Rattle.std.specs.List.{list_all}
use Rattle.table_core.specs.Rows.{TableData}
use Rattle.table_core.specs.Limits.{is_table_within}
use Rattle.table_core.specs.declared.task.TaskParts.{TaskParts}
use Rattle.table_core.specs.declared.limits.TheConstants.{LONGEST_FILE, MOST_COLUMNS, MOST_ROWS, MOST_OUTPUT_COLUMNS, MOST_OUTPUT_ROWS}
use Rattle.task_file.specs.TaskFile.{task_file_of, parts_of}
use Rattle.task_file.specs.declared.table_file.InputFile.{InputFile}
use Rattle.task_file.specs.declared.table_file.OutputFile.{OutputFile}
use Rattle.task_file.specs.declared.task.TaskFile.{TaskFile}
use Rattle.table_read.specs.Table.{table_of}
use Rattle.table_read.specs.declared.size.Size.{Size}
use Rattle.task_read.specs.Told.{Told, untold, faulty, ready, ◌>>=◌, answered, WhenReady}
use Rattle.task_read.specs.Faults.{of_task_file, in_file}
use Rattle.task_read.specs.declared.fault.TaskFault.{TaskFault}
use Rattle.task_read.specs.declared.fault.TaskFault.TheVariants.{TooLong}

-- what a folder tells of each name: the bytes of the file, if it tells them
abbrev pub Files : Type 0
Files = List ℕ → Option (List ℕ)

-- the bytes of the file of this name, of which there may not be too many
abbrev pub bytes_told : List ℕ → Option (List ℕ) → Told (List ℕ) TaskFault
bytes_told name None = untold
bytes_told name (Some bytes) = if nat_le (length bytes) LONGEST_FILE then ready bytes else faulty (TooLong name)

-- the task file
abbrev pub plan_told : List ℕ → Option (List ℕ) → Told TaskFile TaskFault
plan_told name file = bytes_told name file >>= (λ bytes. answered of_task_file (task_file_of bytes))

-- the most columns and rows of an input, and of the output
abbrev pub input_size : Size
input_size = record { columns = MOST_COLUMNS; rows = MOST_ROWS }

abbrev pub output_size : Size
output_size = record { columns = MOST_OUTPUT_COLUMNS; rows = MOST_OUTPUT_ROWS }

-- the table of an input in its file
abbrev pub input_told : InputFile → Option (List ℕ) → Told TableData TaskFault
input_told input file =
    bytes_told input.file file >>= (λ bytes. answered (in_file input.file (codes "input.types")) (table_of input.name input_size input.types bytes))

-- the table of the output in its file
abbrev pub output_told : OutputFile → Option (List ℕ) → Told TableData TaskFault
output_told output file =
    bytes_told output.file file >>= (λ bytes. answered (in_file output.file (codes "output.types")) (table_of (codes "out") output_size output.types bytes))

-- the earlier tables, and those of these inputs in their order
abbrev pub inputs_after : Files → List TableData → List InputFile → Told (List TableData) TaskFault
inputs_after told earlier [] = ready earlier
inputs_after told earlier (input ∷ inputs) = input_told input (told input.file) >>= (λ table. inputs_after told (earlier ++ table ∷ []) inputs)

-- the parts of the task of a task file: its inputs, and then its output
abbrev pub parts_told : Files → TaskFile → Told TaskParts TaskFault
parts_told told plan =
    inputs_after told [] plan.inputs >>= (λ inputs. output_told plan.output (told plan.output.file) >>= (λ output. ready (parts_of plan inputs output)))

-- the task of the task file of this name
abbrev pub task_told : Files → List ℕ → Told TaskParts TaskFault
task_told told name = plan_told name (told name) >>= parts_told told

-- a file is that of one of these inputs, and the inputs before it are without fault
abbrev pub IsReadAsInput : Files → List InputFile → List ℕ → Type 0
IsReadAsInput told [] file = ⊥
IsReadAsInput told (input ∷ inputs) file = (file ≡ input.file) ⊎ WhenReady (input_told input (told input.file)) (λ _. IsReadAsInput told inputs file)

-- a file is that of a table of the task, and the tables before it are without fault
abbrev pub IsReadAsTable : Files → TaskFile → List ℕ → Type 0
IsReadAsTable told plan file = IsReadAsInput told plan.inputs file ⊎ WhenReady (inputs_after told [] plan.inputs) (λ _. file ≡ plan.output.file)

-- a file is the task file or one of its tables, and all that is read before it is without fault
abbrev pub IsRead : Files → List ℕ → List ℕ → Type 0
IsRead told name file = (file ≡ name) ⊎ WhenReady (plan_told name (told name)) (λ plan. IsReadAsTable told plan file)

-- whether all these tables are within the limits of inputs
abbrev pub are_within : List TableData → Bool
are_within tables = list_all (is_table_within MOST_COLUMNS MOST_ROWS) tables

-- the names of some tables, and of some inputs
abbrev pub table_names : List TableData → List (List ℕ)
table_names tables = map (λ (table : TableData). table.name) tables

abbrev pub input_names : List InputFile → List (List ℕ)
input_names inputs = map (λ (input : InputFile). input.name) inputs

-- What is wrong with a task, of what is wrong with one of its files.
use Rattle.std.specs.Prelude.{◌≡◌, ℕ, List}
use Rattle.first_fault.specs.declared.stop.Stop.{Stop}
use Rattle.first_fault.specs.declared.stop.Stop.TheVariants as stop
use Rattle.toml_keys.specs.declared.fault.KeyFault.{KeyFault}
use Rattle.toml_keys.specs.declared.fault.KeyFault.TheVariants as key
use Rattle.task_file.specs.declared.fault.TaskFileFault.{TaskFileFault}
use Rattle.task_file.specs.declared.fault.TaskFileFault.TheVariants as plan
use Rattle.table_read.specs.declared.fault.TableFault.{TableFault}
use Rattle.table_read.specs.declared.fault.TableFault.TheVariants as table
use Rattle.task_read.specs.declared.fault.TaskFault.{TaskFault}
use Rattle.task_read.specs.declared.fault.TaskFault.TheVariants as task
use Rattle.task_read.specs.declared.fault.TaskEnd.{TaskEnd}
use Rattle.task_read.specs.declared.fault.TaskEnd.TheVariants.{ReadFault, Bad, OutOfMemory}

-- a fault of a key
abbrev pub of_key : KeyFault → TaskFault
of_key (key.UnknownKey name) = task.UnknownKey name
of_key (key.MissingKey name) = task.MissingKey name
of_key (key.BadKey name) = task.BadKey name

-- a fault of the task file
abbrev pub of_task_file : TaskFileFault → TaskFault
of_task_file plan.BadToml = task.BadToml
of_task_file (plan.Key fault) = of_key fault

-- a fault of a table in this file, whose types stand at this key of the task file
abbrev pub in_file : List ℕ → List ℕ → TableFault → TaskFault
in_file file types table.BadText = task.BadText file
in_file file types table.NoHeader = task.NoHeader file
in_file file types table.TooManyColumns = task.TooManyColumns file
in_file file types (table.BadName column) = task.BadName file column
in_file file types table.BadTypes = task.BadKey types
in_file file types table.TooManyRows = task.TooManyRows file
in_file file types (table.BadWidth row) = task.BadWidth file row
in_file file types (table.BadCell row column) = task.BadCell file row column

-- the end that this fault is; want of memory may come in its place
abbrev pub Ends : TaskEnd → TaskFault → Type 0
Ends (Bad given) fault = given ≡ fault
Ends OutOfMemory fault = Unit {0}
Ends (ReadFault file) fault = ⊥

-- the end that a stop is, with its fault under another name; want of memory stays what it is
abbrev pub EndsAs : {F : Type 0} → (F → TaskFault) → Stop F → TaskEnd → Type 0
EndsAs name (stop.Fault fault) end = Ends end (name fault)
EndsAs name stop.OutOfMemory end = end ≡ OutOfMemory

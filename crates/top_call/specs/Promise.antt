-- What a run promises of its end.
use Rattle.std.specs.Prelude.{◌≡◌, ◌⊎◌, ℕ, ◌<◌, Bool, true, false, List, [], length, Option, Some, None}
use Rattle.io_edge.specs.Rose.{Rose}
use Rattle.table_core.specs.declared.task.TaskParts.{TaskParts}
use Rattle.query_core.specs.Answers.{answers}
use Rattle.task_read.specs.Told.{Told, untold, faulty, ready}
use Rattle.task_read.specs.Task.{Files, IsRead, task_told}
use Rattle.task_read.specs.declared.fault.TaskFault.{TaskFault}
use Rattle.command_line.specs.Command.{command, file_of}
use Rattle.command_line.specs.declared.request.Request.{Request}
use Rattle.command_line.specs.declared.request.Request.TheVariants.{Run, Plain}
use Rattle.top_call.specs.Size.{has_few_skeletons}
use Rattle.top_call.specs.declared.end.End.{End}
use Rattle.top_call.specs.declared.end.End.TheVariants.{Listed, Empty, Usage, BadTask, ReadFault, WriteFault, OutOfMemory, TooMany, OverBudget}

-- whether a request asks for plain listing
abbrev pub is_plain : Request → Bool
is_plain (Run file workers) = false
is_plain (Plain file) = true

-- whether the words do; not where they aren't understood
abbrev pub asks_plainly : Option Request → Bool
asks_plainly None = false
asks_plainly (Some request) = is_plain request

-- the task that the words ask for, as the folder tells it; nothing is told where the words aren't understood
abbrev pub asked_file : Files → Option Request → Told TaskParts TaskFault
asked_file told None = untold
asked_file told (Some request) = task_told told (file_of request)

abbrev pub asked : Files → List (List ℕ) → Told TaskParts TaskFault
asked told words = asked_file told (command words)

-- a file is read in a run of these words, and all that is read before it is without fault
abbrev pub IsReadIn_file : Files → Option Request → List ℕ → Type 0
IsReadIn_file told None file = ⊥
IsReadIn_file told (Some request) file = IsRead told (file_of request) file

abbrev pub IsReadIn : Files → List (List ℕ) → List ℕ → Type 0
IsReadIn told words = IsReadIn_file told (command words)

-- no file that is read in a run of these words had a fault in it
abbrev pub NoneUnread : Files → (List ℕ → ℕ) → (List ℕ → ℕ) → List (List ℕ) → Type 0
NoneUnread told before now words = (file : List ℕ) → IsReadIn told words file → ¬ (Rose (before file) (now file))

-- a fact of each end but that a file couldn't be read
abbrev pub UnlessReadFault : End → Type 0 → Type 0
UnlessReadFault (Listed count) P = P
UnlessReadFault Empty P = P
UnlessReadFault Usage P = P
UnlessReadFault (BadTask fault) P = P
UnlessReadFault (ReadFault file) P = Unit {0}
UnlessReadFault WriteFault P = P
UnlessReadFault OutOfMemory P = P
UnlessReadFault TooMany P = P
UnlessReadFault OverBudget P = P

-- the ends at which nothing was written to the output
abbrev pub IsUnwritten : End → Type 0
IsUnwritten (Listed count) = ⊥
IsUnwritten Empty = ⊥
IsUnwritten Usage = Unit {0}
IsUnwritten (BadTask fault) = Unit {0}
IsUnwritten (ReadFault file) = Unit {0}
IsUnwritten WriteFault = ⊥
IsUnwritten OutOfMemory = ⊥
IsUnwritten TooMany = Unit {0}
IsUnwritten OverBudget = Unit {0}

-- a fact of the task, where one is told
abbrev pub IfReady : Told TaskParts TaskFault → (TaskParts → Type 0) → Type 0
IfReady untold P = Unit {0}
IfReady (faulty fault) P = Unit {0}
IfReady (ready task) P = P task

-- something is wrong with what is told, or it is a task of too many skeletons
abbrev pub IsRefused : Told TaskParts TaskFault → Type 0
IsRefused untold = ⊥
IsRefused (faulty fault) = Unit {0}
IsRefused (ready task) = has_few_skeletons task ≡ false

-- the end of a run that refuses what is told, unless memory ran out: the first thing that is wrong with it, or that it has too many skeletons
abbrev pub RefusedAs : Told TaskParts TaskFault → End → Type 0
RefusedAs untold end = Unit {0}
RefusedAs (faulty fault) end = (end ≡ BadTask fault) ⊎ (end ≡ OutOfMemory)
RefusedAs (ready task) end = has_few_skeletons task ≡ false → (end ≡ TooMany) ⊎ (end ≡ OutOfMemory)

-- the end of a run that answers the task, unless memory ran out: the number of its answers, or that there are none
abbrev pub AnswersTask : TaskParts → End → Type 0
AnswersTask task (Listed count) = (count ≡ length (answers task)) × (0 < count)
AnswersTask task Empty = answers task ≡ []
AnswersTask task Usage = ⊥
AnswersTask task (BadTask fault) = ⊥
AnswersTask task (ReadFault file) = ⊥
AnswersTask task WriteFault = ⊥
AnswersTask task OutOfMemory = Unit {0}
AnswersTask task TooMany = ⊥
AnswersTask task OverBudget = ⊥

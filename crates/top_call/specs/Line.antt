-- The line that tells why a run ended.
use Rattle.std.specs.Prelude.{ℕ, List, [], ◌∷◌, ◌++◌, codes}
use Rattle.std.specs.Fmt.{decimal}
use Rattle.task_read.specs.declared.fault.TaskFault.{TaskFault}
use Rattle.task_read.specs.declared.fault.TaskFault.TheVariants.{TooLong, BadToml, UnknownKey, MissingKey, BadKey, BadText, NoHeader, BadName, BadWidth, BadCell, TooManyRows, TooManyColumns}
use Rattle.top_call.specs.declared.end.End.{End}
use Rattle.top_call.specs.declared.end.End.TheVariants.{Listed, Empty, Usage, BadTask, ReadFault, WriteFault, OutOfMemory, TooMany, OverBudget}

-- the words that tell what is wrong with a task
abbrev pub fault_words : TaskFault → List ℕ
fault_words (TooLong file) = file ++ codes " is longer than 65536 bytes"
fault_words BadToml = codes "the task file is not TOML"
fault_words (UnknownKey key) = codes "unknown key " ++ key
fault_words (MissingKey key) = codes "missing key " ++ key
fault_words (BadKey key) = codes "bad key " ++ key
fault_words (BadText file) = file ++ codes " is not UTF-8"
fault_words (NoHeader file) = file ++ codes " has no header"
fault_words (BadName file column) = file ++ codes " has a bad name in column " ++ decimal column
fault_words (BadWidth file row) = file ++ codes " row " ++ decimal row ++ codes " has a wrong number of fields"
fault_words (BadCell file row column) = file ++ codes " row " ++ decimal row ++ codes " column " ++ decimal column ++ codes " is no value of its type"
fault_words (TooManyRows file) = file ++ codes " has too many rows"
fault_words (TooManyColumns file) = file ++ codes " has too many columns"

-- the words of a line, after the program's name and before the line feed
abbrev pub line_of : List ℕ → List ℕ
line_of words = codes "scythe: " ++ words ++ 10 ∷ []

-- the line of each end; a run that lists has none
abbrev pub line : End → List ℕ
line (Listed count) = []
line Empty = []
line Usage = line_of (codes "the words are not understood")
line (BadTask fault) = line_of (codes "bad task: " ++ fault_words fault)
line TooMany = line_of (codes "more than 100000 skeletons")
line OverBudget = line_of (codes "the budget is too small")
line (ReadFault file) = line_of (codes "cannot read " ++ file)
line WriteFault = line_of (codes "cannot write")
line OutOfMemory = line_of (codes "out of memory")

-- the status of each end
abbrev pub status : End → ℕ
status (Listed count) = 0
status Empty = 1
status Usage = 2
status (BadTask fault) = 3
status TooMany = 4
status OverBudget = 5
status (ReadFault file) = 6
status WriteFault = 7
status OutOfMemory = 8

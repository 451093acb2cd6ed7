-- What clap reads of the words after the mode.
use Rattle.std.specs.Prelude.{ℕ, true, List, [], codes, Option, Some, None, option_and_then, option_map, if◌then◌else◌}
use Rattle.clap.specs.Walk.{Row, Rule, Text, first_of, is_empty}
use Rattle.clap.specs.Simple.{App, new_rule, new_shape, matches_of, with_rule}
use Rattle.clap.specs.Faults.{fault_of}
use Rattle.command_line.specs.Word.{workers_of}
use Rattle.command_line.specs.Command.{run_by, plain_by}
use Rattle.command_line.specs.declared.reading.Parts.{Parts}
use Rattle.command_line.specs.declared.request.Request.{Request}

-- a command whose words begin after the program's name, and its one operand
abbrev pub without_name : Text → App
without_name name = record { top = record (new_shape name) { no_binary_name = true }; subs = [] }

abbrev pub file_rule : Rule
file_rule = record (new_rule (codes "file")) { required = true }

abbrev pub workers_rule : Rule
workers_rule = record (new_rule (codes "workers")) { long = Some (codes "workers") }

-- the commands of the two modes
abbrev pub run_app : App
run_app = with_rule (with_rule (without_name (codes "run")) file_rule) workers_rule

abbrev pub plain_app : App
plain_app = with_rule (without_name (codes "plain")) file_rule

-- the matches of a command on the words, if it takes them
abbrev pub rows_if_taken : App → List Text → Option (List Row)
rows_if_taken app words = if is_empty (fault_of app words) then Some (matches_of app words) else None

-- the file among the matches, and the word after the option where that stands
abbrev pub Named : Type 0
Named = Text × Option Text

abbrev pub parts_in : List Row → Option Named
parts_in rows = option_map (λ file. (file, first_of (codes "workers") rows)) (first_of (codes "file") rows)

abbrev pub parts_of : App → List Text → Option Named
parts_of app words = option_and_then parts_in (rows_if_taken app words)

-- the texts of what the code reads
abbrev pub parts_text : Parts → Named
parts_text parts = (parts.file.now, option_map (λ s. s.now) parts.number)

-- what is asked for by the parts of the words after `run`: where no number is named, there are 4 workers
abbrev pub number_of : Option Text → Option ℕ
number_of None = Some 4
number_of (Some number) = workers_of number

abbrev pub run_named : Option Named → Option Request
run_named None = None
run_named (Some parts) = run_by (number_of parts.1) parts.0

-- what is asked for by the parts of the words after `plain`
abbrev pub plain_named : Option Named → Option Request
plain_named None = None
plain_named (Some parts) = plain_by parts.0

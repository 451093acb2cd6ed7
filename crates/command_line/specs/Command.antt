-- What the words of the command line ask for.
use Rattle.std.specs.Prelude.{ℕ, List, [], ◌∷◌, codes, Option, Some, None, if◌then◌else◌}
use Rattle.std.specs.Str.{bytes_eq}
use Rattle.command_line.specs.Word.{is_operand, is_option, workers_of}
use Rattle.command_line.specs.declared.request.Request.{Request}
use Rattle.command_line.specs.declared.request.Request.TheVariants.{Run, Plain}

-- a run of a file by a number of workers
abbrev pub run_by : Option ℕ → List ℕ → Option Request
run_by None file = None
run_by (Some workers) file = if is_operand file then Some (Run file workers) else None

-- what the words after `run` ask for: they are FILE, which 4 workers run, or `--workers N FILE` or `FILE --workers N`
abbrev pub run_of : List (List ℕ) → Option Request
run_of (file ∷ []) = run_by (Some 4) file
run_of (first ∷ second ∷ third ∷ []) =
    if is_option first then run_by (workers_of second) third
    else (if is_option second then run_by (workers_of third) first else None)
run_of _ = None

-- a plain listing of a file
abbrev pub plain_by : List ℕ → Option Request
plain_by file = if is_operand file then Some (Plain file) else None

-- what the words after `plain` ask for: they are FILE
abbrev pub plain_of : List (List ℕ) → Option Request
plain_of (file ∷ []) = plain_by file
plain_of _ = None

-- what the words ask for, if they are understood: the first is the mode
abbrev pub command : List (List ℕ) → Option Request
command [] = None
command (mode ∷ words) =
    if bytes_eq mode (codes "run") then run_of words
    else (if bytes_eq mode (codes "plain") then plain_of words else None)

-- the task file of what is asked for
abbrev pub file_of : Request → List ℕ
file_of (Run file workers) = file
file_of (Plain file) = file

-- What a word of the command line is.
use Rattle.std.specs.Prelude.{ℕ, Bool, not, ◌&&◌, ◌||◌, ◌==◌, nat_lt, List, length, slice_index, codes, Option, find}
use Rattle.std.specs.Fmt.{decimal}
use Rattle.std.specs.List.{range_with_len}
use Rattle.std.specs.Str.{bytes_eq}
use Rattle.value_core.specs.Text.{is_text}

-- whether a word may name the task file: not empty, not beginning with `-`, and UTF-8
abbrev pub is_operand : List ℕ → Bool
is_operand word = (nat_lt 0 (length word) && not (slice_index word 0 == 45)) && is_text word

-- whether a word is the one option
abbrev pub is_option : List ℕ → Bool
is_option word = bytes_eq word (codes "--workers")

-- whether a word is one that clap may read: it may name the file or spell a number, or is the option
abbrev pub is_known : List ℕ → Bool
is_known word = is_operand word || is_option word

-- the number of workers that a word spells: one of 1 to 16, in decimal
abbrev pub workers_of : List ℕ → Option ℕ
workers_of word = find (λ n. bytes_eq word (decimal n)) (range_with_len 1 16)

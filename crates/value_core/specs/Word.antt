-- The length of a text.
use Rattle.std.specs.Prelude.{ℕ, ◌≤◌, List, length}
use Rattle.value_core.specs.declared.word.TheConstants.{LONGEST_WORD}

-- a text or a name has at least one byte, and not more than the longest word
abbrev pub IsWord : List ℕ → Type 0
IsWord bytes = (1 ≤ length bytes) × (length bytes ≤ LONGEST_WORD)

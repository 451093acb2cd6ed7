-- Bytes that are text.
use Rattle.std.specs.Prelude.{ℕ, Bool, List, length, ◌==◌}
use Rattle.std.specs.Str.Lossy.{utf8_valid_len}

-- whether bytes are UTF-8
abbrev pub is_text : List ℕ → Bool
is_text bytes = utf8_valid_len bytes == length bytes

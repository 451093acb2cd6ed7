-- Files in memory, each a name and its bytes.
use Rattle.std.specs.Prelude.{ℕ, List, [], Option, option_map, slice_get}
use Rattle.std.specs.List.{position_or_len}
use Rattle.std.specs.Str.{bytes_eq}
use Rattle.std.specs.Option.{unwrap_or}

-- the number of files that stand before the first of this name
abbrev pub place_of : List (List ℕ × List ℕ) → List ℕ → ℕ
place_of files name = position_or_len (λ file. bytes_eq file.0 name) files

-- the bytes of the first file of this name
abbrev pub bytes_of : List (List ℕ × List ℕ) → List ℕ → Option (List ℕ)
bytes_of files name = option_map (λ file. file.1) (slice_get files (place_of files name))

-- the bytes of the first file of this name, and none where there is no such file
abbrev pub bytes_or_none : List (List ℕ × List ℕ) → List ℕ → List ℕ
bytes_or_none files name = unwrap_or (bytes_of files name) []

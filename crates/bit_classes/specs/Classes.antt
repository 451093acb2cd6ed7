-- Each vector of a list once, with its first place.
use Rattle.std.specs.Prelude.{ℕ, Bool, ◌==◌, List, map, filter}
use Rattle.std.specs.List.{position_or_len, enumerate_from}
use Rattle.bit_rows.specs.Bits.{same_bits}
use Rattle.bit_classes.specs.declared.class.Class.{Class}

-- a vector and its place, as a class
abbrev pub class_of : ℕ × List Bool → Class
class_of e = record { bits = e.1; number = e.0 }

-- whether a vector of a list stands at no smaller place
abbrev pub stands_first : List (List Bool) → ℕ × List Bool → Bool
stands_first vectors e = position_or_len (same_bits e.1) vectors == e.0

-- each vector of a list once, with its first place, ascending by places
abbrev pub classes_of : List (List Bool) → List Class
classes_of vectors = map class_of (filter (stands_first vectors) (enumerate_from 0 vectors))

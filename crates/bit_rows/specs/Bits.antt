-- Rows of bits, joined and compared place by place.
use Rattle.std.specs.Prelude.{Bool, ◌&&◌, ◌||◌, List}
use Rattle.std.specs.Cmp.Lexicographic.{pointwise}
use mathlib.Core.Bool.{beq}
use lib.Lanes.{zip2}

-- the bits that are set in both of two rows
abbrev pub and_bits : List Bool → List Bool → List Bool
and_bits xs ys = zip2 (λ x y. x && y) xs ys

-- the bits that are set in one of two rows, or in both
abbrev pub or_bits : List Bool → List Bool → List Bool
or_bits xs ys = zip2 (λ x y. x || y) xs ys

-- whether two rows are the same
abbrev pub same_bits : List Bool → List Bool → Bool
same_bits xs ys = pointwise beq xs ys

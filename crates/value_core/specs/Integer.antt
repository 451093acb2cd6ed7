-- How whole numbers are spelled.
use Rattle.std.specs.Prelude.{ℕ, ℤ, pos, neg_ℤ, ◌+◌, ◌^◌, Bool, not, ◌&&◌, ◌==◌, nat_lt, List, length, drop, slice_index, Option, Some, None, option_map, if◌then◌else◌}
use Rattle.std.specs.Char.{is_ascii_digit}
use Rattle.std.specs.List.{list_all}
use Rattle.std.specs.Str.Parse.{digits_value}

-- whether these are one or more decimal digits, of which the first isn't 0
abbrev pub is_numeral : List ℕ → Bool
is_numeral digits = (nat_lt 0 (length digits) && list_all is_ascii_digit digits) && not (slice_index digits 0 == 48)

-- the number below the limit that a numeral stands for
abbrev pub numeral_below : ℕ → List ℕ → Option ℕ
numeral_below limit digits =
    if is_numeral digits && nat_lt (digits_value 10 digits) limit then Some (digits_value 10 digits) else None

-- the whole number of 64 bits that these bytes spell: `0`, or digits that don't begin with 0, perhaps after a `-`
abbrev pub integer_of : List ℕ → Option ℤ
integer_of bytes =
    if slice_index bytes 0 == 45 then option_map (λ n. neg_ℤ (pos n)) (numeral_below (2 ^ 63 + 1) (drop 1 bytes))
    else (if (slice_index bytes 0 == 48) && (length bytes == 1) then Some (pos 0) else option_map pos (numeral_below (2 ^ 63) bytes))

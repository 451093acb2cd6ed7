-- How a row of bits is packed into words of 64 bits, the lowest bit first.
use Rattle.std.specs.Prelude.{ℕ, ◌+◌, ◌/◌, ◌%◌, min, Bool, ◌==◌, List, map, length, slice_index}
use Rattle.std.specs.List.{range_with_len}
use Rattle.std.specs.Fork.{slice_chunk}
use Rattle.std.specs.Int.{bit_at}
use lib.Lanes.{mask_l}

-- how many words a row of so many bits takes
abbrev pub word_count : ℕ → ℕ
word_count n = n / 64 + min 1 (n % 64)

-- the words of a row: each is the number whose bits are the next 64 of the row, zero past its end
abbrev pub packed : List Bool → List ℕ
packed bits = map (λ k. mask_l (slice_chunk bits 64 k)) (range_with_len 0 (word_count (length bits)))

-- whether the bit at a place is set in some words
abbrev pub bit_in : List ℕ → ℕ → Bool
bit_in words i = bit_at (slice_index words (i / 64)) (i % 64) == 1

-- the first n bits of some words
abbrev pub unpacked : ℕ → List ℕ → List Bool
unpacked n words = map (bit_in words) (range_with_len 0 n)

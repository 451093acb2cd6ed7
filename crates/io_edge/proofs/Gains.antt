-- Several writes in a row.
use Rattle.std.proofs.Common.{◌≡◌, ℕ, ◌+◌, ◌-◌, ◌≤◌, min, List, ◌++◌, length, take, drop, Option, Some, None, append_assoc, arith}
use Rattle.std.proofs.lemmas.List.{take-append-le, take_rest, take_min}
use Rattle.std.proofs.Math.Seq.{take-append-add, take-add}
use Rattle.io_edge.specs.Gained.{Gained, GainedFront}
use Rattle.io_edge.specs.Rose.{Rose}

-- two gains in a row are a gain of both pieces
pub gained_then : (a b c : Option (List ℕ)) (x y : List ℕ) → Gained a b x → Gained b c y → Gained a c (x ++ y)
gained_then None b c x y first second = cc
gained_then (Some w) b c x y first second = let e : c ≡ Some ((w ++ x) ++ y) = cc in rw (← append_assoc w x y) e

-- a gain and then a front of the next piece are a front of both
pub gained_front_then : (a b c : Option (List ℕ)) (x y : List ℕ) → Gained a b x → GainedFront b c y → GainedFront a c (x ++ y)
gained_front_then a b c x y first (n, second) = (length x + n, rw (take-append-add x y n) (gained_then a b c x (take n y) first second))

-- a front of a piece is a front of the piece with more after it
pub gained_front_more : (a b : Option (List ℕ)) (x y : List ℕ) → GainedFront a b x → GainedFront a b (x ++ y)
gained_front_more a b x y (n, gain) =
    let within : min n (length x) ≤ length x = omega arith in
    (min n (length x), rw (take-append-le (min n (length x)) x y within, take_min n x) gain)

-- one more write from the bytes that are left
pub gained_more : (a b c : Option (List ℕ)) (bytes : List ℕ) (i n : ℕ) → Gained a b (take i bytes) → Gained b c (take n (take (length bytes - i) (drop i bytes))) → Gained a c (take (i + n) bytes)
gained_more a b c bytes i n first second =
    rw (take-add i n bytes) (gained_then a b c (take i bytes) (take n (drop i bytes)) first (rw (take_rest bytes i) at second))

-- a count that rose at the end rose over the whole
pub rose_later : (a b c : ℕ) → a ≤ b → Rose b c → Rose a c
rose_later a b c le rose = omega arith

-- a count that rose stays above where it began
pub rose_earlier : (a b c : ℕ) → Rose a b → b ≤ c → Rose a c
rose_earlier a b c rose le = omega arith

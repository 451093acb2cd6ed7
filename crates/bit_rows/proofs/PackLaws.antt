-- Packed rows: what is unpacked again, and AND and OR word by word.
use Rattle.std.proofs.Common.{◌≡◌, refl, sym, ap, ◌∙◌, ℕ, zero, suc, ◌+◌, ◌*◌, ◌/◌, ◌%◌, ◌^◌, ◌<◌, ◌≤◌, min, max, Bool, true, false, cond, ◌==◌, ◌&&◌, ◌||◌, Decides, List, [], ◌∷◌, ◌++◌, Some, None, length, get_or, map, take, drop, arith, length-drop}
use Rattle.std.specs.Prelude.{bit_and, bit_or, count_ones, count_by}
use Rattle.std.specs.List.{range_with_len, slice_get, sum_by, list_all}
use Rattle.std.specs.Fork.{slice_chunk}
use Rattle.std.specs.Int.{bit_at, from_bool}
use Rattle.std.specs.Str.{bytes_eq}
use Rattle.std.specs.Cmp.Lexicographic.{pointwise_decides}
use Rattle.std.specs.Cmp.{booleans_Decides}
use Rattle.std.proofs.lemmas.List.{ext_get_or, drop_more, get_or-take, get_or-drop, get_or-map, length-take, length-map, map-id}
use Rattle.std.proofs.lemmas.List.FromFn.{fill_by_all, length-map-range_with_len, get_or-map-range_with_len, map-range_with_len_more}
use Rattle.std.proofs.lemmas.List.Sums.{sum-map, sum_by-cons, sum_by_more, sum_by_more_le, count_by-le-length}
use Rattle.std.proofs.lemmas.Slice.Chunks.{sum_by_chunks}
use Rattle.std.proofs.lemmas.Slice.Eq.{bytes_eq-Decides}
use Rattle.std.proofs.lemmas.Bool.Decides.{nat_tests, Decides-eqb, Decides-like}
use Rattle.std.proofs.lemmas.Option.{slice_get-get_or, slice_get_past}
use Rattle.std.proofs.lemmas.Simd.{mask_l-lt, bit_mask_l, ones-mask_l, zip2-map, length-zip2, get_or-zip2}
use Rattle.std.proofs.Math.Pow.{pow_mono}
use lib.Lanes.{mask_l, zip2}
use lib.Bits.{and_step, or_step}
use Rattle.bit_rows.specs.Bits.{and_bits, or_bits, same_bits}
use Rattle.bit_rows.specs.Packing.{word_count, packed, bit_in, unpacked}

-- ---- what is packed is unpacked again

as_number : (b : Bool) → (cond b 1 0 == 1) ≡ b
as_number true = refl
as_number false = refl

pub length-unpacked : (n : ℕ) (words : List ℕ) → length (unpacked n words) ≡ n
length-unpacked n words = length-map-range_with_len (bit_in words) 0 n

pub length-packed : (bits : List Bool) → length (packed bits) ≡ word_count (length bits)
length-packed bits = length-map-range_with_len (λ k. mask_l (slice_chunk bits 64 k)) 0 (word_count (length bits))

-- one word more
pub packed_more : (bits : List Bool) (k : ℕ) → map (λ j. mask_l (slice_chunk bits 64 j)) (range_with_len 0 (k + 1)) ≡ map (λ j. mask_l (slice_chunk bits 64 j)) (range_with_len 0 k) ++ mask_l (take 64 (drop (k * 64) bits)) ∷ []
packed_more bits k = map-range_with_len_more (λ j. mask_l (slice_chunk bits 64 j)) 0 k k (omega arith)

-- the length of a row, by its bits
pub length_of : (n : ℕ) (words : List ℕ) (bits : List Bool) → unpacked n words ≡ bits → n ≡ length bits
length_of n words bits is = sym (length-unpacked n words) ∙ ap length is

-- how many words a row has, by its bits
pub words_of : (n : ℕ) (words : List ℕ) (bits : List Bool) → words ≡ packed (unpacked n words) → unpacked n words ≡ bits → length words ≡ word_count (length bits)
words_of n words bits kept is = ap length (kept ∙ ap packed is) ∙ length-packed bits

pub word_of_packed : (bits : List Bool) (k : ℕ) → k < word_count (length bits) → get_or (packed bits) k 0 ≡ mask_l (slice_chunk bits 64 k)
word_of_packed bits k below = get_or-map-range_with_len (λ j. mask_l (slice_chunk bits 64 j)) 0 (word_count (length bits)) k k 0 below (omega arith)

bit_of_chunk : (bits : List Bool) (k j : ℕ) → j < 64 → get_or (slice_chunk bits 64 k) j false ≡ get_or bits (k * 64 + j) false
bit_of_chunk bits k j below = get_or-take 64 (drop (k * 64) bits) j false below ∙ get_or-drop (k * 64) bits j false

pub bit_of_packed : (bits : List Bool) (i : ℕ) → i < length bits → bit_in (packed bits) i ≡ get_or bits i false
bit_of_packed bits i below =
    let k = i / 64 in
    let j = i % 64 in
    let word : k < word_count (length bits) = omega arith in
    let place : k * 64 + j ≡ i = omega arith in
    ap (λ w. bit_at w j == 1) (word_of_packed bits k word)
    ∙ ap (λ b. b == 1) (bit_mask_l (slice_chunk bits 64 k) j)
    ∙ as_number (get_or (slice_chunk bits 64 k) j false)
    ∙ bit_of_chunk bits k j (omega arith)
    ∙ ap (λ p. get_or bits p false) place

pub unpacked_packed : (bits : List Bool) → unpacked (length bits) (packed bits) ≡ bits
unpacked_packed bits = sym (fill_by_all (bit_in (packed bits)) bits (length bits) false refl (λ i below. sym (bit_of_packed bits i below)))

-- a bit as a number
pub from_bool_is : (b : Bool) → from_bool b ≡ cond b 1 0
from_bool_is true = refl
from_bool_is false = refl

-- a word with one bit more before its others fits
pub next_word : (bits : List Bool) (i word : ℕ) → word ≡ mask_l (drop (i + 1) bits) → i < length bits → length bits ≤ 64 → 2 * word + cond (get_or bits i false) 1 0 < 2 ^ 64
next_word bits i word is below short =
    let rest = drop i bits in
    let next = ap mask_l (drop_more bits i false below) in
    let fits = mask_l-lt rest in
    let within : length rest ≤ 64 = omega (arith, length-drop i bits) in
    omega (arith, is, next, fits, pow_mono within)

-- ---- AND and OR, word by word

half : (b : Bool) (m : ℕ) → (cond b 1 0 + 2 * m) / 2 ≡ m
half true m = omega arith
half false m = omega arith

odd : (b : Bool) (m : ℕ) → (cond b 1 0 + 2 * m) % 2 ≡ cond b 1 0
odd true m = omega arith
odd false m = omega arith

both_odd : (x y : Bool) (m : ℕ) → m * 2 + min (cond x 1 0) (cond y 1 0) ≡ cond (x && y) 1 0 + 2 * m
both_odd true true m = omega arith
both_odd true false m = omega arith
both_odd false y m = omega arith

one_odd : (x y : Bool) (m : ℕ) → m * 2 + max (cond x 1 0) (cond y 1 0) ≡ cond (x || y) 1 0 + 2 * m
one_odd true true m = omega arith
one_odd true false m = omega arith
one_odd false true m = omega arith
one_odd false false m = omega arith

and_mask : (xs ys : List Bool) → length xs ≡ length ys → bit_and (mask_l xs) (mask_l ys) ≡ mask_l (and_bits xs ys)
and_mask [] [] e = refl
and_mask [] (y ∷ ys) e = absurd (omega (arith, e))
and_mask (x ∷ xs) [] e = absurd (omega (arith, e))
and_mask (x ∷ xs) (y ∷ ys) e =
    let rest = and_mask xs ys (omega (arith, e)) in
    and_step (mask_l (x ∷ xs)) (mask_l (y ∷ ys))
    ∙ rw (half x (mask_l xs), half y (mask_l ys), odd x (mask_l xs), odd y (mask_l ys), rest) (both_odd x y (mask_l (and_bits xs ys)))

or_mask : (xs ys : List Bool) → length xs ≡ length ys → bit_or (mask_l xs) (mask_l ys) ≡ mask_l (or_bits xs ys)
or_mask [] [] e = refl
or_mask [] (y ∷ ys) e = absurd (omega (arith, e))
or_mask (x ∷ xs) [] e = absurd (omega (arith, e))
or_mask (x ∷ xs) (y ∷ ys) e =
    let rest = or_mask xs ys (omega (arith, e)) in
    or_step (mask_l (x ∷ xs)) (mask_l (y ∷ ys))
    ∙ rw (half x (mask_l xs), half y (mask_l ys), odd x (mask_l xs), odd y (mask_l ys), rest) (one_odd x y (mask_l (or_bits xs ys)))

-- parts of two lists that are joined place by place
module _ {X Y Z : Type 0} (f : X → Y → Z) where
  take-zip2 : (n : ℕ) (xs : List X) (ys : List Y) → take n (zip2 f xs ys) ≡ zip2 f (take n xs) (take n ys)
  take-zip2 zero xs ys = refl
  take-zip2 (suc n) [] ys = refl
  take-zip2 (suc n) (x ∷ xs) [] = refl
  take-zip2 (suc n) (x ∷ xs) (y ∷ ys) = ap (λ t. f x y ∷ t) (take-zip2 n xs ys)

  drop-zip2 : (n : ℕ) (xs : List X) (ys : List Y) → drop n (zip2 f xs ys) ≡ zip2 f (drop n xs) (drop n ys)
  drop-zip2 zero xs ys = refl
  drop-zip2 (suc n) [] ys = refl
  drop-zip2 (suc n) (x ∷ xs) [] = cut n x xs where
    cut : (n : ℕ) (x : X) (xs : List X) → [] ≡ zip2 f (drop n xs) []
    cut zero x [] = refl
    cut zero x (z ∷ zs) = refl
    cut (suc n) x [] = refl
    cut (suc n) x (z ∷ zs) = cut n x zs
  drop-zip2 (suc n) (x ∷ xs) (y ∷ ys) = drop-zip2 n xs ys

  chunk-zip2 : (n k : ℕ) (xs : List X) (ys : List Y) → slice_chunk (zip2 f xs ys) n k ≡ zip2 f (slice_chunk xs n k) (slice_chunk ys n k)
  chunk-zip2 n k xs ys = ap (take n) (drop-zip2 (k * n) xs ys) ∙ take-zip2 n (drop (k * n) xs) (drop (k * n) ys)

length_chunk : (xs ys : List Bool) (k : ℕ) → length xs ≡ length ys → length (slice_chunk xs 64 k) ≡ length (slice_chunk ys 64 k)
length_chunk xs ys k e = length-take 64 (drop (k * 64) xs) ∙ rw (length-drop (k * 64) xs, e, ← length-drop (k * 64) ys) (sym (length-take 64 (drop (k * 64) ys)))

-- rows joined by a test, where their words are joined by an operation that does the same to numbers
module _ (f : ℕ → ℕ → ℕ) (g : Bool → Bool → Bool) (mask : (xs ys : List Bool) → length xs ≡ length ys → f (mask_l xs) (mask_l ys) ≡ mask_l (zip2 g xs ys)) where
  word_joined : (xs ys : List Bool) → length xs ≡ length ys → (k : ℕ) → f (mask_l (slice_chunk xs 64 k)) (mask_l (slice_chunk ys 64 k)) ≡ mask_l (slice_chunk (zip2 g xs ys) 64 k)
  word_joined xs ys e k = mask (slice_chunk xs 64 k) (slice_chunk ys 64 k) (length_chunk xs ys k e) ∙ ap mask_l (sym (chunk-zip2 g 64 k xs ys))

  joined_packed : (xs ys : List Bool) → length xs ≡ length ys → zip2 f (packed xs) (packed ys) ≡ packed (zip2 g xs ys)
  joined_packed xs ys e =
      let words : List Bool → ℕ → ℕ = λ bits k. mask_l (slice_chunk bits 64 k) in
      let places : ℕ → List ℕ = λ n. range_with_len 0 (word_count n) in
      ap (λ n. zip2 f (packed xs) (map (words ys) (places n))) (sym e)
      ∙ zip2-map f (words xs) (words ys) (places (length xs))
      ∙ ap (λ h. map h (places (length xs))) (λ i k. word_joined xs ys e k i)
      ∙ ap (λ n. map (words (zip2 g xs ys)) (places n)) (sym (length-zip2 g xs ys e))

  -- the words of two rows of one length, joined, are packed, and unpack to the rows joined
  joined_row : (l m n : ℕ) (xs ys zs : List ℕ) (a b : List Bool) → xs ≡ packed (unpacked m xs) → ys ≡ packed (unpacked n ys) → unpacked m xs ≡ a → unpacked n ys ≡ b → length a ≡ length b → l ≡ length a → zs ≡ zip2 f xs ys
      → (zs ≡ packed (unpacked l zs)) × (unpacked l zs ≡ zip2 g a b)
  joined_row l m n xs ys zs a b kept_x kept_y is_a is_b same long is =
      let row = zip2 g a b in
      let words : zs ≡ packed row = is ∙ ap (λ w. zip2 f w ys) (kept_x ∙ ap packed is_a) ∙ ap (λ w. zip2 f (packed a) w) (kept_y ∙ ap packed is_b) ∙ joined_packed a b same in
      let bits : unpacked l zs ≡ row = ap (unpacked l) words ∙ ap (λ n. unpacked n (packed row)) (long ∙ sym (length-zip2 g a b same)) ∙ unpacked_packed row in
      (words ∙ ap packed (sym bits), bits)

pub and_row : (l m n : ℕ) (xs ys zs : List ℕ) (a b : List Bool) → xs ≡ packed (unpacked m xs) → ys ≡ packed (unpacked n ys) → unpacked m xs ≡ a → unpacked n ys ≡ b → length a ≡ length b → l ≡ length a → zs ≡ zip2 (λ x y. bit_and x y) xs ys
    → (zs ≡ packed (unpacked l zs)) × (unpacked l zs ≡ and_bits a b)
and_row = joined_row (λ x y. bit_and x y) (λ x y. x && y) and_mask

pub or_row : (l m n : ℕ) (xs ys zs : List ℕ) (a b : List Bool) → xs ≡ packed (unpacked m xs) → ys ≡ packed (unpacked n ys) → unpacked m xs ≡ a → unpacked n ys ≡ b → length a ≡ length b → l ≡ length a → zs ≡ zip2 (λ x y. bit_or x y) xs ys
    → (zs ≡ packed (unpacked l zs)) × (unpacked l zs ≡ or_bits a b)
or_row = joined_row (λ x y. bit_or x y) (λ x y. x || y) or_mask

-- words joined place by place
pub joined_by_places : (f : ℕ → ℕ → ℕ) (xs ys zs : List ℕ) → length xs ≡ length ys → length zs ≡ length xs → ((k : ℕ) → k < length xs → get_or zs k 0 ≡ f (get_or xs k 0) (get_or ys k 0)) → zs ≡ zip2 f xs ys
joined_by_places f xs ys zs same long each =
    ext_get_or 0 zs (zip2 f xs ys) (long ∙ sym (length-zip2 f xs ys same))
    (λ k below. each k (omega arith) ∙ sym (get_or-zip2 f xs ys k 0 0 0 (omega arith) (omega arith)))

-- ---- what is read off the words

-- two rows of one length are equal exactly where their words are
pub same_words : (m n : ℕ) (xs ys : List ℕ) (a b : List Bool) → xs ≡ packed (unpacked m xs) → ys ≡ packed (unpacked n ys) → unpacked m xs ≡ a → unpacked n ys ≡ b → m ≡ n → Decides (bytes_eq xs ys) (a ≡ b)
same_words m n xs ys a b kept_x kept_y is_a is_b same =
    Decides-like (bytes_eq xs ys)
    (λ e. sym is_a ∙ ap (λ l. unpacked l xs) same ∙ ap (unpacked n) e ∙ is_b)
    (λ e. kept_x ∙ ap packed (is_a ∙ e ∙ sym is_b) ∙ sym kept_y)
    (bytes_eq-Decides xs ys)

-- rows of two lengths aren't equal
pub other_lengths : (m n : ℕ) (xs ys : List ℕ) (a b : List Bool) → unpacked m xs ≡ a → unpacked n ys ≡ b → (m ≡ n → ⊥) → Decides (m == n) (a ≡ b)
other_lengths m n xs ys a b is_a is_b apart =
    (λ e. absurd (apart ((Decides-eqb m n).0 e)), λ e. absurd (apart (sym (length-unpacked m xs) ∙ ap length (is_a ∙ e ∙ sym is_b) ∙ length-unpacked n ys)))

-- `same_bits` is equality
pub same_bits_decides : (xs ys : List Bool) → Decides (same_bits xs ys) (xs ≡ ys)
same_bits_decides xs ys = pointwise_decides booleans_Decides xs ys

-- the bit at a place
pub word_there : (n : ℕ) (words : List ℕ) (i : ℕ) → words ≡ packed (unpacked n words) → i < n → i / 64 < length words
word_there n words i kept below =
    let words_long = ap length kept in
    let long = length-packed (unpacked n words) in
    let bits_long = length-unpacked n words in
    let count : length words ≡ word_count n = words_long ∙ long ∙ ap word_count bits_long in
    omega arith

pub bit_found : (n : ℕ) (words : List ℕ) (i : ℕ) → i < n → slice_get (unpacked n words) i ≡ Some (bit_in words i)
bit_found n words i below =
    let within : i < length (unpacked n words) = omega (arith, length-unpacked n words) in
    slice_get-get_or (unpacked n words) i false within ∙ ap Some (get_or-map-range_with_len (bit_in words) 0 n i i false below (omega arith))

pub bit_missing : (n : ℕ) (words : List ℕ) (i : ℕ) → n ≤ i → slice_get (unpacked n words) i ≡ None
bit_missing n words i past = slice_get_past (unpacked n words) i (omega (arith, length-unpacked n words))

-- the ones of each word together are those of the row
ones_of_word : (bits : List Bool) (k : ℕ) → k < length (map count_ones (packed bits)) → get_or (map count_ones (packed bits)) k 0 ≡ count_by (λ b. b) (slice_chunk bits 64 k)
ones_of_word bits k below =
    let within : k < length (packed bits) = omega (arith, length-map (packed bits) count_ones) in
    let counted : k < word_count (length bits) = omega (arith, length-packed bits) in
    get_or-map count_ones (packed bits) k 0 0 within
    ∙ ap count_ones (word_of_packed bits k counted)
    ∙ ap (λ bs. count_ones (mask_l bs)) (sym (map-id (slice_chunk bits 64 k)))
    ∙ ones-mask_l (λ b. b) (slice_chunk bits 64 k)

pub ones_packed : (bits : List Bool) → sum_by count_ones (packed bits) ≡ count_by (λ b. b) bits
ones_packed bits =
    sym (sum-map count_ones (packed bits))
    ∙ sum_by_chunks (λ b. cond b 1 0) 64 bits (map count_ones (packed bits)) (ones_of_word bits) (omega arith) (length-map (packed bits) count_ones ∙ length-packed bits)

pub ones_row : (n : ℕ) (words : List ℕ) (bits : List Bool) → words ≡ packed (unpacked n words) → unpacked n words ≡ bits → sum_by count_ones words ≡ count_by (λ b. b) bits
ones_row n words bits kept is = ap (sum_by count_ones) (kept ∙ ap packed is) ∙ ones_packed bits

pub ones_fit : (n : ℕ) (words : List ℕ) (bits : List Bool) → words ≡ packed (unpacked n words) → unpacked n words ≡ bits → n < 2 ^ 64 → sum_by count_ones words < 2 ^ 64
ones_fit n words bits kept is fits =
    let long : n ≡ length bits = sym (length-unpacked n words) ∙ ap length is in
    omega (arith, ones_row n words bits kept is, count_by-le-length (λ b. b) bits)

-- all bits are set exactly where as many are as there are
below_not : (m n : ℕ) → m < n → (m == n) ≡ false
below_not m n less = grind (arith, nat_tests)

next_same : (m n : ℕ) → (1 + m == suc n) ≡ (m == n)
next_same m n = grind (arith, nat_tests)

pub all_by_ones : (bits : List Bool) → (count_by (λ b. b) bits == length bits) ≡ list_all (λ b. b) bits
all_by_ones [] = refl
all_by_ones (true ∷ bits) = rw (sum_by-cons (λ b. cond b 1 0) true bits) (next_same (count_by (λ b. b) bits) (length bits) ∙ all_by_ones bits)
all_by_ones (false ∷ bits) =
    rw (sum_by-cons (λ b. cond b 1 0) false bits)
    (below_not (0 + count_by (λ b. b) bits) (suc (length bits)) (let most = count_by-le-length (λ b. b) bits in omega arith))

-- ---- the ones of an AND, counted word by word

ones_both_at : (a b : List ℕ) (k : ℕ) → k < length a → k < length b → get_or (zip2 (λ x y. bit_and x y) a b) k 0 ≡ bit_and (get_or a k 0) (get_or b k 0)
ones_both_at a b k in_a in_b = get_or-zip2 (λ x y. bit_and x y) a b k 0 0 0 in_a in_b

-- one word more
pub ones_both_more : (a b : List ℕ) (k : ℕ) → length a ≡ length b → k < length a
    → sum_by count_ones (take (k + 1) (zip2 (λ x y. bit_and x y) a b)) ≡ sum_by count_ones (take k (zip2 (λ x y. bit_and x y) a b)) + count_ones (bit_and (get_or a k 0) (get_or b k 0))
ones_both_more a b k same below =
    let there : k < length (zip2 (λ x y. bit_and x y) a b) = omega (arith, length-zip2 (λ x y. bit_and x y) a b same) in
    rw (← ones_both_at a b k below (omega arith)) (sum_by_more count_ones (zip2 (λ x y. bit_and x y) a b) k 0 there)

-- and the sum so far with it is within the whole sum
pub ones_both_within : (a b : List ℕ) (k : ℕ) → length a ≡ length b → k < length a
    → sum_by count_ones (take k (zip2 (λ x y. bit_and x y) a b)) + count_ones (bit_and (get_or a k 0) (get_or b k 0)) ≤ sum_by count_ones (zip2 (λ x y. bit_and x y) a b)
ones_both_within a b k same below =
    let there : k < length (zip2 (λ x y. bit_and x y) a b) = omega (arith, length-zip2 (λ x y. bit_and x y) a b same) in
    rw (← ones_both_at a b k below (omega arith)) (sum_by_more_le count_ones (zip2 (λ x y. bit_and x y) a b) k 0 there)

-- the ones of the words of an AND are those of the AND of the rows
pub ones_and_row : (m n : ℕ) (xs ys : List ℕ) (a b : List Bool) → xs ≡ packed (unpacked m xs) → ys ≡ packed (unpacked n ys) → unpacked m xs ≡ a → unpacked n ys ≡ b → length a ≡ length b
    → sum_by count_ones (zip2 (λ x y. bit_and x y) xs ys) ≡ count_by (λ b. b) (and_bits a b)
ones_and_row m n xs ys a b kept_x kept_y is_a is_b same =
    let row = and_row (length a) m n xs ys (zip2 (λ x y. bit_and x y) xs ys) a b kept_x kept_y is_a is_b same refl refl in
    ones_row (length a) (zip2 (λ x y. bit_and x y) xs ys) (and_bits a b) row.0 row.1

pub ones_and_fit : (m n : ℕ) (xs ys : List ℕ) (a b : List Bool) → xs ≡ packed (unpacked m xs) → ys ≡ packed (unpacked n ys) → unpacked m xs ≡ a → unpacked n ys ≡ b → length a ≡ length b → m < 2 ^ 64
    → sum_by count_ones (zip2 (λ x y. bit_and x y) xs ys) < 2 ^ 64
ones_and_fit m n xs ys a b kept_x kept_y is_a is_b same fits =
    let row = and_row m m n xs ys (zip2 (λ x y. bit_and x y) xs ys) a b kept_x kept_y is_a is_b same (length_of m xs a is_a) refl in
    ones_fit m (zip2 (λ x y. bit_and x y) xs ys) (and_bits a b) row.0 row.1 fits

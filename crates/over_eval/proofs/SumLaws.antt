-- The sum of a part of some values lies between that of the negative ones and that of the positive ones.
use Rattle.std.proofs.Common.{◌≡◌, refl, ap, ◌∙◌, ℤ, pos, ◌+ℤ◌, ◌≤ℤ◌, int_le, Bool, true, not, List, [], ◌∷◌, arith}
use Rattle.std.specs.Prelude.{filter}
use Rattle.std.proofs.lemmas.Bool.{and_from}
use Rattle.std.proofs.lemmas.Int.{ints}
use Rattle.value_core.specs.Value.{is_null}
use Rattle.value_core.specs.declared.value.Value.{Value}
use Rattle.value_core.specs.declared.value.Value.TheVariants.{Null, Int, Text}
use Rattle.query_core.specs.Groups.{number_of, exact_sum, is_within_64}
use Rattle.over_cells.specs.Cells.{is_within}
use Rattle.over_cells.specs.Aggregates.{below_0, above_0, negatives, positives, cut}
use Rattle.over_eval.specs.Placed.{Takes, here, later}
use Rattle.over_eval.proofs.PlacedLaws.{PartOf}

-- values that are NULL don't count
zero_more : (n : ℤ) → n ≡ pos 0 +ℤ n
zero_more n = omega (arith, ints)

abbrev pub not_null : Value → Bool
not_null v = not (is_null v)

pub sum_not_null : (vs : List Value) → exact_sum (filter not_null vs) ≡ exact_sum vs
sum_not_null [] = refl
sum_not_null (Null ∷ vs) = sum_not_null vs ∙ zero_more (exact_sum vs)
sum_not_null (Int n ∷ vs) = ap (λ s. n +ℤ s) (sum_not_null vs)
sum_not_null (Text s ∷ vs) = ap (λ s. pos 0 +ℤ s) (sum_not_null vs)

-- one value more
swap_sums : (a b c d : ℤ) → d ≡ b +ℤ c → a +ℤ d ≡ b +ℤ (a +ℤ c)
swap_sums a b c d e = omega (arith, ints)

taken_negatives : {v : Value} {ws rest : List Value} → Takes v ws rest → negatives ws ≡ below_0 (number_of v) +ℤ negatives rest
taken_negatives here = refl
taken_negatives (later {x = v} {y = w} {xs = ws} {rest = rest} t) = swap_sums (below_0 (number_of w)) (below_0 (number_of v)) (negatives rest) (negatives ws) (taken_negatives t)

taken_positives : {v : Value} {ws rest : List Value} → Takes v ws rest → positives ws ≡ above_0 (number_of v) +ℤ positives rest
taken_positives here = refl
taken_positives (later {x = v} {y = w} {xs = ws} {rest = rest} t) = swap_sums (above_0 (number_of w)) (above_0 (number_of v)) (positives rest) (positives ws) (taken_positives t)

below_least : (n : ℤ) → (below_0 n ≤ℤ n) × (below_0 n ≤ℤ pos 0)
below_least n = (grind (arith, ints), grind (arith, ints))

above_most : (n : ℤ) → (n ≤ℤ above_0 n) × (pos 0 ≤ℤ above_0 n)
above_most n = (grind (arith, ints), grind (arith, ints))

-- a sum and its bounds, one value more
lower_more : (b n low s : ℤ) → b ≤ℤ n → low ≤ℤ s → (b +ℤ low) ≤ℤ (n +ℤ s)
lower_more b n low s h k = omega (arith, ints)

lower_none : (b low : ℤ) → b ≤ℤ pos 0 → low ≤ℤ pos 0 → (b +ℤ low) ≤ℤ pos 0
lower_none b low h k = omega (arith, ints)

upper_none : (b high : ℤ) → pos 0 ≤ℤ b → pos 0 ≤ℤ high → pos 0 ≤ℤ (b +ℤ high)
upper_none b high h k = omega (arith, ints)

pub at_most : (a b c : ℤ) → a ≡ b → b ≤ℤ c → a ≤ℤ c
at_most a b c e h = omega (arith, ints)

pub at_least : (a b c : ℤ) → a ≡ b → c ≤ℤ b → c ≤ℤ a
at_least a b c e h = omega (arith, ints)

none_between : (ws : List Value) → (negatives ws ≤ℤ pos 0) × (pos 0 ≤ℤ positives ws)
none_between [] = (omega (arith, ints), omega (arith, ints))
none_between (w ∷ ws) =
    let rest = none_between ws in (
      lower_none (below_0 (number_of w)) (negatives ws) (below_least (number_of w)).1 rest.0,
      upper_none (above_0 (number_of w)) (positives ws) (above_most (number_of w)).1 rest.1,
    )

pub sum_between : (vs ws : List Value) → PartOf vs ws → (negatives ws ≤ℤ exact_sum vs) × (exact_sum vs ≤ℤ positives ws)
sum_between [] ws h = none_between ws
sum_between (v ∷ vs) ws h =
    let rest = sum_between vs h.1 h.4 in
    let w = number_of h.0 in
    let same : number_of v ≡ w = ap number_of h.3 in (
      at_most (negatives ws) (below_0 w +ℤ negatives h.1) (number_of v +ℤ exact_sum vs) (taken_negatives h.2)
          (lower_more (below_0 w) (number_of v) (negatives h.1) (exact_sum vs) (at_least (number_of v) w (below_0 w) same (below_least w).0) rest.0),
      at_least (positives ws) (above_0 w +ℤ positives h.1) (number_of v +ℤ exact_sum vs) (taken_positives h.2)
          (lower_more (number_of v) (above_0 w) (exact_sum vs) (positives h.1) (at_most (number_of v) w (above_0 w) same (above_most w).0) rest.1),
    )

-- a sum of 64 bits lies within the bounds, cut to 64 bits
cut_low : (low n : ℤ) → low ≤ℤ n → is_within_64 n ≡ true → int_le (cut low) n ≡ true
cut_low low n h within = grind (arith, ints)

cut_high : (high n : ℤ) → n ≤ℤ high → is_within_64 n ≡ true → int_le n (cut high) ≡ true
cut_high high n h within = grind (arith, ints)

pub sum_within_cut : (low high n : ℤ) (null : Bool) → low ≤ℤ n → n ≤ℤ high → is_within_64 n ≡ true → is_within (cut low) (cut high) null (Int n) ≡ true
sum_within_cut low high n null h k within = and_from (int_le (cut low) n) (int_le n (cut high)) (cut_low low n h within) (cut_high high n k within)

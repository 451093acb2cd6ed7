-- Laws of the values of a group.
use Rattle.std.proofs.Common.{◌≡◌, ℕ, zero, suc, ◌+◌, ◌<◌, ◌+ℤ◌, Bool, true, false, ◌&&◌, List, [], ◌∷◌, ◌++◌, map, length, drop, get_or, if◌then◌else◌, refl, ◌∙◌, arith, length-append, add-one}
use Rattle.std.specs.List.{list_any}
use Rattle.std.proofs.lemmas.List.{map-append}
use Rattle.value_core.specs.Value.{same}
use Rattle.value_core.specs.declared.value.Value.{Value}
use Rattle.table_core.specs.Rows.{Row}
use Rattle.table_core.specs.Bag.{same_cells}
use Rattle.query_core.specs.Groups.{distinct_values, number_of, exact_sum}
use Rattle.bag_eval.proofs.FirstLaws.{firsts_push, any_firsts}

-- the row of one value
abbrev cell : Value → Row
cell v = v ∷ []

same_cell : (b : Bool) → b && true ≡ b
same_cell true = refl
same_cell false = refl

-- a value is among some values exactly where its row is among theirs
any_cell : (v : Value) (vs : List Value) → list_any (λ r. same_cells r (cell v)) (map cell vs) ≡ list_any (λ w. same w v) vs
any_cell v [] = refl
any_cell v (w ∷ vs) = rw (same_cell (same w v), any_cell v vs) refl

length_if : (b : Bool) (xs : List Row) (x : Row) → length (xs ++ (if b then [] else x ∷ [])) ≡ (if b then length xs else length xs + 1)
length_if true xs x = length-append xs [] ∙ omega arith
length_if false xs x = length-append xs (x ∷ [])

-- a value more is one distinct value more, unless it is among the values before
pub distinct_push : (vs : List Value) (v : Value) → length (distinct_values (vs ++ v ∷ [])) ≡ (if list_any (λ w. same w v) vs then length (distinct_values vs) else length (distinct_values vs) + 1)
distinct_push vs v =
    rw (map-append cell vs (v ∷ []), firsts_push (map cell vs) (cell v), any_firsts (cell v) (map cell vs), any_cell v vs)
    (length_if (list_any (λ w. same w v) vs) (distinct_values vs) (cell v))

exact_sum_from : (vs : List Value) (i : ℕ) (d : Value) → i < length vs → exact_sum (drop i vs) ≡ number_of (get_or vs i d) +ℤ exact_sum (drop (suc i) vs)
exact_sum_from [] i d below = absurd (omega arith)
exact_sum_from (v ∷ vs) zero d below = refl
exact_sum_from (v ∷ vs) (suc i) d below = exact_sum_from vs i d (omega arith)

-- the sum from a place on is the number there and the sum behind it
pub exact_sum_next : (vs : List Value) (i : ℕ) (d : Value) → i < length vs → exact_sum (drop i vs) ≡ number_of (get_or vs i d) +ℤ exact_sum (drop (i + 1) vs)
exact_sum_next vs i d below = rw (add-one) (exact_sum_from vs i d below)

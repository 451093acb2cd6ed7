-- Laws of distinct values.
use Rattle.std.proofs.Common.{◌≡◌, ℕ, ◌+◌, ◌<◌, length, drop, get_or, Bool, true, false, not, ◌||◌, List, [], ◌∷◌, ◌++◌, refl, sym, ap, ◌∙◌, inl, inr}
use Rattle.std.specs.Prelude.{filter}
use Rattle.std.specs.List.{list_any}
use Rattle.std.proofs.lemmas.Bool.{cases_Bool}
use Rattle.std.proofs.lemmas.List.{append_assoc, append-nil, drop_more}
use Rattle.std.proofs.lemmas.List.Folds.{list_any-append}
use Rattle.value_core.specs.Value.{same, is_null}
use Rattle.value_core.specs.declared.value.Value.{Value}
use Rattle.over_cells.specs.Aggregates.{distinct_after, distinct}

-- two lists have the same values
abbrev Alike : List Value → List Value → Type 0
Alike xs ys = (v : Value) → list_any (same v) xs ≡ list_any (same v) ys

or_false : (b : Bool) → (b || false) ≡ b
or_false true = refl
or_false false = refl

or_swap : (a b : Bool) → (a || b) ≡ (b || a)
or_swap true true = refl
or_swap true false = refl
or_swap false true = refl
or_swap false false = refl

alike_more : (xs ys : List Value) (x : Value) → Alike xs ys → Alike (x ∷ xs) (x ∷ ys)
alike_more xs ys x alike v = ap (λ b. same v x || b) (alike v)

-- a value in front of some values, or behind them
alike_ends : (xs : List Value) (x : Value) → Alike (x ∷ xs) (xs ++ x ∷ [])
alike_ends xs x v = or_swap (same v x) (list_any (same v) xs) ∙ (ap (λ b. list_any (same v) xs || b) (sym (or_false (same v x))) ∙ sym (list_any-append (same v) xs (x ∷ [])))

-- of the values seen only which they are matters
distinct_alike : (vs xs ys : List Value) → Alike xs ys → distinct_after xs vs ≡ distinct_after ys vs
distinct_alike [] xs ys alike = refl
distinct_alike (v ∷ vs) xs ys alike =
    elim (cases_Bool (list_any (same v) ys)) [
      | inl seen ↦ rw (alike v, seen) (distinct_alike vs xs ys alike)
      | inr new ↦ rw (alike v, new) (ap (λ t. v ∷ t) (distinct_alike vs (v ∷ xs) (v ∷ ys) (alike_more xs ys v alike)))
    ]

-- one value more, which isn't NULL
value_turn : (out vs : List Value) (v : Value) → (out ++ distinct_after out (v ∷ [])) ++ distinct_after (out ++ distinct_after out (v ∷ [])) vs ≡ out ++ distinct_after out (v ∷ vs)
value_turn out vs v =
    elim (cases_Bool (list_any (same v) out)) [
      | inl seen ↦ rw (seen, append-nil out) refl
      | inr new ↦ rw (new, append_assoc out (v ∷ []) (distinct_after (out ++ v ∷ []) vs)) (ap (λ t. out ++ v ∷ t) (sym (distinct_alike vs (v ∷ out) (out ++ v ∷ []) (alike_ends out v))))
    ]

-- one value more: where it is new, it comes behind the values so far
pub distinct_turn : (out vs : List Value) (v : Value) → (out ++ distinct_after out (filter (λ w. not (is_null w)) (v ∷ []))) ++ distinct_after (out ++ distinct_after out (filter (λ w. not (is_null w)) (v ∷ []))) (filter (λ w. not (is_null w)) vs) ≡ out ++ distinct_after out (filter (λ w. not (is_null w)) (v ∷ vs))
distinct_turn out vs v =
    elim (cases_Bool (is_null v)) [
      | inl null ↦ rw (null, append-nil out) refl
      | inr other ↦ rw (other) (value_turn out (filter (λ w. not (is_null w)) vs) v)
    ]

-- the turn of a loop over values that gathers the distinct ones
pub distinct_step : (values out more : List Value) (i : ℕ) (v : Value) → i < length values → v ≡ get_or values i v → more ≡ out ++ distinct_after out (filter (λ w. not (is_null w)) (v ∷ [])) → out ++ distinct_after out (filter (λ w. not (is_null w)) (drop i values)) ≡ distinct values → more ++ distinct_after more (filter (λ w. not (is_null w)) (drop (i + 1) values)) ≡ distinct values
distinct_step values out more i v below is kept before =
    let next = rw (← is) at (drop_more values i v below) in
    rw (kept) (distinct_turn out (drop (i + 1) values) v ∙ (ap (λ rest. out ++ distinct_after out (filter (λ w. not (is_null w)) rest)) (sym next) ∙ before))

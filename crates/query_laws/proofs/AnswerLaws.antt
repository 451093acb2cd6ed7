-- The answers of a task ascend strictly.
use Rattle.std.proofs.Common.{◌≡◌, refl, sym, ap, ◌∙◌, ℕ, zero, suc, ◌<◌, ◌⊎◌, Bool, true, List, [], ◌∷◌, map, Some, inl, inr, arith}
use Rattle.std.specs.Prelude.{filter, slice_get}
use Rattle.std.specs.Cmp.{IsTotalOrder}
use Rattle.std.specs.declared.cmp.Ordering.{Ordering}
use Rattle.std.specs.declared.cmp.Ordering.TheVariants.{Less, Equal, Greater}
use Rattle.std.specs.Ordering.{is_lt, ordering_reverse}
use Rattle.std.proofs.lemmas.Bool.{cases_Bool, false≢true}
use Rattle.std.proofs.lemmas.Option.{same_Some, none-some}
use Rattle.predicate_core.proofs.OnceLists.{In, Once, in_same, in_map, in_at, at_in}
use Rattle.table_core.specs.declared.task.TaskParts.{TaskParts}
use Rattle.query_core.specs.Grammar.{Numbered, queries}
use Rattle.query_core.specs.Rank.{Key, key_order, before}
use Rattle.query_core.specs.Answers.{RankedQuery, ranked, comes_before, placed, ascending, is_answer, found, answers}
use Rattle.query_laws.specs.Laws.{key_of, TiesAreEqual, Ascends}
use Rattle.query_laws.proofs.MemberLaws.{in_filter, map_in}
use Rattle.query_core.proofs.KeyLaws.{key_order_total}
use Rattle.query_laws.proofs.KeyLaws.{keys_apart, ties_equal}

-- each element of a list stands in a relation to each later one
abbrev Pairwise : {X : Type 0} → (X → X → Type 0) → List X → Type 0
Pairwise {X} R [] = Unit {0}
Pairwise {X} R (x ∷ xs) = ((y : X) → In y xs → R x y) × Pairwise R xs

-- from the places to the front, and back
from_places : {X : Type 0} (R : X → X → Type 0) (xs : List X) → ((i j : ℕ) (a b : X) → i < j → slice_get xs i ≡ Some a → slice_get xs j ≡ Some b → R a b) → Pairwise R xs
from_places R [] h = tt
from_places R (x ∷ xs) h = (
  λ y i. let place = at_in y xs i in h zero (suc place.0) x y (omega arith) refl place.1,
  from_places R xs (λ i j a b below here there. h (suc i) (suc j) a b (omega arith) here there),
)

to_places : {X : Type 0} (R : X → X → Type 0) (xs : List X) → Pairwise R xs → (i j : ℕ) (a b : X) → i < j → slice_get xs i ≡ Some a → slice_get xs j ≡ Some b → R a b
to_places R [] h i j a b below here there = absurd (none-some a here)
to_places R (x ∷ xs) h zero zero a b below here there = absurd (omega arith)
to_places R (x ∷ xs) h zero (suc j) a b below here there = rw (sym (same_Some x a here)) (h.0 b (in_at xs j b there))
to_places R (x ∷ xs) h (suc i) zero a b below here there = absurd (omega arith)
to_places R (x ∷ xs) h (suc i) (suc j) a b below here there = to_places R xs h.1 i j a b (omega arith) here there

-- what is kept stands in the same relation
pairwise_filter : {X : Type 0} (R : X → X → Type 0) (p : X → Bool) (xs : List X) → Pairwise R xs → Pairwise R (filter p xs)
pairwise_filter R p [] h = tt
pairwise_filter R p (x ∷ xs) h =
    elim (cases_Bool (p x)) [
      | inl holds ↦ rw holds (λ y i. h.0 y (in_filter p y xs i).0, pairwise_filter R p xs h.1)
      | inr fails ↦ rw fails (pairwise_filter R p xs h.1)
    ]

-- what a function gives of elements stands in a relation where the elements do so by it
pairwise_map : {X Y : Type 0} (R : Y → Y → Type 0) (f : X → Y) (xs : List X) → Pairwise (λ a b. R (f a) (f b)) xs → Pairwise R (map f xs)
pairwise_map R f [] h = tt
pairwise_map R f (x ∷ xs) h = (λ y i. let from = in_map f y xs i in rw from.2 (h.0 from.0 from.1), pairwise_map R f xs h.1)

-- one of two elements comes before the other
abbrev Comparable : {X : Type 0} → (X → X → Bool) → X → X → Type 0
Comparable lt a b = (lt a b ≡ true) ⊎ (lt b a ≡ true)

-- what is in a list into which x was put is x or was there
pub in_placed : {X : Type 0} (lt : X → X → Bool) (x : X) (ys : List X) (y : X) → In y (placed lt x ys) → (y ≡ x) ⊎ In y ys
in_placed lt x [] y i = i
in_placed lt x (z ∷ zs) y i =
    elim (cases_Bool (lt z x)) [
      | inl holds ↦ let j : (y ≡ z) ⊎ In y (placed lt x zs) = rw holds at i in elim j [
        | inl e ↦ inr (inl e)
        | inr later ↦ elim (in_placed lt x zs y later) [ inl e ↦ inl e | inr rest ↦ inr (inr rest) ]
      ]
      | inr fails ↦ rw fails at i
    ]

-- what is in a sorted list was in the list
pub in_ascending : {X : Type 0} (lt : X → X → Bool) (xs : List X) (y : X) → In y (ascending lt xs) → In y xs
in_ascending lt [] y i = i
in_ascending lt (x ∷ xs) y i = elim (in_placed lt x (ascending lt xs) y i) [ inl e ↦ inl e | inr rest ↦ inr (in_ascending lt xs y rest) ]

-- and what was in the list is in the sorted one
placed_in : {X : Type 0} (lt : X → X → Bool) (x : X) (ys : List X) (y : X) → (y ≡ x) ⊎ In y ys → In y (placed lt x ys)
placed_in lt x [] y i = i
placed_in lt x (z ∷ zs) y i =
    elim (cases_Bool (lt z x)) [
      | inl holds ↦
          let j : (y ≡ z) ⊎ In y (placed lt x zs) = elim i [
            | inl e ↦ inr (placed_in lt x zs y (inl e))
            | inr rest ↦ elim rest [ inl e ↦ inl e | inr later ↦ inr (placed_in lt x zs y (inr later)) ]
          ] in
          rw holds j
      | inr fails ↦ rw fails i
    ]

pub ascending_in : {X : Type 0} (lt : X → X → Bool) (xs : List X) (y : X) → In y xs → In y (ascending lt xs)
ascending_in lt [] y i = i
ascending_in lt (x ∷ xs) y (inl e) = placed_in lt x (ascending lt xs) y (inl e)
ascending_in lt (x ∷ xs) y (inr i) = placed_in lt x (ascending lt xs) y (inr (ascending_in lt xs y i))

-- what a function gives of each element stands once in the sorted list where it does in the list
once_placed : {X Y : Type 0} (f : X → Y) (lt : X → X → Bool) (x : X) (ys : List X) → (In (f x) (map f ys) → ⊥) → Once (map f ys) → Once (map f (placed lt x ys))
once_placed f lt x [] new once = (new, once)
once_placed f lt x (y ∷ ys) new once =
    elim (cases_Bool (lt y x)) [
      | inl holds ↦ rw holds (
        λ i.
            let h = in_map f (f y) (placed lt x ys) i in
            elim (in_placed lt x ys h.0 h.1) [
              | inl e ↦ new (inl (sym (h.2 ∙ ap f e)))
              | inr later ↦ once.0 (in_same (f y) (f h.0) (map f ys) h.2 (map_in f h.0 ys later))
            ],
        once_placed f lt x ys (λ i. new (inr i)) once.1,
      )
      | inr fails ↦ rw fails (new, once)
    ]

pub once_ascending : {X Y : Type 0} (f : X → Y) (lt : X → X → Bool) (xs : List X) → Once (map f xs) → Once (map f (ascending lt xs))
once_ascending f lt [] once = once
once_ascending f lt (x ∷ xs) once =
    once_placed f lt x (ascending lt xs)
    (λ i.
    let h = in_map f (f x) (ascending lt xs) i in
    once.0 (in_same (f x) (f h.0) (map f xs) h.2 (map_in f h.0 xs (in_ascending lt xs h.0 h.1))))
    (once_ascending f lt xs once.1)

-- an element that is comparable with each of a strictly ascending list keeps it so
placed_ascends : {X : Type 0} (lt : X → X → Bool) → ((a b c : X) → lt a b ≡ true → lt b c ≡ true → lt a c ≡ true) → (x : X) (ys : List X)
    → Pairwise (λ a b. lt a b ≡ true) ys → ((y : X) → In y ys → Comparable lt x y) → Pairwise (λ a b. lt a b ≡ true) (placed lt x ys)
placed_ascends lt chain x [] up apart = (λ y i. absurd i, tt)
placed_ascends lt chain x (y ∷ ys) up apart =
    elim (cases_Bool (lt y x)) [
      | inl holds ↦ rw holds (
        λ z i. elim (in_placed lt x ys z i) [ inl e ↦ rw e holds | inr rest ↦ up.0 z rest ],
        placed_ascends lt chain x ys up.1 (λ z i. apart z (inr i)),
      )
      | inr fails ↦
          let first : lt x y ≡ true = elim (apart y (inl refl)) [ inl e ↦ e | inr e ↦ absurd (false≢true (sym fails ∙ e)) ] in
          rw fails (λ z i. elim i [ inl e ↦ rw e first | inr rest ↦ chain x y z first (up.0 z rest) ], up)
    ]

-- a list of which any two elements are comparable is sorted strictly
ascending_ascends : {X : Type 0} (lt : X → X → Bool) → ((a b c : X) → lt a b ≡ true → lt b c ≡ true → lt a c ≡ true) → (xs : List X)
    → Pairwise (Comparable lt) xs → Pairwise (λ a b. lt a b ≡ true) (ascending lt xs)
ascending_ascends lt chain [] apart = tt
ascending_ascends lt chain (x ∷ xs) apart =
    placed_ascends lt chain x (ascending lt xs) (ascending_ascends lt chain xs apart.1) (λ y i. apart.0 y (in_ascending lt xs y i))

-- only Less is less
less_from : (o : Ordering) → is_lt o ≡ true → o ≡ Less
less_from Less e = refl
less_from Equal e = absurd (false≢true e)
less_from Greater e = absurd (false≢true e)

-- a key before one that is before a third is before the third
chain_by : (R : Key → Key → Ordering) → IsTotalOrder R → (a b c : Key) → is_lt (R a b) ≡ true → is_lt (R b c) ≡ true → is_lt (R a c) ≡ true
chain_by R total a b c first next = ap is_lt (total.trans a b c (less_from (R a b) first) (less_from (R b c) next))

-- of two different keys one comes before the other
apart_by : (R : Key → Key → Ordering) → IsTotalOrder R → TiesAreEqual R → (a b : Key) → (a ≡ b → ⊥) → (o : Ordering) → R a b ≡ o → (is_lt (R a b) ≡ true) ⊎ (is_lt (R b a) ≡ true)
apart_by R total tied a b apart Less is = inl (ap is_lt is)
apart_by R total tied a b apart Equal is = absurd (apart (tied a b is))
apart_by R total tied a b apart Greater is = inr (ap is_lt (total.antisymm b a ∙ ap ordering_reverse is))

-- any two queries of the grammar are comparable
queries_comparable : (task : TaskParts) → Pairwise (λ a b. Comparable comes_before (ranked task a) (ranked task b)) (queries task)
queries_comparable task =
    from_places (λ a b. Comparable comes_before (ranked task a) (ranked task b)) (queries task)
    (λ i j a b below here there. apart_by key_order key_order_total ties_equal (key_of task a) (key_of task b) (λ e. let same : i ≡ j = keys_apart task i j a b here there e in omega arith) (key_order (key_of task a) (key_of task b)) refl)

-- any two answers are comparable
found_comparable : (task : TaskParts) → Pairwise (Comparable comes_before) (map (ranked task) (found task))
found_comparable task =
    let by_rank : Numbered → Numbered → Type 0 = λ a b. Comparable comes_before (ranked task a) (ranked task b) in
    pairwise_map (Comparable comes_before) (ranked task) (found task) (pairwise_filter by_rank (is_answer task) (queries task) (queries_comparable task))

pub answers_ascending : (task : TaskParts) → Ascends (answers task)
answers_ascending task =
    let chain : (a b c : RankedQuery) → comes_before a b ≡ true → comes_before b c ≡ true → comes_before a c ≡ true = λ a b c. chain_by key_order key_order_total a.key b.key c.key in
    to_places (λ a b. before a.key b.key ≡ true) (answers task) (ascending_ascends comes_before chain (map (ranked task) (found task)) (found_comparable task))

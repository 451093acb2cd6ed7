-- A list in ascending order has the elements of the list.
use Rattle.std.proofs.Common.{Bool, inl, inr, List, [], ◌∷◌}
use Rattle.std.specs.Prelude.{IsPermutation}
use Rattle.std.proofs.lemmas.Bool.{cases_Bool}
use Rattle.std.proofs.lemmas.List.Sorted.{IsPermutation-refl, IsPermutation-trans, IsPermutation-middle, IsPermutation-append_right}
use Rattle.query_core.specs.Answers.{placed, ascending}

-- an element is put into a list, which keeps its own
pub placed_permutes : {X : Type 0} (first : X → X → Bool) (x : X) (ys : List X) → IsPermutation (x ∷ ys) (placed first x ys)
placed_permutes first x [] = IsPermutation-refl (x ∷ [])
placed_permutes first x (y ∷ ys) =
    elim (cases_Bool (first y x)) [
      | inl holds ↦
          let swapped = IsPermutation-middle (x ∷ []) y ys in
          let placed_later = IsPermutation-append_right (y ∷ []) (x ∷ ys) (placed first x ys) (placed_permutes first x ys) in
          rw holds (IsPermutation-trans _ _ _ swapped placed_later)
      | inr fails ↦ rw fails (IsPermutation-refl (x ∷ y ∷ ys))
    ]

-- the list in ascending order is the list in another order: it has each element as often
pub ascending_permutes : {X : Type 0} (first : X → X → Bool) (xs : List X) → IsPermutation xs (ascending first xs)
ascending_permutes first [] = IsPermutation-refl []
ascending_permutes first (x ∷ xs) =
    IsPermutation-trans _ _ _ (IsPermutation-append_right (x ∷ []) xs (ascending first xs) (ascending_permutes first xs)) (placed_permutes first x (ascending first xs))

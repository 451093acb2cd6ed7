-- Membership in lists, by places and from the front.
use Rattle.std.proofs.Common.{◌≡◌, sym, ℕ, zero, suc, ◌<◌, inl, inr, List, [], ◌∷◌, length, arith}
use Rattle.std.specs.Prelude.{slice_index_or, Contains}
use Rattle.predicate_core.proofs.OnceLists.{In}

-- a place below the length has its element
index_in : {X : Type 0} (xs : List X) (k : ℕ) (x : X) → k < length xs → slice_index_or xs k x ≡ x → In x xs
index_in [] k x below is = omega arith
index_in (y ∷ ys) zero x below is = inl (sym is)
index_in (y ∷ ys) (suc k) x below is = inr (index_in ys k x (omega arith) is)

in_index : {X : Type 0} (xs : List X) (x : X) → In x xs → Contains xs x
in_index [] x i = absurd i
in_index (y ∷ ys) x (inl e) = (zero, omega arith, sym e)
in_index (y ∷ ys) x (inr i) = let h = in_index ys x i in let below = h.1 in (suc h.0, omega arith, h.2)

-- to be an element by a place, and from the front
pub contains_in : {X : Type 0} (xs : List X) (x : X) → Contains xs x → In x xs
contains_in xs x h = index_in xs h.0 x h.1 h.2

pub in_contains : {X : Type 0} (xs : List X) (x : X) → In x xs → Contains xs x
in_contains xs x i = in_index xs x i

-- Laws of lists in which each element stands once.
use Rattle.std.proofs.Common.{◌≡◌, refl, sym, ap, subst, ℕ, zero, suc, Bool, true, Decides, ◌⊎◌, inl, inr, List, [], ◌∷◌, ◌++◌, map, Some, arith}
use Rattle.std.specs.List.{slice_get, position_or_len}
use Rattle.std.proofs.lemmas.Bool.{cases_Bool}
use Rattle.std.proofs.lemmas.Option.{same_Some, none-some}
use Rattle.predicate_core.specs.Atoms.{pairs, triples}
use Rattle.predicate_core.specs.Laws.{EachOnce}

-- an element stands in a list
abbrev pub In : {X : Type 0} → X → List X → Type 0
In x [] = ⊥
In x (y ∷ ys) = (x ≡ y) ⊎ In x ys

-- no element of a list stands in it again
abbrev pub Once : {X : Type 0} → List X → Type 0
Once [] = Unit {0}
Once (x ∷ xs) = (In x xs → ⊥) × Once xs

pub in_same : {X : Type 0} (x y : X) (xs : List X) → x ≡ y → In y xs → In x xs
in_same {X} x y xs e i = let P : X → Type 0 = λ z. In z xs in subst P (sym e) i

pub in_append : {X : Type 0} (x : X) (xs ys : List X) → In x (xs ++ ys) → In x xs ⊎ In x ys
in_append x [] ys i = inr i
in_append x (z ∷ xs) ys (inl e) = inl (inl e)
in_append x (z ∷ xs) ys (inr i) = elim (in_append x xs ys i) [ inl a ↦ inl (inr a) | inr b ↦ inr b ]

pub in_map : {X Y : Type 0} (f : X → Y) (y : Y) (xs : List X) → In y (map f xs) → (x : X) × In x xs × (y ≡ f x)
in_map f y [] i = absurd i
in_map f y (x ∷ xs) (inl e) = (x, inl refl, e)
in_map f y (x ∷ xs) (inr i) = let h = in_map f y xs i in (h.0, inr h.1, h.2)

pub once_append : {X : Type 0} (xs ys : List X) → Once xs → Once ys → ((x : X) → In x xs → In x ys → ⊥) → Once (xs ++ ys)
once_append [] ys front back apart = back
once_append (x ∷ xs) ys front back apart = (
  λ i. elim (in_append x xs ys i) [ inl a ↦ front.0 a | inr b ↦ apart x (inl refl) b ],
  once_append xs ys front.1 back (λ z a b. apart z (inr a) b),
)

pub once_map : {X Y : Type 0} (f : X → Y) → ((a b : X) → f a ≡ f b → a ≡ b) → (xs : List X) → Once xs → Once (map f xs)
once_map f apart [] once = tt
once_map f apart (x ∷ xs) once =
    (λ i. let h = in_map f (f x) xs i in once.0 (in_same x h.0 xs (apart x h.0 h.2) h.1), once_map f apart xs once.1)

-- an element that is in a list has a place there, and what has a place is in it
pub in_at : {X : Type 0} (xs : List X) (i : ℕ) (x : X) → slice_get xs i ≡ Some x → In x xs
in_at [] i x e = absurd (none-some x e)
in_at (y ∷ ys) zero x e = inl (sym (same_Some y x e))
in_at (y ∷ ys) (suc i) x e = inr (in_at ys i x e)

pub at_in : {X : Type 0} (x : X) (xs : List X) → In x xs → (i : ℕ) × (slice_get xs i ≡ Some x)
at_in x [] i = absurd i
at_in x (y ∷ ys) (inl e) = (zero, ap Some (sym e))
at_in x (y ∷ ys) (inr i) = let h = at_in x ys i in (suc h.0, h.1)

-- to stand once, by places
pub each_once : {X : Type 0} (xs : List X) → Once xs → EachOnce xs
each_once [] once i j x a b = absurd (none-some x a)
each_once (y ∷ ys) once zero zero x a b = refl
each_once (y ∷ ys) once zero (suc j) x a b = absurd (once.0 (in_same y x ys (same_Some y x a) (in_at ys j x b)))
each_once (y ∷ ys) once (suc i) zero x a b = absurd (once.0 (in_same y x ys (same_Some y x b) (in_at ys i x a)))
each_once (y ∷ ys) once (suc i) (suc j) x a b = ap suc (each_once ys once.1 i j x a b)

suc_apart : (n : ℕ) → zero ≡ suc n → ⊥
suc_apart n e = omega arith

suc_same : (m n : ℕ) → suc m ≡ suc n → m ≡ n
suc_same m n e = omega arith

pub once_by_places : {X : Type 0} (xs : List X) → EachOnce xs → Once xs
once_by_places [] each = tt
once_by_places (x ∷ xs) each = (
  λ i. let h = at_in x xs i in suc_apart h.0 (each zero (suc h.0) x refl h.1),
  once_by_places xs (λ i j y a b. suc_same i j (each (suc i) (suc j) y a b)),
)

-- the first place of an element that stands once is its place
pub position_once : {X : Type 0} (same : X → X → Bool) → ((a b : X) → Decides (same a b) (a ≡ b)) → (xs : List X) → Once xs → (i : ℕ) (x : X) → slice_get xs i ≡ Some x → position_or_len (same x) xs ≡ i
position_once same decides [] once i x at = absurd (none-some x at)
position_once same decides (y ∷ ys) once zero x at = let e : same x y ≡ true = (decides x y).1 (sym (same_Some y x at)) in rw e refl
position_once same decides (y ∷ ys) once (suc i) x at =
    elim (cases_Bool (same x y)) [
      | inl e ↦ absurd (once.0 (in_same y x ys (sym ((decides x y).0 e)) (in_at ys i x at)))
      | inr e ↦ rw (e, position_once same decides ys once.1 i x at) (omega arith)
    ]

-- pairs and triples of elements that stand once stand once

pub in_pairs : {X : Type 0} (p : X × X) (xs : List X) → In p (pairs xs) → In p.0 xs × In p.1 xs
in_pairs p [] i = absurd i
in_pairs {X} p (x ∷ xs) i =
    let with_x : X → X × X = λ y. (x, y) in
    elim (in_append p (map with_x xs) (pairs xs) i) [
      | inl a ↦ let h = in_map with_x p xs a in (inl (ap (λ q. q.0) h.2), inr (in_same p.1 h.0 xs (ap (λ q. q.1) h.2) h.1))
      | inr b ↦ let h = in_pairs p xs b in (inr h.0, inr h.1)
    ]

pub once_pairs : {X : Type 0} (xs : List X) → Once xs → Once (pairs xs)
once_pairs [] once = tt
once_pairs {X} (x ∷ xs) once =
    let with_x : X → X × X = λ y. (x, y) in
    once_append (map with_x xs) (pairs xs) (once_map with_x (λ a b e. ap (λ q. q.1) e) xs once.1) (once_pairs xs once.1)
    (λ p a b. let h = in_map with_x p xs a in once.0 (in_same x p.0 xs (sym (ap (λ q. q.0) h.2)) (in_pairs p xs b).0))

pub in_triples : {X : Type 0} (t : X × X × X) (xs : List X) → In t (triples xs) → In t.0 xs
in_triples t [] i = absurd i
in_triples {X} t (x ∷ xs) i =
    let with_x : X × X → X × X × X = λ p. (x, p.0, p.1) in
    elim (in_append t (map with_x (pairs xs)) (triples xs) i) [
      | inl a ↦ let h = in_map with_x t (pairs xs) a in inl (ap (λ q. q.0) h.2)
      | inr b ↦ inr (in_triples t xs b)
    ]

pair_same : {X : Type 0} (x : X) (p q : X × X) → ◌≡◌ {A = X × X × X} (x, p.0, p.1) (x, q.0, q.1) → p ≡ q
pair_same {X} x p q e = let rest : X × X × X → X × X = λ t. (t.1, t.2) in ap rest e

pub once_triples : {X : Type 0} (xs : List X) → Once xs → Once (triples xs)
once_triples [] once = tt
once_triples {X} (x ∷ xs) once =
    let with_x : X × X → X × X × X = λ p. (x, p.0, p.1) in
    once_append (map with_x (pairs xs)) (triples xs) (once_map with_x (λ p q e. pair_same x p q e) (pairs xs) (once_pairs xs once.1)) (once_triples xs once.1)
    (λ t a b. let h = in_map with_x t (pairs xs) a in once.0 (in_same x t.0 xs (sym (ap (λ q. q.0) h.2)) (in_triples t xs b)))

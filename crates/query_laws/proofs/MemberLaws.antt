-- Membership in lists that are joined, mapped, filtered, or ranges of numbers.
use Rattle.std.proofs.Common.{◌≡◌, refl, sym, ap, ◌∙◌, ℕ, zero, suc, ◌+◌, ◌<◌, ◌≤◌, Bool, true, false, cond, ◌⊎◌, inl, inr, List, [], ◌∷◌, ◌++◌, map, arith}
use Rattle.std.specs.Prelude.{filter}
use Rattle.std.specs.List.{flat_map, range_with_len}
use Rattle.std.proofs.lemmas.Bool.{cases_order}
use Rattle.predicate_core.specs.Atoms.{pairs}
use Rattle.predicate_core.proofs.OnceLists.{In, in_same, in_append, in_map}

-- what is in a list of one is its element
pub in_one : {X : Type 0} (x y : X) → In x (y ∷ []) → x ≡ y
in_one x y (inl e) = e
in_one x y (inr i) = absurd i

-- what is in a list is in an equal one
pub in_equal : {X : Type 0} (x : X) (xs ys : List X) → xs ≡ ys → In x xs → In x ys
in_equal x xs ys e i = rw e at i

-- what is in one of two lists is in both joined
pub in_front : {X : Type 0} (x : X) (xs ys : List X) → In x xs → In x (xs ++ ys)
in_front x [] ys i = absurd i
in_front x (z ∷ xs) ys (inl e) = inl e
in_front x (z ∷ xs) ys (inr i) = inr (in_front x xs ys i)

pub in_back : {X : Type 0} (x : X) (xs ys : List X) → In x ys → In x (xs ++ ys)
in_back x [] ys i = i
in_back x (z ∷ xs) ys i = inr (in_back x xs ys i)

-- what a function gives of an element is an element of the mapped list
pub map_in : {X Y : Type 0} (f : X → Y) (x : X) (xs : List X) → In x xs → In (f x) (map f xs)
map_in f x [] i = absurd i
map_in f x (z ∷ xs) (inl e) = inl (ap f e)
map_in f x (z ∷ xs) (inr i) = inr (map_in f x xs i)

-- the elements of a filtered list are those that pass the test
filter_step : {X : Type 0} (p : X → Bool) (x z : X) (xs : List X) (b : Bool) → p z ≡ b
    → (In x (filter p xs) → In x xs × (p x ≡ true)) → In x (cond b (z ∷ filter p xs) (filter p xs)) → In x (z ∷ xs) × (p x ≡ true)
filter_step p x z xs true is rest (inl e) = (inl e, ap p e ∙ is)
filter_step p x z xs true is rest (inr i) = let h = rest i in (inr h.0, h.1)
filter_step p x z xs false is rest i = let h = rest i in (inr h.0, h.1)

pub in_filter : {X : Type 0} (p : X → Bool) (x : X) (xs : List X) → In x (filter p xs) → In x xs × (p x ≡ true)
in_filter p x [] i = absurd i
in_filter p x (z ∷ xs) i = filter_step p x z xs (p z) refl (in_filter p x xs) i

later_filter : {X : Type 0} (x z : X) (kept : List X) (b : Bool) → In x kept → In x (cond b (z ∷ kept) kept)
later_filter x z kept true i = inr i
later_filter x z kept false i = i

pub filter_in : {X : Type 0} (p : X → Bool) (x : X) (xs : List X) → p x ≡ true → In x xs → In x (filter p xs)
filter_in p x [] passes i = absurd i
filter_in p x (z ∷ xs) passes (inl e) = let passed : p z ≡ true = ap p (sym e) ∙ passes in rw passed (inl e)
filter_in p x (z ∷ xs) passes (inr i) = later_filter x z (filter p xs) (p z) (filter_in p x xs passes i)

-- the elements that pass a test, each mapped
pub in_kept : {X Y : Type 0} (f : X → Y) (p : X → Bool) (y : Y) (xs : List X) → In y (map f (filter p xs)) → (x : X) × In x xs × (p x ≡ true) × (y ≡ f x)
in_kept f p y xs i = let h = in_map f y (filter p xs) i in let k = in_filter p h.0 xs h.1 in (h.0, k.0, k.1, h.2)

pub kept_in : {X Y : Type 0} (f : X → Y) (p : X → Bool) (x : X) (xs : List X) → p x ≡ true → In x xs → In (f x) (map f (filter p xs))
kept_in f p x xs passes i = map_in f x (filter p xs) (filter_in p x xs passes i)

-- the elements of what a function gives of each element, joined
pub in_flat_map : {X Y : Type 0} (f : X → List Y) (y : Y) (xs : List X) → In y (flat_map f xs) → (x : X) × In x xs × In y (f x)
in_flat_map f y [] i = absurd i
in_flat_map f y (x ∷ xs) i =
    elim (in_append y (f x) (flat_map f xs) i) [
      | inl a ↦ (x, inl refl, a)
      | inr b ↦ let h = in_flat_map f y xs b in (h.0, inr h.1, h.2)
    ]

flat_map_here : {X Y : Type 0} (f : X → List Y) (y : Y) (x z : X) → x ≡ z → In y (f x) → In y (f z)
flat_map_here f y x z e i = rw e at i

pub flat_map_in : {X Y : Type 0} (f : X → List Y) (y : Y) (x : X) (xs : List X) → In x xs → In y (f x) → In y (flat_map f xs)
flat_map_in f y x [] i of = absurd i
flat_map_in f y x (z ∷ xs) (inl e) of = in_front y (f z) (flat_map f xs) (flat_map_here f y x z e of)
flat_map_in f y x (z ∷ xs) (inr i) of = in_back y (f z) (flat_map f xs) (flat_map_in f y x xs i of)

-- the numbers of a range
pub in_range : (a n i : ℕ) → In i (range_with_len a n) → (a ≤ i) × (i < a + n)
in_range a zero i here = absurd here
in_range a (suc n) i (inl e) = (omega arith, omega arith)
in_range a (suc n) i (inr later) = let h = in_range (a + 1) n i later in (omega (arith, h.0), omega (arith, h.1))

pub range_in : (a n i : ℕ) → a ≤ i → i < a + n → In i (range_with_len a n)
range_in a zero i low high = absurd (omega arith)
range_in a (suc n) i low high =
    elim (cases_order i a) [
      | inl e ↦ inl e
      | inr apart ↦ inr (range_in (a + 1) n i (omega arith) (omega arith))
    ]

-- the pairs of a range are its ascending ones
pub in_range_pairs : (a n : ℕ) (p : ℕ × ℕ) → In p (pairs (range_with_len a n)) → (a ≤ p.0) × (p.0 < p.1) × (p.1 < a + n)
in_range_pairs a zero p here = absurd here
in_range_pairs a (suc n) p here =
    let with_first : ℕ → ℕ × ℕ = λ j. (a, j) in
    let rest = range_with_len (a + 1) n in
    elim (in_append p (map with_first rest) (pairs rest) here) [
      | inl first ↦ let h = in_map with_first p rest first in let within = in_range (a + 1) n h.0 h.1 in rw h.2 (omega arith, omega (arith, within.0), omega (arith, within.1))
      | inr later ↦ let h = in_range_pairs (a + 1) n p later in (omega (arith, h.0), h.1, omega (arith, h.2))
    ]

pub range_pairs_in : (a n i j : ℕ) → a ≤ i → i < j → j < a + n → In (i, j) (pairs (range_with_len a n))
range_pairs_in a zero i j low ascends high = absurd (omega arith)
range_pairs_in a (suc n) i j low ascends high =
    let with_first : ℕ → ℕ × ℕ = λ k. (a, k) in
    let rest = range_with_len (a + 1) n in
    elim (cases_order i a) [
      | inl e ↦ in_front (i, j) (map with_first rest) (pairs rest) (in_same (i, j) (a, j) (map with_first rest) (ap (λ k. (k, j)) e) (map_in with_first j rest (range_in (a + 1) n j (omega arith) (omega arith))))
      | inr apart ↦ in_back (i, j) (map with_first rest) (pairs rest) (range_pairs_in (a + 1) n i j (omega arith) ascends (omega arith))
    ]

-- to be in one of six lists
abbrev pub InSix : {X : Type 0} → X → List X → List X → List X → List X → List X → List X → Type 0
InSix x a b c d e f = In x a ⊎ (In x b ⊎ (In x c ⊎ (In x d ⊎ (In x e ⊎ In x f))))

-- what is in six lists joined is in one of them
module _ {X : Type 0} (x : X) where
  in_more : (xs ys : List X) {P : Type 0} → (In x ys → P) → In x (xs ++ ys) → In x xs ⊎ P
  in_more xs ys more i = elim (in_append x xs ys i) [ inl here ↦ inl here | inr later ↦ inr (more later) ]

  pub in_six : (a b c d e f : List X) → In x (a ++ (b ++ (c ++ (d ++ (e ++ f))))) → InSix x a b c d e f
  in_six a b c d e f = in_more a _ (in_more b _ (in_more c _ (in_more d _ (in_append x e f))))

  more_in : (xs ys : List X) {P : Type 0} → (P → In x ys) → In x xs ⊎ P → In x (xs ++ ys)
  more_in xs ys more (inl here) = in_front x xs ys here
  more_in xs ys more (inr later) = in_back x xs ys (more later)

  pub six_in : (a b c d e f : List X) → InSix x a b c d e f → In x (a ++ (b ++ (c ++ (d ++ (e ++ f)))))
  six_in a b c d e f = more_in a _ (more_in b _ (more_in c _ (more_in d _ (more_in e f (λ i. i)))))

-- Laws of lists in which each element stands once, and that are kept or joined of others.
use Rattle.std.proofs.Common.{◌≡◌, refl, sym, ap, ◌∙◌, subst, ℕ, zero, suc, ◌+◌, ◌≤◌, Bool, true, false, inl, inr, List, [], ◌∷◌, ◌++◌, map, arith}
use Rattle.std.specs.Prelude.{filter as list_filter, flat_map}
use Rattle.std.specs.List.{range_with_len}
use Rattle.std.proofs.lemmas.Bool.{cases_Bool}
use Rattle.std.proofs.lemmas.List.{map-append}
use Rattle.predicate_core.proofs.OnceLists.{In, Once, in_same, in_append, in_map, once_append, once_map}
use Rattle.query_laws.proofs.MemberLaws.{in_filter, map_in, in_kept, in_flat_map, in_range}

-- the element of a list of one stands once
pub once_one : {X : Type 0} (x : X) → Once (x ∷ [])
once_one x = (λ i. absurd i, tt)

-- what stands once stands once among what is kept
once_filter_next : {X : Type 0} (test : X → Bool) (x : X) (xs : List X) (b : Bool) → test x ≡ b → (In x xs → ⊥) → Once (list_filter test xs) → Once (list_filter test (x ∷ xs))
once_filter_next test x xs true is new once = rw is (λ i. new (in_filter test x xs i).0, once)
once_filter_next test x xs false is new once = rw is once

pub once_filter : {X : Type 0} (test : X → Bool) (xs : List X) → Once xs → Once (list_filter test xs)
once_filter test [] once = tt
once_filter test (x ∷ xs) once = once_filter_next test x xs (test x) refl once.0 (once_filter test xs once.1)

-- the same of what a function gives
pub once_map_filter : {X Y : Type 0} (f : X → Y) (test : X → Bool) (xs : List X) → Once (map f xs) → Once (map f (list_filter test xs))
once_map_filter f test [] once = tt
once_map_filter f test (x ∷ xs) once =
    elim (cases_Bool (test x)) [
      | inl is ↦ rw is (
        λ i. let h = in_kept f test (f x) xs i in once.0 (in_same (f x) (f h.0) (map f xs) h.3 (map_in f h.0 xs h.1)),
        once_map_filter f test xs once.1,
      )
      | inr is ↦ rw is (once_map_filter f test xs once.1)
    ]

-- where the elements' lists are apart, and in each of them each stands once, each stands once in what is joined
pub once_flat_map_in : {X Y : Type 0} (f : X → List Y) (xs : List X) → ((x : X) → In x xs → Once (f x)) → ((x z : X) (y : Y) → In x xs → In z xs → In y (f x) → In y (f z) → x ≡ z)
    → Once xs → Once (flat_map f xs)
once_flat_map_in f [] each apart once = tt
once_flat_map_in f (x ∷ xs) each apart once =
    once_append (f x) (flat_map f xs) (each x (inl refl)) (once_flat_map_in f xs (λ z i. each z (inr i)) (λ a b y i j. apart a b y (inr i) (inr j)) once.1)
    (λ y here later. let h = in_flat_map f y xs later in once.0 (in_same x h.0 xs (apart x h.0 y (inl refl) (inr h.1) here h.2) h.1))

pub once_flat_map : {X Y : Type 0} (f : X → List Y) → ((x : X) → Once (f x)) → ((x z : X) (y : Y) → In y (f x) → In y (f z) → x ≡ z) → (xs : List X) → Once xs → Once (flat_map f xs)
once_flat_map f each apart xs once = once_flat_map_in f xs (λ x i. each x) (λ x z y i j. apart x z y) once

map_joined : {X Y Z : Type 0} (f : Y → Z) (g : X → List Y) (xs : List X) → map f (flat_map g xs) ≡ flat_map (λ x. map f (g x)) xs
map_joined f g [] = refl
map_joined f g (x ∷ xs) = map-append f (g x) (flat_map g xs) ∙ ap (λ t. map f (g x) ++ t) (map_joined f g xs)

-- what a function gives of the elements of joined lists is each given once, where it tells which list an element is of
pub once_joined : {X Y Z : Type 0} (f : Y → Z) (g : X → List Y) (xs : List X) → Once xs → ((x : X) → In x xs → Once (map f (g x)))
    → ((x y : X) → In x xs → In y xs → (a b : Y) → In a (g x) → In b (g y) → f a ≡ f b → x ≡ y) → Once (map f (flat_map g xs))
once_joined f g xs once each tells =
    rw (map_joined f g xs) (once_flat_map_in (λ x. map f (g x)) xs each
    (λ x y z i j here there. let a = in_map f z (g x) here in let b = in_map f z (g y) there in tells x y i j a.0 b.0 a.1 b.1 (sym a.2 ∙ b.2)) once)

-- the numbers of a range stand once
pub once_range : (at n : ℕ) → Once (range_with_len at n)
once_range at zero = tt
once_range at (suc n) = (λ i. let h = in_range (at + 1) n at i in omega (arith, h.0), once_range (at + 1) n)

-- what holds of each element of a list
abbrev pub Each : {X : Type 0} → (X → Type 0) → List X → Type 0
Each {X} P xs = (x : X) → In x xs → P x

pub each_append : {X : Type 0} (P : X → Type 0) (xs ys : List X) → Each P xs → Each P ys → Each P (xs ++ ys)
each_append P xs ys front back x i = elim (in_append x xs ys i) [ inl a ↦ front x a | inr b ↦ back x b ]

pub each_map : {X Y : Type 0} (P : Y → Type 0) (f : X → Y) (xs : List X) → Each (λ x. P (f x)) xs → Each P (map f xs)
each_map P f xs each y i = let h = in_map f y xs i in subst P (sym h.2) (each h.0 h.1)

pub each_kept : {X Y : Type 0} (P : Y → Type 0) (f : X → Y) (test : X → Bool) (xs : List X) → Each (λ x. P (f x)) xs → Each P (map f (list_filter test xs))
each_kept P f test xs each = each_map P f (list_filter test xs) (λ x i. each x (in_filter test x xs i).0)

-- each element stands once, and all have this number
abbrev pub IsOf : {X : Type 0} → (X → ℕ) → ℕ → List X → Type 0
IsOf {X} number n xs = Once xs × ((x : X) → In x xs → number x ≡ n)

-- each element stands once, and none has a lower number
abbrev pub IsFrom : {X : Type 0} → (X → ℕ) → ℕ → List X → Type 0
IsFrom {X} number n xs = Once xs × ((x : X) → In x xs → n ≤ number x)

pub from_of : {X : Type 0} (number : X → ℕ) (n : ℕ) (xs : List X) → IsOf number n xs → IsFrom number n xs
from_of number n xs of = (of.0, λ x i. omega (arith, of.1 x i))

-- elements of one number before elements of higher ones
pub from_both : {X : Type 0} (number : X → ℕ) (n : ℕ) (xs ys : List X) → IsOf number n xs → IsFrom number (n + 1) ys → IsFrom number n (xs ++ ys)
from_both number n xs ys front back = (
  once_append xs ys front.0 back.0 (λ x a b. omega (arith, front.1 x a, back.1 x b)),
  λ x i. elim (in_append x xs ys i) [ inl a ↦ omega (arith, front.1 x a) | inr b ↦ omega (arith, back.1 x b) ],
)

-- a list mapped to things of one number
pub of_map : {X Y : Type 0} (number : Y → ℕ) (n : ℕ) (f : X → Y) → ((a b : X) → f a ≡ f b → a ≡ b) → ((x : X) → number (f x) ≡ n) → (xs : List X) → Once xs → IsOf number n (map f xs)
of_map number n f apart is xs once = (once_map f apart xs once, λ y i. let h = in_map f y xs i in ap number h.2 ∙ is h.0)

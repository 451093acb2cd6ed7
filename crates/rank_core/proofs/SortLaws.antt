-- Laws of sorted lists: a stable sort gives the list in ascending order.
use Rattle.std.proofs.Common.{◌≡◌, ℕ, suc, ◌<◌, Bool, true, false, not, cond, List, [], ◌∷◌, length, get_or, map, refl, sym, ap, ◌∙◌, subst, arith, inl, inr, add-one}
use Rattle.std.specs.Prelude.{filter}
use Rattle.std.specs.Cmp.{IsStrictWeakOrder}
use Rattle.std.specs.List.Sorted.{IsSortedBy, IsStableBy, ties}
use Rattle.std.proofs.lemmas.Bool.{cases_Bool, false≢true, and_parts}
use Rattle.std.proofs.lemmas.List.Sorted.{sorted_far}
use Rattle.query_core.specs.Answers.{placed, ascending}

-- a fact of each element
abbrev pub Each : {X : Type 0} → (X → Type 0) → List X → Type 0
Each P [] = Unit {0}
Each P (x ∷ xs) = P x × Each P xs

each_index : {X : Type 0} (P : X → Type 0) (xs : List X) → ((k : ℕ) (d : X) → k < length xs → P (get_or xs k d)) → Each P xs
each_index P [] h = tt
each_index P (x ∷ xs) h = (h 0 x (omega arith), each_index P xs (λ k d below. h (suc k) d (omega arith)))

pub each_map : {X : Type 0} (P Q : X → Type 0) (xs : List X) → ((w : X) → P w → Q w) → Each P xs → Each Q xs
each_map P Q [] h each = tt
each_map P Q (x ∷ xs) h each = (h x each.0, each_map P Q xs h each.1)

-- what a filter gives first is one of the elements
filter_head : {X : Type 0} (P : X → Type 0) (p : X → Bool) (zs : List X) → Each P zs → (y : X) (rest : List X) → filter p zs ≡ y ∷ rest → P y
filter_head P p [] each y rest e = cc
filter_head P p (z ∷ zs) each y rest e =
    elim (cases_Bool (p z)) [
      | inl holds ↦ let same : z ∷ filter p zs ≡ y ∷ rest = rw holds at e in let head : z ≡ y = cc in subst P head each.0
      | inr fails ↦ filter_head P p zs each.1 y rest (rw fails at e)
    ]

-- the same after the first element, where the first elements are one
filter_tail : {X : Type 0} (p : X → Bool) (x y : X) (xs ys : List X) → x ≡ y → filter p (x ∷ xs) ≡ filter p (y ∷ ys) → filter p xs ≡ filter p ys
filter_tail p x y xs ys heads e =
    elim (cases_Bool (p y)) [
      | inl holds ↦ let same : y ∷ filter p xs ≡ y ∷ filter p ys = rw (heads, holds) at e in cc
      | inr fails ↦ rw (heads, fails) at e
    ]

pub filter_cons : {X : Type 0} (p : X → Bool) (x : X) (xs ys : List X) → filter p xs ≡ filter p ys → filter p (x ∷ xs) ≡ filter p (x ∷ ys)
filter_cons p x xs ys e = ap (λ t. cond (p x) (x ∷ t) t) e

-- no element of a list comes before x
abbrev pub NoneBefore : {X : Type 0} → (X → X → Bool) → X → List X → Type 0
NoneBefore lt x xs = Each (λ y. lt y x ≡ false) xs

-- no element comes before an earlier one
abbrev pub Rises : {X : Type 0} → (X → X → Bool) → List X → Type 0
Rises lt [] = Unit {0}
Rises lt (x ∷ xs) = NoneBefore lt x xs × Rises lt xs

rises_from_sorted : {X : Type 0} (lt : X → X → Bool) (o : IsStrictWeakOrder lt) (xs : List X) → IsSortedBy lt xs → Rises lt xs
rises_from_sorted lt o [] up = tt
rises_from_sorted lt o (x ∷ xs) up =
    (each_index (λ y. lt y x ≡ false) xs (λ k d below. sorted_far lt o (x ∷ xs) up 0 (suc k) d (omega arith) (omega arith)), rises_from_sorted lt o xs (λ k d low below. rw add-one (rw add-one at (up (suc k) d (omega arith) (omega arith)))))

lt_self : {X : Type 0} (lt : X → X → Bool) (o : IsStrictWeakOrder lt) (x : X) → lt x x ≡ false
lt_self lt o x =
    elim (cases_Bool (lt x x)) [
      | inl holds ↦ absurd (false≢true (sym (o.one_way x x holds) ∙ holds))
      | inr fails ↦ fails
    ]

ties_from : {X : Type 0} (lt : X → X → Bool) (x y : X) → lt x y ≡ false → lt y x ≡ false → ties lt x y ≡ true
ties_from lt x y a b = rw (a, b) refl

not_true : (b : Bool) → not b ≡ true → b ≡ false
not_true true e = cc
not_true false e = refl

ties_parts : {X : Type 0} (lt : X → X → Bool) (x y : X) → ties lt x y ≡ true → (lt x y ≡ false) × (lt y x ≡ false)
ties_parts lt x y e = let (a, b) = and_parts (not (lt x y)) (not (lt y x)) e in (not_true (lt x y) a, not_true (lt y x) b)

-- an element ties with itself, so the filter of its ties keeps it
kept_first : {X : Type 0} (lt : X → X → Bool) (o : IsStrictWeakOrder lt) (x : X) (xs : List X) → filter (ties lt x) (x ∷ xs) ≡ x ∷ filter (ties lt x) xs
kept_first lt o x xs = rw (ties_from lt x x (lt_self lt o x) (lt_self lt o x)) refl

-- the first of what ties with y doesn't come before the first of all
head_after : {X : Type 0} (lt : X → X → Bool) (o : IsStrictWeakOrder lt) (x : X) (xs : List X) → NoneBefore lt x xs → (y : X) (rest : List X) → filter (ties lt y) (x ∷ xs) ≡ y ∷ rest → lt y x ≡ false
head_after lt o x xs none y rest e = filter_head (λ w. lt w x ≡ false) (ties lt y) (x ∷ xs) (lt_self lt o x, none) y rest e

-- two rising lists of which each element has the same ties in the same order are one
pub rising_unique : {X : Type 0} (lt : X → X → Bool) (o : IsStrictWeakOrder lt) (xs ys : List X) → Rises lt xs → Rises lt ys → ((z : X) → filter (ties lt z) xs ≡ filter (ties lt z) ys) → xs ≡ ys
rising_unique lt o [] [] up vp same = refl
rising_unique lt o [] (y ∷ ys) up vp same = let e = same y ∙ kept_first lt o y ys in cc
rising_unique lt o (x ∷ xs) [] up vp same = let e = sym (kept_first lt o x xs) ∙ same x in cc
rising_unique lt o (x ∷ xs) (y ∷ ys) up vp same =
    let y_after : lt y x ≡ false = head_after lt o x xs up.0 y (filter (ties lt y) ys) (same y ∙ kept_first lt o y ys) in
    let x_after : lt x y ≡ false = head_after lt o y ys vp.0 x (filter (ties lt x) xs) (sym (same x) ∙ kept_first lt o x xs) in
    let tie : ties lt x y ≡ true = ties_from lt x y x_after y_after in
    let both : x ∷ filter (ties lt x) xs ≡ y ∷ filter (ties lt x) ys = sym (kept_first lt o x xs) ∙ (rw tie at (same x)) in
    let heads : x ≡ y = cc in
    let tails : xs ≡ ys = rising_unique lt o xs ys up.1 vp.1 (λ z. filter_tail (ties lt z) x y xs ys heads (same z)) in
    cc

placed_each : {X : Type 0} (P : X → Type 0) (lt : X → X → Bool) (x : X) (ys : List X) → P x → Each P ys → Each P (placed lt x ys)
placed_each P lt x [] px ps = (px, tt)
placed_each P lt x (y ∷ ys) px ps =
    elim (cases_Bool (lt y x)) [
      | inl holds ↦ rw holds (ps.0, placed_each P lt x ys px ps.1)
      | inr fails ↦ rw fails (px, ps)
    ]

placed_rises : {X : Type 0} (lt : X → X → Bool) (o : IsStrictWeakOrder lt) (x : X) (ys : List X) → Rises lt ys → Rises lt (placed lt x ys)
placed_rises lt o x [] up = (tt, tt)
placed_rises lt o x (y ∷ ys) up =
    elim (cases_Bool (lt y x)) [
      | inl holds ↦ rw holds (placed_each (λ w. lt w y ≡ false) lt x ys (o.one_way y x holds) up.0, placed_rises lt o x ys up.1)
      | inr fails ↦ rw fails ((fails, each_map (λ w. lt w y ≡ false) (λ w. lt w x ≡ false) ys (λ w first. o.chain w y x first fails) up.0), up)
    ]

-- what ties with an earlier element doesn't tie with a later one
pub ties_apart : {X : Type 0} (lt : X → X → Bool) (o : IsStrictWeakOrder lt) (x y z : X) → lt y x ≡ true → ties lt z y ≡ true → ties lt z x ≡ false
ties_apart lt o x y z first tie =
    elim (cases_Bool (ties lt z x)) [
      | inl holds ↦ absurd (false≢true (sym (o.chain y z x (ties_parts lt z y tie).1 (ties_parts lt z x holds).0) ∙ first))
      | inr fails ↦ fails
    ]

placed_stable : {X : Type 0} (lt : X → X → Bool) (o : IsStrictWeakOrder lt) (x : X) (ys : List X) (z : X) → filter (ties lt z) (placed lt x ys) ≡ filter (ties lt z) (x ∷ ys)
placed_stable lt o x [] z = refl
placed_stable lt o x (y ∷ ys) z =
    elim (cases_Bool (lt y x)) [
      | inl holds ↦ elim (cases_Bool (ties lt z y)) [
        | inl tie ↦ let apart = ties_apart lt o x y z holds tie in rw (holds, tie, apart) (ap (λ t. y ∷ t) (rw apart at (placed_stable lt o x ys z)))
        | inr other ↦ rw (holds, other) (placed_stable lt o x ys z)
      ]
      | inr fails ↦ rw fails refl
    ]

pub ascending_rises : {X : Type 0} (lt : X → X → Bool) (o : IsStrictWeakOrder lt) (xs : List X) → Rises lt (ascending lt xs)
ascending_rises lt o [] = tt
ascending_rises lt o (x ∷ xs) = placed_rises lt o x (ascending lt xs) (ascending_rises lt o xs)

pub ascending_stable : {X : Type 0} (lt : X → X → Bool) (o : IsStrictWeakOrder lt) (xs : List X) (z : X) → filter (ties lt z) (ascending lt xs) ≡ filter (ties lt z) xs
ascending_stable lt o [] z = refl
ascending_stable lt o (x ∷ xs) z = placed_stable lt o x (ascending lt xs) z ∙ filter_cons (ties lt z) x (ascending lt xs) xs (ascending_stable lt o xs z)

-- a stable sort gives the list in ascending order
pub sorted_is_ascending : {X : Type 0} (lt : X → X → Bool) (o : IsStrictWeakOrder lt) (xs ys : List X) → IsSortedBy lt ys → IsStableBy lt xs ys → ys ≡ ascending lt xs
sorted_is_ascending lt o xs ys up stable = rising_unique lt o ys (ascending lt xs) (rises_from_sorted lt o ys up) (ascending_rises lt o xs) (λ z. stable z ∙ sym (ascending_stable lt o xs z))

map_placed : {X Y : Type 0} (f : X → Y) (lt : Y → Y → Bool) (x : X) (ys : List X) → map f (placed (λ a b. lt (f a) (f b)) x ys) ≡ placed lt (f x) (map f ys)
map_placed f lt x [] = refl
map_placed f lt x (y ∷ ys) =
    elim (cases_Bool (lt (f y) (f x))) [
      | inl holds ↦ rw holds (ap (λ t. f y ∷ t) (map_placed f lt x ys))
      | inr fails ↦ rw fails refl
    ]

-- to sort by what a function gives, and then map, is to map and then sort
pub map_ascending : {X Y : Type 0} (f : X → Y) (lt : Y → Y → Bool) (xs : List X) → map f (ascending (λ a b. lt (f a) (f b)) xs) ≡ ascending lt (map f xs)
map_ascending f lt [] = refl
map_ascending f lt (x ∷ xs) = map_placed f lt x (ascending (λ a b. lt (f a) (f b)) xs) ∙ ap (placed lt (f x)) (map_ascending f lt xs)

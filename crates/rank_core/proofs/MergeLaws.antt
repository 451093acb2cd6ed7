-- Laws of a merge: two ascending lists merged are their elements in ascending order.
use Rattle.std.proofs.Common.{◌≡◌, ℕ, Bool, true, false, not, List, [], ◌∷◌, ◌++◌, map, take, drop, refl, sym, ap, ap₂, ◌∙◌, subst, inl, inr, append-nil}
use Rattle.std.specs.Prelude.{filter}
use Rattle.std.specs.List.{flat_map}
use Rattle.std.specs.Cmp.{IsStrictWeakOrder}
use Rattle.std.specs.List.Sorted.{ties}
use Rattle.std.proofs.lemmas.Bool.{cases_Bool, false≢true}
use Rattle.std.proofs.lemmas.List.{map-append, take-append-drop}
use Rattle.std.proofs.lemmas.List.Concat.{flat_map-append}
use Rattle.std.proofs.lemmas.List.Elements.{filter-append}
use Rattle.std.proofs.lemmas.List.Sorted.{ranks_by}
use Rattle.itertools.specs.List.{merge_at, merge_by}
use Rattle.query_core.specs.Answers.{RankedQuery, ascending, comes_before}
use Rattle.query_core.proofs.KeyLaws.{key_order_total}
use Rattle.rank_core.specs.View.{ascends}
use Rattle.rank_core.proofs.SortLaws.{Each, NoneBefore, Rises, each_map, filter_cons, rising_unique, ties_apart, ascending_rises, ascending_stable, map_ascending}

-- what each element of two lists has, each of their merge has
merge_each_at : {X : Type 0} (P : X → Type 0) (front : X → X → Bool) (x : X) (xs : List X) → P x → Each P xs → ((ys : List X) → Each P ys → Each P (merge_by front xs ys)) → (ys : List X) → Each P ys → Each P (merge_at front x xs (merge_by front xs) ys)
merge_each_at P front x xs px ps after [] qs = (px, ps)
merge_each_at P front x xs px ps after (y ∷ ys) qs =
    elim (cases_Bool (front x y)) [
      | inl holds ↦ rw holds (px, after (y ∷ ys) qs)
      | inr fails ↦ rw fails (qs.0, merge_each_at P front x xs px ps after ys qs.1)
    ]

merge_each : {X : Type 0} (P : X → Type 0) (front : X → X → Bool) (xs ys : List X) → Each P xs → Each P ys → Each P (merge_by front xs ys)
merge_each P front [] ys ps qs = qs
merge_each P front (x ∷ xs) ys ps qs = merge_each_at P front x xs ps.0 ps.1 (λ zs each. merge_each P front xs zs ps.1 each) ys qs

-- two elements of which a test keeps one at most may change places
filter_swap : {X : Type 0} (p : X → Bool) (y x : X) (zs : List X) → (p y ≡ true → p x ≡ false) → filter p (y ∷ x ∷ zs) ≡ filter p (x ∷ y ∷ zs)
filter_swap p y x zs apart =
    elim (cases_Bool (p y)) [
      | inl holds ↦ let other : p x ≡ false = apart holds in rw (holds, other) refl
      | inr fails ↦ rw fails refl
    ]

-- an element may go behind a list of which the test keeps none, where it keeps the element
filter_moved : {X : Type 0} (p : X → Bool) (y : X) (xs ys : List X) → (p y ≡ true → Each (λ w. p w ≡ false) xs) → filter p (y ∷ (xs ++ ys)) ≡ filter p (xs ++ y ∷ ys)
filter_moved p y [] ys none = refl
filter_moved p y (x ∷ xs) ys none = filter_swap p y x (xs ++ ys) (λ keeps. (none keeps).0) ∙ filter_cons p x (y ∷ (xs ++ ys)) (xs ++ y ∷ ys) (filter_moved p y xs ys (λ keeps. (none keeps).1))

-- the first list's head goes in front where the other head doesn't come before it
abbrev pub in_front : {X : Type 0} → (X → X → Bool) → X → X → Bool
in_front lt x y = not (lt y x)

module _ {X : Type 0} (lt : X → X → Bool) (o : IsStrictWeakOrder lt) where
  merge_rises_at : (x : X) (xs : List X) → NoneBefore lt x xs → Rises lt xs → ((ys : List X) → Rises lt ys → Rises lt (merge_by (in_front lt) xs ys)) → (ys : List X) → Rises lt ys → Rises lt (merge_at (in_front lt) x xs (merge_by (in_front lt) xs) ys)
  merge_rises_at x xs none up after [] vp = (none, up)
  merge_rises_at x xs none up after (y ∷ ys) vp =
      elim (cases_Bool (lt y x)) [
        | inl holds ↦
            let far : Each (λ w. lt w y ≡ false) xs = each_map (λ w. lt w x ≡ false) (λ w. lt w y ≡ false) xs (λ w low. o.chain w x y low (o.one_way y x holds)) none in
            rw holds (merge_each (λ w. lt w y ≡ false) (in_front lt) (x ∷ xs) ys (o.one_way y x holds, far) vp.0, merge_rises_at x xs none up after ys vp.1)
        | inr fails ↦
            let far : Each (λ w. lt w x ≡ false) ys = each_map (λ w. lt w y ≡ false) (λ w. lt w x ≡ false) ys (λ w low. o.chain w y x low fails) vp.0 in
            rw fails (merge_each (λ w. lt w x ≡ false) (in_front lt) xs (y ∷ ys) none (fails, far), after (y ∷ ys) vp)
      ]

  -- a merge of rising lists rises
  merge_rises : (xs ys : List X) → Rises lt xs → Rises lt ys → Rises lt (merge_by (in_front lt) xs ys)
  merge_rises [] ys up vp = vp
  merge_rises (x ∷ xs) ys up vp = merge_rises_at x xs up.0 up.1 (λ zs wp. merge_rises xs zs up.1 wp) ys vp

  -- what comes before x comes before each that doesn't come before x
  first_far : (y x w : X) → lt y x ≡ true → lt w x ≡ false → lt y w ≡ true
  first_far y x w first low =
      elim (cases_Bool (lt y w)) [
        | inl holds ↦ holds
        | inr fails ↦ absurd (false≢true (sym (o.chain y w x fails low) ∙ first))
      ]

  merge_stable_at : (x : X) (xs : List X) (z : X) → NoneBefore lt x xs → ((ys : List X) → filter (ties lt z) (merge_by (in_front lt) xs ys) ≡ filter (ties lt z) (xs ++ ys)) → (ys : List X) → filter (ties lt z) (merge_at (in_front lt) x xs (merge_by (in_front lt) xs) ys) ≡ filter (ties lt z) ((x ∷ xs) ++ ys)
  merge_stable_at x xs z none after [] = ap (filter (ties lt z)) (sym (append-nil (x ∷ xs)))
  merge_stable_at x xs z none after (y ∷ ys) =
      elim (cases_Bool (lt y x)) [
        | inl holds ↦
            let apart : ties lt z y ≡ true → Each (λ w. ties lt z w ≡ false) (x ∷ xs) = λ tie. (ties_apart lt o x y z holds tie, each_map (λ w. lt w x ≡ false) (λ w. ties lt z w ≡ false) xs (λ w low. ties_apart lt o w y z (first_far y x w holds low) tie) none) in
            let kept = filter_cons (ties lt z) y (merge_at (in_front lt) x xs (merge_by (in_front lt) xs) ys) ((x ∷ xs) ++ ys) (merge_stable_at x xs z none after ys) in
            rw holds (kept ∙ filter_moved (ties lt z) y (x ∷ xs) ys apart)
        | inr fails ↦ rw fails (filter_cons (ties lt z) x (merge_by (in_front lt) xs (y ∷ ys)) (xs ++ y ∷ ys) (after (y ∷ ys)))
      ]

  -- a merge keeps the order of those that tie
  merge_stable : (xs ys : List X) (z : X) → Rises lt xs → filter (ties lt z) (merge_by (in_front lt) xs ys) ≡ filter (ties lt z) (xs ++ ys)
  merge_stable [] ys z up = refl
  merge_stable (x ∷ xs) ys z up = merge_stable_at x xs z up.0 (λ zs. merge_stable xs zs z up.1) ys

  -- a merge of rising lists is what they have, in ascending order
  merge_ascends : (xs ys : List X) → Rises lt xs → Rises lt ys → merge_by (in_front lt) xs ys ≡ ascending lt (xs ++ ys)
  merge_ascends xs ys up vp = rising_unique lt o (merge_by (in_front lt) xs ys) (ascending lt (xs ++ ys)) (merge_rises xs ys up vp) (ascending_rises lt o (xs ++ ys)) (λ z. merge_stable xs ys z up ∙ sym (ascending_stable lt o (xs ++ ys) z))

  -- a list in ascending order is its own ascending order
  ascending_ascends : (xs ys : List X) → xs ≡ ascending lt ys → ascending lt xs ≡ xs
  ascending_ascends xs ys e =
      let twice : ascending lt (ascending lt ys) ≡ ascending lt ys = rising_unique lt o (ascending lt (ascending lt ys)) (ascending lt ys) (ascending_rises lt o (ascending lt ys)) (ascending_rises lt o ys) (λ z. ascending_stable lt o (ascending lt ys) z) in
      ap (ascending lt) e ∙ twice ∙ sym e

  -- to put two lists in order, and then what they have together, is to put that in order
  pub ascending_parts : (xs ys : List X) → ascending lt (ascending lt xs ++ ascending lt ys) ≡ ascending lt (xs ++ ys)
  ascending_parts xs ys =
      rising_unique lt o (ascending lt (ascending lt xs ++ ascending lt ys)) (ascending lt (xs ++ ys)) (ascending_rises lt o (ascending lt xs ++ ascending lt ys)) (ascending_rises lt o (xs ++ ys)) (λ z.
      ascending_stable lt o (ascending lt xs ++ ascending lt ys) z
      ∙ filter-append (ties lt z) (ascending lt xs) (ascending lt ys)
      ∙ ap₂ (λ us vs. us ++ vs) (ascending_stable lt o xs z) (ascending_stable lt o ys z)
      ∙ sym (filter-append (ties lt z) xs ys)
      ∙ sym (ascending_stable lt o (xs ++ ys) z))

each_of_map : {X Y : Type 0} (f : X → Y) (P : Y → Type 0) (xs : List X) → Each P (map f xs) → Each (λ w. P (f w)) xs
each_of_map f P [] each = tt
each_of_map f P (x ∷ xs) each = (each.0, each_of_map f P xs each.1)

rises_of_map : {X Y : Type 0} (f : X → Y) (lt : Y → Y → Bool) (xs : List X) → Rises lt (map f xs) → Rises (λ a b. lt (f a) (f b)) xs
rises_of_map f lt [] up = tt
rises_of_map f lt (x ∷ xs) up = (each_of_map f (λ w. lt w (f x) ≡ false) xs up.0, rises_of_map f lt xs up.1)

-- where what a function gives of two lists ascends, of their merge it gives all in ascending order
pub merged_is_ascending : {X Y : Type 0} (f : X → Y) (lt : Y → Y → Bool) → IsStrictWeakOrder lt → IsStrictWeakOrder (λ (a : X) (b : X). lt (f a) (f b)) → (xs ys : List X) → ascending lt (map f xs) ≡ map f xs → ascending lt (map f ys) ≡ map f ys → map f (merge_by (in_front (λ a b. lt (f a) (f b))) xs ys) ≡ ascending lt (map f xs ++ map f ys)
merged_is_ascending {X = X} f lt o of xs ys up vp =
    let rises : (zs : List X) → ascending lt (map f zs) ≡ map f zs → Rises (λ a b. lt (f a) (f b)) zs = λ zs wp. rises_of_map f lt zs (subst (Rises lt) wp (ascending_rises lt o (map f zs))) in
    ap (map f) (merge_ascends (λ a b. lt (f a) (f b)) of xs ys (rises xs up) (rises ys vp))
    ∙ map_ascending f lt (xs ++ ys)
    ∙ ap (ascending lt) (map-append f xs ys)

-- what the two parts of a list give is what the list gives
pub flat_map_parts : {X Y : Type 0} (f : X → List Y) (n : ℕ) (xs us vs : List X) → us ≡ take n xs → vs ≡ drop n xs → flat_map f us ++ flat_map f vs ≡ flat_map f xs
flat_map_parts f n xs us vs e h =
    ap₂ (λ ss ts. flat_map f ss ++ flat_map f ts) e h
    ∙ sym (flat_map-append f (take n xs) (drop n xs))
    ∙ ap (flat_map f) (take-append-drop n xs)

-- the order of ranked queries is one that sorting asks for
pub queries_order : IsStrictWeakOrder comes_before
queries_order = ranks_by key_order_total (λ (q : RankedQuery). q.key)

-- what is the ascending order of some list, as a sort or a merge gives it, ascends
pub ordered_ascends : (list given : List RankedQuery) → list ≡ ascending comes_before given → ascends list
ordered_ascends list given e = ascending_ascends comes_before queries_order list given e

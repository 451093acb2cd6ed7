-- Tests that agree on rows keep the same of them; the first predicate of those alike.
use Rattle.std.proofs.Common.{◌≡◌, refl, sym, ap, ap₂, ◌∙◌, ℕ, Bool, true, false, ◌&&◌, cond, inl, inr, List, [], ◌∷◌, ◌++◌, Option, Some, None}
use Rattle.std.specs.Prelude.{filter, find, unwrap_or, option_map, flat_map}
use Rattle.std.specs.List.{list_all}
use Rattle.std.proofs.lemmas.Bool.{cases_Bool, and_parts, and_from}
use Rattle.std.proofs.lemmas.List.Folds.{list_all-append}
use Rattle.value_core.specs.declared.value.Value.{Value}
use Rattle.predicate_core.specs.Truth.{keeps}
use Rattle.predicate_core.specs.declared.pred.Pred.{Pred}
use Rattle.predicate_core.specs.declared.pred.Pred.TheVariants.{Always}
use Rattle.predicate_core.proofs.OnceLists.{In, in_same}
use Rattle.table_core.specs.Rows.{Row}
use Rattle.query_core.specs.Joins.{pairs_with, crossed, or_padded, paired}
use Rattle.query_core.specs.Meaning.{of_both}
use Rattle.query_core.specs.Standard.{same_bool, alike, first_alike, keeps_all}
use Rattle.query_core.specs.declared.kinds.Pairing.{Pairing}
use Rattle.query_core.specs.declared.kinds.Pairing.TheVariants.{Join, Left}

-- truth values that are the same are equal
same_is : (x y : Bool) → same_bool x y ≡ true → x ≡ y
same_is true true e = refl
same_is true false e = sym e
same_is false true e = e
same_is false false e = refl

-- two tests agree on each element of a list
abbrev pub Agree : {X : Type 0} → (X → Bool) → (X → Bool) → List X → Type 0
Agree f g xs = list_all (λ x. same_bool (f x) (g x)) xs ≡ true

same_self : (x : Bool) → same_bool x x ≡ true
same_self true = refl
same_self false = refl

-- what two tests say of the first element, and of the others
agree_parts : {X : Type 0} (f g : X → Bool) (x : X) (xs : List X) → Agree f g (x ∷ xs) → (f x ≡ g x) × Agree f g xs
agree_parts f g x xs e = let h = and_parts (same_bool (f x) (g x)) (list_all (λ y. same_bool (f y) (g y)) xs) e in (same_is (f x) (g x) h.0, h.1)

-- what is made of a list by such tests is the same
pub filter_agree : {X : Type 0} (f g : X → Bool) (xs : List X) → Agree f g xs → filter f xs ≡ filter g xs
filter_agree f g [] e = refl
filter_agree f g (x ∷ xs) e = let h = agree_parts f g x xs e in ap₂ (λ b rest. cond b (x ∷ rest) rest) h.0 (filter_agree f g xs h.1)

pub all_agree : {X : Type 0} (f g : X → Bool) (xs : List X) → Agree f g xs → list_all f xs ≡ list_all g xs
all_agree f g [] e = refl
all_agree f g (x ∷ xs) e = let h = agree_parts f g x xs e in ap₂ (λ b rest. b && rest) h.0 (all_agree f g xs h.1)

-- tests that agree are alike to the same third
third_agree : {X : Type 0} (f g third : X → Bool) (xs : List X) → Agree f g xs
    → list_all (λ x. same_bool (f x) (third x)) xs ≡ list_all (λ x. same_bool (g x) (third x)) xs
third_agree f g third [] e = refl
third_agree f g third (x ∷ xs) e =
    let h = agree_parts f g x xs e in ap₂ (λ b rest. same_bool b (third x) && rest) h.0 (third_agree f g third xs h.1)

self_agree : {X : Type 0} (f : X → Bool) (xs : List X) → Agree f f xs
self_agree f [] = refl
self_agree f (x ∷ xs) = and_from (same_bool (f x) (f x)) (list_all (λ y. same_bool (f y) (f y)) xs) (same_self (f x)) (self_agree f xs)

-- what keeps all leaves a list as it is
pub filter_all : {X : Type 0} (f : X → Bool) (xs : List X) → list_all f xs ≡ true → filter f xs ≡ xs
filter_all f [] e = refl
filter_all f (x ∷ xs) e = let h = and_parts (f x) (list_all f xs) e in rw h.0 (ap (λ rest. x ∷ rest) (filter_all f xs h.1))

-- what is made of each left row and its pairs that a test keeps
joined_agree : (made : Row → List Row → List Row) (f g : Row → Bool) (lefts rights : List Row) → Agree f g (crossed lefts rights)
    → flat_map (λ l. made l (filter f (pairs_with rights l))) lefts ≡ flat_map (λ l. made l (filter g (pairs_with rights l))) lefts
joined_agree made f g [] rights e = refl
joined_agree made f g (l ∷ lefts) rights e =
    let agree : Row → Bool = λ row. same_bool (f row) (g row) in
    let both = sym (list_all-append agree (pairs_with rights l) (crossed lefts rights)) ∙ e in
    let h = and_parts (list_all agree (pairs_with rights l)) (list_all agree (crossed lefts rights)) both in
    ap₂ (λ front back. front ++ back) (ap (made l) (filter_agree f g (pairs_with rights l) h.0)) (joined_agree made f g lefts rights h.1)

pub paired_agree : (constants : List Value) (kind : Pairing) (p q : Pred) (width : ℕ) (lefts rights : List Row) → Agree (keeps constants p) (keeps constants q) (crossed lefts rights)
    → paired kind constants p width lefts rights ≡ paired kind constants q width lefts rights
paired_agree constants Join p q width lefts rights e = joined_agree (λ l pairs. pairs) (keeps constants p) (keeps constants q) lefts rights e
paired_agree constants Left p q width lefts rights e = joined_agree (or_padded width) (keeps constants p) (keeps constants q) lefts rights e

-- the same of rows that may not be there
pub filtered_agree : (f g : Row → Bool) (found : Option (List Row)) → Agree f g (unwrap_or found []) → option_map (filter f) found ≡ option_map (filter g) found
filtered_agree f g None e = refl
filtered_agree f g (Some rows) e = ap Some (filter_agree f g rows e)

pub filtered_all : (f : Row → Bool) (found : Option (List Row)) → list_all f (unwrap_or found []) ≡ true → found ≡ option_map (filter f) found
filtered_all f None e = refl
filtered_all f (Some rows) e = ap Some (sym (filter_all f rows e))

pub both_agree : (constants : List Value) (kind : Pairing) (p q : Pred) (width : ℕ) (lefts rights : Option (List Row))
    → Agree (keeps constants p) (keeps constants q) (crossed (unwrap_or lefts []) (unwrap_or rights []))
    → of_both (paired kind constants p width) lefts rights ≡ of_both (paired kind constants q width) lefts rights
both_agree constants kind p q width None rights e = refl
both_agree constants kind p q width (Some lefts) None e = refl
both_agree constants kind p q width (Some lefts) (Some rights) e = ap Some (paired_agree constants kind p q width lefts rights e)

-- the first element of a list that passes a test
found_passes : {X : Type 0} (f : X → Bool) (xs : List X) (x : X) → f x ≡ true → f (unwrap_or (find f xs) x) ≡ true
found_passes f [] x e = e
found_passes f (y ∷ ys) x e = elim (cases_Bool (f y)) [ inl is ↦ rw is is | inr is ↦ rw is (found_passes f ys x e) ]

found_in : {X : Type 0} (f : X → Bool) (xs : List X) (x : X) → f x ≡ true → In x xs → In (unwrap_or (find f xs) x) xs
found_in f [] x e i = absurd i
found_in f (y ∷ ys) x e (inl same) = let is : f y ≡ true = ap f (sym same) ∙ e in rw is (inl refl)
found_in f (y ∷ ys) x e (inr i) =
    elim (cases_Bool (f y)) [
      | inl is ↦ rw is (inl refl)
      | inr is ↦ in_same (unwrap_or (find f (y ∷ ys)) x) (unwrap_or (find f ys) x) (y ∷ ys) (ap (λ b. unwrap_or (cond b (Some y) (find f ys)) x) is) (inr (found_in f ys x e i))
    ]

find_same : {X : Type 0} (f g : X → Bool) (xs : List X) → ((x : X) → f x ≡ g x) → find f xs ≡ find g xs
find_same f g [] same = refl
find_same f g (x ∷ xs) same = ap₂ (λ b rest. cond b (Some x) rest) (same x) (find_same f g xs same)

or_twice : {X : Type 0} (found : Option X) (x : X) → unwrap_or found (unwrap_or found x) ≡ unwrap_or found x
or_twice None x = refl
or_twice (Some y) x = refl

-- the first predicate alike keeps the same rows, is in the list where the predicate is, and is the first of those alike to it
pub first_agrees : (constants : List Value) (candidates : List Row) (preds : List Pred) (p : Pred) → Agree (keeps constants p) (keeps constants (first_alike constants candidates preds p)) candidates
first_agrees constants candidates preds p = found_passes (alike constants candidates p) preds p (self_agree (keeps constants p) candidates)

pub first_in : (constants : List Value) (candidates : List Row) (preds : List Pred) (p : Pred) → In p preds → In (first_alike constants candidates preds p) preds
first_in constants candidates preds p i = found_in (alike constants candidates p) preds p (self_agree (keeps constants p) candidates) i

pub first_stays : (constants : List Value) (candidates : List Row) (preds : List Pred) (p : Pred)
    → first_alike constants candidates preds (first_alike constants candidates preds p) ≡ first_alike constants candidates preds p
first_stays constants candidates preds p =
    let first = first_alike constants candidates preds p in
    let like_first : (r : Pred) → alike constants candidates first r ≡ alike constants candidates p r =
    λ r. sym (third_agree (keeps constants p) (keeps constants first) (keeps constants r) candidates (first_agrees constants candidates preds p)) in
    ap (λ found. unwrap_or found first) (find_same (alike constants candidates first) (alike constants candidates p) preds like_first)
    ∙ or_twice (find (alike constants candidates p) preds) p

-- it keeps all exactly where the predicate does
pub first_keeps_all : (constants : List Value) (candidates : List Row) (preds : List Pred) (p : Pred)
    → keeps_all constants candidates (first_alike constants candidates preds p) ≡ keeps_all constants candidates p
first_keeps_all constants candidates preds p =
    sym (all_agree (keeps constants p) (keeps constants (first_alike constants candidates preds p)) candidates (first_agrees constants candidates preds p))

-- Always keeps all
pub always_keeps_all : (constants : List Value) (candidates : List Row) → keeps_all constants candidates Always ≡ true
always_keeps_all constants [] = refl
always_keeps_all constants (row ∷ rows) = always_keeps_all constants rows

-- Laws of what functions give of the elements of lists, joined.
use Rattle.std.proofs.Common.{◌≡◌, Bool, true, false, List, [], ◌∷◌, ◌++◌, map, refl, sym, ap, ◌∙◌, if◌then◌else◌}
use Rattle.std.specs.Prelude.{filter}
use Rattle.std.specs.List.{flat_map}
use Rattle.std.proofs.lemmas.List.{map-append, append-nil}
use Rattle.std.proofs.lemmas.List.Elements.{filter-append}
use Rattle.std.proofs.lemmas.Grind.{flat_map-append}

-- one element where a test holds, and none where it doesn't
abbrev pub single : {A : Type 0} → Bool → A → List A
single b x = if b then x ∷ [] else []

pub flat_map_twice : {A B C : Type 0} (g : B → List C) (f : A → List B) (xs : List A) → flat_map g (flat_map f xs) ≡ flat_map (λ x. flat_map g (f x)) xs
flat_map_twice g f [] = refl
flat_map_twice g f (x ∷ xs) = flat_map-append g (f x) (flat_map f xs) ∙ ap (λ t. flat_map g (f x) ++ t) (flat_map_twice g f xs)

pub flat_map_same : {A B : Type 0} (f g : A → List B) (xs : List A) → ((x : A) → f x ≡ g x) → flat_map f xs ≡ flat_map g xs
flat_map_same f g [] same = refl
flat_map_same f g (x ∷ xs) same = ap (λ t. t ++ flat_map f xs) (same x) ∙ ap (λ t. g x ++ t) (flat_map_same f g xs same)

pub flat_map_none : {A B : Type 0} (f : A → List B) (xs : List A) → ((x : A) → f x ≡ []) → flat_map f xs ≡ []
flat_map_none f [] none = refl
flat_map_none f (x ∷ xs) none = ap (λ t. t ++ flat_map f xs) (none x) ∙ flat_map_none f xs none

pub flat_map_of_map : {A B C : Type 0} (g : B → List C) (f : A → B) (xs : List A) → flat_map g (map f xs) ≡ flat_map (λ x. g (f x)) xs
flat_map_of_map g f [] = refl
flat_map_of_map g f (x ∷ xs) = ap (λ t. g (f x) ++ t) (flat_map_of_map g f xs)

-- to map and filter what is joined is to join what is mapped and filtered
pub kept_joined : {A B C : Type 0} (f : B → C) (p : B → Bool) (g : A → List B) (xs : List A) → map f (filter p (flat_map g xs)) ≡ flat_map (λ x. map f (filter p (g x))) xs
kept_joined f p g [] = refl
kept_joined f p g (x ∷ xs) =
    ap (map f) (filter-append p (g x) (flat_map g xs))
    ∙ map-append f (filter p (g x)) (filter p (flat_map g xs))
    ∙ ap (λ t. map f (filter p (g x)) ++ t) (kept_joined f p g xs)

-- what is joined of the elements that pass a test
joined_next : {A B : Type 0} (h : A → List B) (q : A → Bool) (x : A) (xs : List A) (b : Bool) → q x ≡ b
    → flat_map h (filter q xs) ≡ flat_map (λ y. if q y then h y else []) xs → flat_map h (filter q (x ∷ xs)) ≡ flat_map (λ y. if q y then h y else []) (x ∷ xs)
joined_next h q x xs true is rest = rw is (ap (λ t. h x ++ t) rest)
joined_next h q x xs false is rest = rw is rest

pub flat_map_filter : {A B : Type 0} (h : A → List B) (q : A → Bool) (xs : List A) → flat_map h (filter q xs) ≡ flat_map (λ x. if q x then h x else []) xs
flat_map_filter h q [] = refl
flat_map_filter h q (x ∷ xs) = joined_next h q x xs (q x) refl (flat_map_filter h q xs)

-- the elements that pass a test, each mapped
singles_next : {A B : Type 0} (g : A → B) (q : A → Bool) (x : A) (xs : List A) (b : Bool) → q x ≡ b
    → flat_map (λ y. single (q y) (g y)) xs ≡ map g (filter q xs) → flat_map (λ y. single (q y) (g y)) (x ∷ xs) ≡ map g (filter q (x ∷ xs))
singles_next g q x xs true is rest = rw is (ap (λ t. g x ∷ t) rest)
singles_next g q x xs false is rest = rw is rest

pub flat_map_singles : {A B : Type 0} (g : A → B) (q : A → Bool) (xs : List A) → flat_map (λ x. single (q x) (g x)) xs ≡ map g (filter q xs)
flat_map_singles g q [] = refl
flat_map_singles g q (x ∷ xs) = singles_next g q x xs (q x) refl (flat_map_singles g q xs)

pub map_twice : {A B C : Type 0} (g : B → C) (f : A → B) (xs : List A) → map g (map f xs) ≡ map (λ x. g (f x)) xs
map_twice g f [] = refl
map_twice g f (x ∷ xs) = ap (λ t. g (f x) ∷ t) (map_twice g f xs)

-- what is joined of one list with each element of another, where the first has at most one element
pub flat_map_single : {A B : Type 0} (h : A → List B) (x : A) → flat_map h (x ∷ []) ≡ h x
flat_map_single h x = append-nil (h x)

-- What is filled of pairs is the pairs of what is filled: where F gives at most one element of each x, and of each pair
-- F gives what H gives of the parts' elements, the same holds of the lists.
pub of_each_filled_is : {T U : Type 0} (F : T → List U) (G : T → T → List T) (H : U → U → List U) (test : T → Bool) (make : T → U) (xs ys : List T)
    → ((x : T) → F x ≡ single (test x) (make x))
    → ((x y : T) → flat_map F (G x y) ≡ flat_map (λ u. flat_map (H u) (F y)) (F x))
    → flat_map F (flat_map (λ x. flat_map (G x) ys) xs) ≡ flat_map (λ u. flat_map (H u) (flat_map F ys)) (flat_map F xs)
of_each_filled_is F G H test make [] ys one pair = refl
of_each_filled_is {T} {U} F G H test make (x ∷ xs) ys one pair =
    flat_map-append F (flat_map (G x) ys) (flat_map (λ z. flat_map (G z) ys) xs)
    ∙ ap (λ t. t ++ flat_map F (flat_map (λ z. flat_map (G z) ys) xs)) (here (test x) refl)
    ∙ ap (λ t. flat_map (λ u. flat_map (H u) (flat_map F ys)) (F x) ++ t) (of_each_filled_is F G H test make xs ys one pair)
    ∙ sym (flat_map-append (λ u. flat_map (H u) (flat_map F ys)) (F x) (flat_map F xs))
  where
    by_parts : (u : U) → F x ≡ u ∷ [] → flat_map (λ y. flat_map F (G x y)) ys ≡ flat_map (λ y. flat_map (H u) (F y)) ys
    by_parts u is = flat_map_same _ _ ys (λ y. pair x y ∙ rw is (append-nil (flat_map (H u) (F y))))

    none : F x ≡ [] → flat_map F (flat_map (G x) ys) ≡ flat_map (λ u. flat_map (H u) (flat_map F ys)) (F x)
    none is = flat_map_twice F (G x) ys ∙ flat_map_none (λ y. flat_map F (G x y)) ys (λ y. pair x y ∙ rw is refl) ∙ rw is refl

    some : (u : U) → F x ≡ u ∷ [] → flat_map F (flat_map (G x) ys) ≡ flat_map (λ u. flat_map (H u) (flat_map F ys)) (F x)
    some u is = flat_map_twice F (G x) ys ∙ by_parts u is ∙ sym (flat_map_twice (H u) F ys) ∙ rw is (sym (append-nil (flat_map (H u) (flat_map F ys))))

    here : (b : Bool) → test x ≡ b → flat_map F (flat_map (G x) ys) ≡ flat_map (λ u. flat_map (H u) (flat_map F ys)) (F x)
    here true is = some (make x) (one x ∙ rw is refl)
    here false is = none (one x ∙ rw is refl)

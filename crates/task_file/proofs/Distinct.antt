-- Lists without two elements that are the same.
use Rattle.std.proofs.Common.{◌≡◌, ℕ, Bool, true, false, not, ◌||◌, List, [], ◌∷◌, ◌++◌, map, Decides, refl, sym, ap, ◌∙◌}
use Rattle.std.proofs.lemmas.Bool.{and_parts, or_parts, not-true}
use Rattle.std.proofs.lemmas.Bool.Decides.{same_from_decides}
use Rattle.std.proofs.lemmas.List.Folds.{list_any-append}
use Rattle.std.proofs.lemmas.Slice.Eq.{bytes_eq-Decides}
use Rattle.std.specs.List.{list_any}
use Rattle.std.specs.Str.{bytes_eq}
use Rattle.value_core.specs.Value.{same}
use Rattle.value_core.specs.declared.value.Value.{Value}
use Rattle.value_core.proofs.ValueLaws.{same_decides}
use Rattle.table_core.specs.Limits.{all_distinct}
use Rattle.task_file.specs.TaskFile.{all_distinct as all_others_distinct}

flip_decides : {A : Type 0} (alike : A → A → Bool) → ((x y : A) → Decides (alike x y) (x ≡ y)) → (x y : A) → alike x y ≡ alike y x
flip_decides alike decides x y = same_from_decides (alike x y) (alike y x) (decides x y) (λ e. sym ((decides y x).0 e), λ e. (decides y x).1 (sym e))

-- the test gives the same with its two sides swapped
pub bytes_eq-flip : (x y : List ℕ) → bytes_eq x y ≡ bytes_eq y x
bytes_eq-flip x y = flip_decides bytes_eq bytes_eq-Decides x y

pub same-flip : (x y : Value) → same x y ≡ same y x
same-flip x y = flip_decides same same_decides x y

any_flipped : {A : Type 0} (alike : A → A → Bool) → ((x y : A) → alike x y ≡ alike y x) → (x : A) (others : List A) → list_any (λ y. alike y x) others ≡ list_any (alike x) others
any_flipped alike flip x [] = refl
any_flipped alike flip x (y ∷ ys) = rw (flip y x, any_flipped alike flip x ys)

-- distinct, tested the other way round
pub distinct_flipped : {A : Type 0} (alike : A → A → Bool) → ((x y : A) → alike x y ≡ alike y x) → (xs : List A) → all_distinct alike xs ≡ all_others_distinct alike xs
distinct_flipped alike flip [] = refl
distinct_flipped alike flip (x ∷ xs) = rw (any_flipped alike flip x xs, distinct_flipped alike flip xs)

-- a test of what the elements have
pub any_of_map : {A B : Type 0} (f : A → B) (test : B → Bool) (xs : List A) → list_any test (map f xs) ≡ list_any (λ x. test (f x)) xs
any_of_map f test [] = refl
any_of_map f test (x ∷ xs) = ap (λ rest. test (f x) || rest) (any_of_map f test xs)

pub distinct_of_map : {A B : Type 0} (f : A → B) (alike : B → B → Bool) (xs : List A) → all_distinct alike (map f xs) ≡ all_distinct (λ x y. alike (f x) (f y)) xs
distinct_of_map f alike [] = refl
distinct_of_map f alike (x ∷ xs) = rw (any_of_map f (λ y. alike y (f x)) xs, distinct_of_map f alike xs)

-- one more name, which none of the others is
pub distinct_push : (names : List (List ℕ)) (name : List ℕ) → all_distinct bytes_eq names ≡ true → list_any (λ other. bytes_eq other name) names ≡ false → all_distinct bytes_eq (names ++ name ∷ []) ≡ true
distinct_push [] name distinct fresh = refl
distinct_push (x ∷ xs) name distinct fresh =
    let parts = and_parts (not (list_any (λ y. bytes_eq y x) xs)) (all_distinct bytes_eq xs) distinct in
    let others = or_parts (bytes_eq x name) (list_any (λ other. bytes_eq other name) xs) fresh in
    let none = not-true (list_any (λ y. bytes_eq y x) xs) parts.0 in
    let flip : bytes_eq name x ≡ false = bytes_eq-flip name x ∙ others.0 in
    let any : list_any (λ y. bytes_eq y x) (xs ++ name ∷ []) ≡ false = list_any-append (λ y. bytes_eq y x) xs (name ∷ []) ∙ rw (none, flip) refl in
    rw (any, distinct_push xs name parts.1 others.1) refl

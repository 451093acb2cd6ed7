-- The names of a header, and the columns that have them, are distinct.
use Rattle.std.proofs.Common.{◌≡◌, ◌+◌, ℕ, Bool, true, false, not, ◌||◌, List, [], ◌∷◌, ◌++◌, length, map, Option, Some, None, Ok, ap, refl, arith}
use Rattle.std.specs.Prelude.{nat_eq, if◌then◌else◌}
use Rattle.std.specs.List.{list_any}
use Rattle.std.specs.Cmp.Lexicographic.{pointwise}
use Rattle.std.proofs.lemmas.Bool.{and_parts, eqb-true}
use Rattle.std.proofs.lemmas.Cmp.{nat_list_eq_equiv}
use Rattle.std.proofs.lemmas.List.{length-append}
use Rattle.std.proofs.lemmas.List.Folds.{list_any-append}
use Rattle.first_fault.specs.Reading.{found_or}
use Rattle.value_core.specs.declared.value.ColType.{ColType}
use Rattle.table_core.specs.Limits.{all_distinct, same_column_name}
use Rattle.table_core.specs.declared.column.Column.{Column}
use Rattle.table_read.specs.Table.{Fields, are_types_of, columns_of, declared_as, inferred_from, is_repeated, name_of, names_after, word_of}
use Rattle.table_read.specs.declared.fault.TableFault.TheVariants.{BadName}
use Rattle.table_read.proofs.StepFacts.{binds, found}

not_true : (b : Bool) → not b ≡ true → b ≡ false
not_true true e = cc
not_true false e = refl

none_of_two : (a b : Bool) → (a || b) ≡ false → (a ≡ false) × (b ≡ false)
none_of_two true b e = cc
none_of_two false b e = (refl, e)

-- one element more, which is like none before it
distinct_more : {A : Type 0} (E : A → A → Bool) → ((x y : A) → E x y ≡ E y x) → (xs : List A) (y : A) → all_distinct E xs ≡ true
    → list_any (λ n. E n y) xs ≡ false → all_distinct E (xs ++ y ∷ []) ≡ true
distinct_more E symm [] y d e = refl
distinct_more E symm (x ∷ xs) y d e =
    let parts = and_parts (not (list_any (λ z. E z x) xs)) (all_distinct E xs) d in
    let other = none_of_two (E x y) (list_any (λ n. E n y) xs) e in
    let first = not_true (list_any (λ z. E z x) xs) parts.0 in
    rw (list_any-append (λ z. E z x) xs (y ∷ []), first, symm y x, other.0, distinct_more E symm xs y parts.1 other.1) refl

-- a name that a column may have is none of the earlier ones
choice_name : {A : Type 0} (b : Bool) (o : Option A) (x : A) → (if b then None else o) ≡ Some x → (b ≡ false) × (o ≡ Some x)
choice_name true o x e = cc
choice_name false o x e = (refl, e)

choice_word : (b : Bool) (bytes word : List ℕ) → (if b then Some bytes else None) ≡ Some word → bytes ≡ word
choice_word true bytes word e = cc
choice_word false bytes word e = cc

name_is_new : (earlier : List (List ℕ)) (field name : List ℕ) → name_of earlier field ≡ Some name → is_repeated earlier name ≡ false
name_is_new earlier field name e =
    let new = choice_name (is_repeated earlier field) (word_of field) name e in
    let same = choice_word _ field name new.1 in
    rw (← same) new.0

-- as many names as fields, no two the same
pub names_distinct : (at : ℕ) (earlier : List (List ℕ)) (fields : Fields) (names : List (List ℕ)) → names_after at earlier fields ≡ Ok names
    → all_distinct (pointwise nat_eq) earlier ≡ true → (length names ≡ length earlier + length fields) × (all_distinct (pointwise nat_eq) names ≡ true)
names_distinct at earlier [] names e d = let same : earlier ≡ names = cc in rw (← same) (omega arith, d)
names_distinct at earlier (field ∷ fields) names e d =
    let first = binds (found_or (BadName (at + 1)) (name_of earlier field)) _ names e in
    let new = name_is_new earlier field first.0 (found (BadName (at + 1)) _ _ first.1) in
    let rest = names_distinct (at + 1) (earlier ++ first.0 ∷ []) fields names first.2 (distinct_more (pointwise nat_eq) nat_list_eq_equiv.symm earlier first.0 d new) in
    (omega (arith, length-append earlier (first.0 ∷ []), rest.0), rest.1)

-- the columns have the names that they are given
inferred_names : (at : ℕ) (names : List (List ℕ)) (rows : List Fields) → map (λ (c : Column). c.name) (inferred_from at names rows) ≡ names
inferred_names at [] rows = refl
inferred_names at (name ∷ names) rows = ap (λ ns. name ∷ ns) (inferred_names (at + 1) names rows)

declared_names : (names : List (List ℕ)) (types : List ColType) → length types ≡ length names → map (λ (c : Column). c.name) (declared_as names types) ≡ names
declared_names [] types e = refl
declared_names (name ∷ names) [] e = absurd (omega arith)
declared_names (name ∷ names) (type ∷ types) e = ap (λ ns. name ∷ ns) (declared_names names types (omega arith))

pub columns_names : (types : Option (List ColType)) (names : List (List ℕ)) (rows : List Fields) → are_types_of (length names) types ≡ true
    → map (λ (c : Column). c.name) (columns_of types names rows) ≡ names
columns_names None names rows e = inferred_names 0 names rows
columns_names (Some types) names rows e = declared_names names types (eqb-true (length types) (length names) e)

-- columns of distinct names
any_mapped : {A B : Type 0} (p : B → Bool) (f : A → B) (xs : List A) → list_any p (map f xs) ≡ list_any (λ x. p (f x)) xs
any_mapped p f [] = refl
any_mapped p f (x ∷ xs) = rw (any_mapped p f xs) refl

distinct_mapped : {A B : Type 0} (E : B → B → Bool) (f : A → B) (xs : List A) → all_distinct E (map f xs) ≡ all_distinct (λ x y. E (f x) (f y)) xs
distinct_mapped E f [] = refl
distinct_mapped E f (x ∷ xs) = rw (any_mapped (λ y. E y (f x)) f xs, distinct_mapped E f xs) refl

pub columns_distinct : (columns : List Column) (names : List (List ℕ)) → map (λ (c : Column). c.name) columns ≡ names → all_distinct (pointwise nat_eq) names ≡ true
    → all_distinct same_column_name columns ≡ true
columns_distinct columns names e d = let m = distinct_mapped (pointwise nat_eq) (λ (c : Column). c.name) columns in rw (← m, e) d

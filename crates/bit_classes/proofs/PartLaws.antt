-- What is seen in two parts.
use Rattle.std.proofs.Common.{◌∷◌, Option, ◌≡◌, refl, sym, ap, ◌∙◌, ℕ, ◌+◌, ◌*◌, ◌≤◌, Bool, nat_le, if◌then◌else◌, le-leb, List, [], ◌++◌, length, Result, Ok, Err, arith, length-append}
use Rattle.std.proofs.lemmas.List.{length-map}
use Rattle.predicate_core.specs.Counts.{pair_count, triple_count}
use Rattle.bit_classes.specs.declared.class.Class.{Class}
use Rattle.bit_classes.specs.declared.class.ClassEnd.{ClassEnd}
use Rattle.bit_classes.specs.declared.join.Join.{Join}
use Rattle.bit_classes.specs.declared.join.Join.TheVariants.{And, Or}
use Rattle.bit_classes.specs.Walk.{Walk, Sees, if_passing, sifted, numbered, told_pairs, told_triples, told_under, classes_under, told_two, told_three, told_more}
use Rattle.bit_classes.proofs.WalkLaws.{sees_then, sees_stopped, sees_same}
use Rattle.bit_classes.proofs.SplitLaws.{numbered_parts, length-told_later, length-told_under}

pub sees_parts : (a b c : Walk) (n m : ℕ) (xs ys : List (Option (List Bool))) (result : Result (Unit {0}) ClassEnd) → m ≡ n + length xs → Sees a (numbered n xs) b (Ok tt) → Sees b (numbered m ys) c result
    → Sees a (numbered n (xs ++ ys)) c result
sees_parts a b c n m xs ys result long first second =
    sees_same a c result _ (numbered n (xs ++ ys)) (sym (numbered_parts n m xs ys long))
    (sees_then a b c (numbered n xs) (numbered m ys) result first second)

pub sees_first_part : (a b c : Walk) (n : ℕ) (xs ys : List (Option (List Bool))) (end : ClassEnd) → Sees a (numbered n xs) b (Err end) → Sees a (numbered n (xs ++ ys)) c (Err end)
sees_first_part a b c n xs ys end first =
    sees_same a c (Err end) _ (numbered n (xs ++ ys)) (sym (numbered_parts n (n + length xs) xs ys refl))
    (sees_stopped a b c (numbered n xs) (numbered (n + length xs) ys) end first)

-- how many vectors there are of two atoms, and of three
pub length-told_pairs : (join : Join) (rows : List (Option (List Bool))) → length (told_pairs join rows) ≡ pair_count (length rows)
length-told_pairs join rows = length-told_later join rows rows refl

pub length-told_triples : (test : List Bool → Bool) (join : Join) (classes : List Class) (rows : List (Option (List Bool))) → length (told_triples test join classes rows) ≡ triple_count (length rows)
length-told_triples test join classes [] = refl
length-told_triples test join classes (m ∷ ms) =
    let after = classes_under test join classes m ms in
    length-append (told_under test join classes m ms) (told_triples test join after ms) ∙ rw (length-told_under test join classes m ms, length-told_triples test join after ms) refl

pub length-told_two : (may : Join → List Bool → Bool) (rows : List (Option (List Bool))) → length (told_two (sifted (may And) rows) (sifted (may Or) rows)) ≡ 2 * pair_count (length rows)
length-told_two may rows =
    let ands = sifted (may And) rows in
    let ors = sifted (may Or) rows in
    let some : length (told_pairs And ands) ≡ pair_count (length rows) = length-told_pairs And ands ∙ ap pair_count (length-map rows (if_passing (may And))) in
    let more : length (told_pairs Or ors) ≡ pair_count (length rows) = length-told_pairs Or ors ∙ ap pair_count (length-map rows (if_passing (may Or))) in
    omega (arith, length-append (told_pairs And ands) (told_pairs Or ors), some, more)

-- the vectors of two atoms or more where the bound is two or more, and where it is three or more
pub more_from_two : (may : Join → List Bool → Bool) (rows : List (Option (List Bool))) (bound : ℕ) → 2 ≤ bound
    → told_more may rows bound ≡ told_two (sifted (may And) rows) (sifted (may Or) rows) ++ (if nat_le 3 bound then told_three may (sifted (may And) rows) (sifted (may Or) rows) else [])
more_from_two may rows bound two = rw (le-leb 2 bound two) refl

pub more_of_three : (may : Join → List Bool → Bool) (rows : List (Option (List Bool))) (bound : ℕ) → 2 ≤ bound → 3 ≤ bound
    → told_more may rows bound ≡ told_two (sifted (may And) rows) (sifted (may Or) rows) ++ told_three may (sifted (may And) rows) (sifted (may Or) rows)
more_of_three may rows bound two three = rw (le-leb 2 bound two, le-leb 3 bound three) refl

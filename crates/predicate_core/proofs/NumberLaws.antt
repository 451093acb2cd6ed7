-- Laws of lists by number: elements of two lists joined, and how many pairs and triples a list has.
use Rattle.std.proofs.Common.{◌≡◌, le-leb, Bool, true, false, nat_le, if◌then◌else◌, ℕ, zero, suc, ◌+◌, ◌-◌, ◌*◌, ◌<◌, ◌≤◌, List, [], ◌∷◌, ◌++◌, length, map, Option, Some, option_map, refl, ap, ◌∙◌, arith, drop, get_or, length-append, length-drop}
use Rattle.std.specs.List.{slice_get}
use Rattle.std.proofs.lemmas.List.{length-map, drop_more}
use Rattle.std.proofs.lemmas.Option.{slice_get-map}
use Rattle.predicate_core.specs.declared.atom.Atom.{Atom}
use Rattle.predicate_core.specs.declared.pred.Pred.{Pred}
use Rattle.predicate_core.specs.declared.pred.Pred.TheVariants.{One, And2, Or2, And3, Or3}
use Rattle.predicate_core.specs.Atoms.{pairs, triples, two_atoms, three_atoms, more_atoms, pred_list}
use Rattle.predicate_core.specs.Counts.{pair_count, triple_count}
use Rattle.std.proofs.Math.Nat.{mul-le-mul}

-- an element of two lists, one after the other: of the first, or of the second
pub get_front : {X : Type 0} (xs ys : List X) (k : ℕ) → k < length xs → slice_get (xs ++ ys) k ≡ slice_get xs k
get_front [] ys k below = absurd (omega arith)
get_front (x ∷ xs) ys zero below = refl
get_front (x ∷ xs) ys (suc k) below = get_front xs ys k (omega arith)

pub get_back : {X : Type 0} (xs ys : List X) (j k : ℕ) → k ≡ length xs + j → slice_get (xs ++ ys) k ≡ slice_get ys j
get_back [] ys j k e = ap (slice_get ys) (omega (arith, e))
get_back (x ∷ xs) ys j zero e = absurd (omega (arith, e))
get_back (x ∷ xs) ys j (suc k) e = get_back xs ys j k (omega (arith, e))

pub length-pairs : {X : Type 0} (xs : List X) → length (pairs xs) ≡ pair_count (length xs)
length-pairs [] = refl
length-pairs {X} (x ∷ rest) =
    let with_x : X → X × X = λ y. (x, y) in
    length-append (map with_x rest) (pairs rest) ∙ rw (length-map rest with_x, length-pairs rest) refl

pub length-triples : {X : Type 0} (xs : List X) → length (triples xs) ≡ triple_count (length xs)
length-triples [] = refl
length-triples {X} (a ∷ rest) =
    let with_a : X × X → X × X × X = λ p. (a, p.0, p.1) in
    length-append (map with_a (pairs rest)) (triples rest) ∙ rw (length-map (pairs rest) with_a, length-pairs rest, length-triples rest) refl

-- twice the pairs and the atoms are the square
pub pair_count_square : (n : ℕ) → pair_count n * 2 + n ≡ n * n
pair_count_square zero = refl
pair_count_square (suc n) = grind (arith, pair_count_square n)

-- six times the triples and three squares are the cube and twice the atoms
pub triple_count_cube : (n : ℕ) → triple_count n * 6 + 3 * (n * n) ≡ n * n * n + 2 * n
triple_count_cube zero = refl
triple_count_cube (suc n) = grind (arith, triple_count_cube n, pair_count_square n)

-- a square and a cube of at most a hundred thousand
pub square_le : (n : ℕ) → n ≤ 100000 → n * n ≤ 10000000000
square_le n le = mul-le-mul le le

pub cube_le : (n : ℕ) → n ≤ 100000 → n * n * n ≤ 1000000000000000
cube_le n le = mul-le-mul (square_le n le) le

-- three squares are at most the cube and twice the number
pub squares_below : (n : ℕ) → 3 * (n * n) ≤ n * n * n + 2 * n
squares_below n = omega (arith, triple_count_cube n)

-- an element that is there
pub get_some : {X : Type 0} (xs : List X) (i : ℕ) (d : X) → i < length xs → slice_get xs i ≡ Some (get_or xs i d)
get_some [] i d below = absurd (omega arith)
get_some (y ∷ ys) zero d below = refl
get_some (y ∷ ys) (suc i) d below = get_some ys i d (omega arith)

-- an element after so many
pub get_drop : {X : Type 0} (xs : List X) (n k : ℕ) → slice_get (drop n xs) k ≡ slice_get xs (n + k)
get_drop xs zero k = ap (slice_get xs) (omega arith)
get_drop [] (suc n) k = refl
get_drop (x ∷ xs) (suc n) k = let e : suc n + k ≡ suc (n + k) = omega arith in rw e (get_drop xs n k)

-- the pairs of the first atom of what is left come first
pub pair_here : {X : Type 0} (atoms : List X) (i k : ℕ) (d : X) → i < length atoms → k < length atoms - i - 1 → slice_get (pairs (drop i atoms)) k ≡ Some (get_or atoms i d, get_or atoms (i + 1 + k) d)
pair_here {X} atoms i k d below within =
    let with_a : X → X × X = λ c. (get_or atoms i d, c) in
    let rest = drop (i + 1) atoms in
    let short : k < length (map with_a rest) = rw (length-map rest with_a, length-drop (i + 1) atoms) (omega arith) in
    let here : slice_get rest k ≡ Some (get_or atoms (i + 1 + k) d) = get_drop atoms (i + 1) k ∙ get_some atoms (i + 1 + k) d (omega arith) in
    rw (drop_more atoms i d below) (get_front (map with_a rest) (pairs rest) k short ∙ (slice_get-map with_a rest k ∙ ap (option_map with_a) here))

-- the other pairs come after them
pub pair_later : {X : Type 0} (atoms : List X) (i k j : ℕ) (d : X) → i < length atoms → k ≡ (length atoms - i - 1) + j → slice_get (pairs (drop i atoms)) k ≡ slice_get (pairs (drop (i + 1) atoms)) j
pair_later {X} atoms i k j d below past =
    let with_a : X → X × X = λ c. (get_or atoms i d, c) in
    let rest = drop (i + 1) atoms in
    let long : k ≡ length (map with_a rest) + j = rw (length-map rest with_a, length-drop (i + 1) atoms) (omega arith) in
    rw (drop_more atoms i d below) (get_back (map with_a rest) (pairs rest) j k long)

-- the triples of the first atom of what is left come first, by the pairs of the rest
pub triple_here : {X : Type 0} (atoms : List X) (i k : ℕ) (d : X) → i < length atoms → k < pair_count (length (drop (i + 1) atoms))
    → slice_get (triples (drop i atoms)) k ≡ option_map (λ p. (get_or atoms i d, p.0, p.1)) (slice_get (pairs (drop (i + 1) atoms)) k)
triple_here {X} atoms i k d below within =
    let with_a : X × X → X × X × X = λ p. (get_or atoms i d, p.0, p.1) in
    let rest = drop (i + 1) atoms in
    let short : k < length (map with_a (pairs rest)) = rw (length-map (pairs rest) with_a, length-pairs rest) within in
    rw (drop_more atoms i d below) (get_front (map with_a (pairs rest)) (triples rest) k short ∙ slice_get-map with_a (pairs rest) k)

-- the other triples come after them
pub triple_later : {X : Type 0} (atoms : List X) (i k j : ℕ) (d : X) → i < length atoms → k ≡ pair_count (length (drop (i + 1) atoms)) + j → slice_get (triples (drop i atoms)) k ≡ slice_get (triples (drop (i + 1) atoms)) j
triple_later {X} atoms i k j d below past =
    let with_a : X × X → X × X × X = λ p. (get_or atoms i d, p.0, p.1) in
    let rest = drop (i + 1) atoms in
    let long : k ≡ length (map with_a (pairs rest)) + j = rw (length-map (pairs rest) with_a, length-pairs rest) past in
    rw (drop_more atoms i d below) (get_back (map with_a (pairs rest)) (triples rest) j k long)

-- a triple by its first atom and the pair that was found, or not, behind it
pub triple_found : {X : Type 0} (atoms : List X) (i k : ℕ) (d : X) (found : Option (X × X)) → i < length atoms → k < pair_count (length (drop (i + 1) atoms)) → found ≡ slice_get (pairs (drop (i + 1) atoms)) k
    → slice_get (triples (drop i atoms)) k ≡ option_map (λ p. (get_or atoms i d, p.0, p.1)) found
triple_found {X} atoms i k d found below within is = triple_here atoms i k d below within ∙ rw is refl

-- an element of a list under one function, and then under another
pub joined_front : {A B : Type 0} (f g : A → B) (xs : List A) (k : ℕ) → k < length xs → slice_get (map f xs ++ map g xs) k ≡ option_map f (slice_get xs k)
joined_front f g xs k below = get_front (map f xs) (map g xs) k (rw (length-map xs f) below) ∙ slice_get-map f xs k

pub joined_back : {A B : Type 0} (f g : A → B) (xs : List A) (j k : ℕ) → k ≡ length xs + j → slice_get (map f xs ++ map g xs) k ≡ option_map g (slice_get xs j)
joined_back f g xs j k e = get_back (map f xs) (map g xs) j k (rw (length-map xs f) e) ∙ slice_get-map g xs j

joined_length : {A B : Type 0} (f g : A → B) (xs : List A) → length (map f xs ++ map g xs) ≡ 2 * length xs
joined_length f g xs = length-append (map f xs) (map g xs) ∙ rw (length-map xs f, length-map xs g) (omega arith)

pub length-two_atoms : (atoms : List Atom) → length (two_atoms atoms) ≡ 2 * pair_count (length atoms)
length-two_atoms atoms = joined_length (λ p. And2 p.0 p.1) (λ p. Or2 p.0 p.1) (pairs atoms) ∙ ap (λ n. 2 * n) (length-pairs atoms)

pub length-three_atoms : (atoms : List Atom) → length (three_atoms atoms) ≡ 2 * triple_count (length atoms)
length-three_atoms atoms = joined_length (λ p. And3 p.0 p.1 p.2) (λ p. Or3 p.0 p.1 p.2) (triples atoms) ∙ ap (λ n. 2 * n) (length-triples atoms)

length-if : (b : Bool) (preds : List Pred) (n : ℕ) → length preds ≡ n → length (if b then preds else []) ≡ (if b then n else 0)
length-if true preds n e = e
length-if false preds n e = refl

-- how many predicates there are
pub length-pred_list : (atoms : List Atom) (bound : ℕ) → length (pred_list atoms bound) ≡ 1 + length atoms + (if nat_le 2 bound then 2 * pair_count (length atoms) else 0) + (if nat_le 3 bound then 2 * triple_count (length atoms) else 0)
length-pred_list atoms bound =
    let two = length-if (nat_le 2 bound) (two_atoms atoms) (2 * pair_count (length atoms)) (length-two_atoms atoms) in
    let three = length-if (nat_le 3 bound) (three_atoms atoms) (2 * triple_count (length atoms)) (length-three_atoms atoms) in
    let more = length-append (if nat_le 2 bound then two_atoms atoms else []) (if nat_le 3 bound then three_atoms atoms else []) in
    let all = length-append (map One atoms) (more_atoms atoms bound) in
    let ones = length-map atoms One in
    omega (arith, two, three, more, all, ones)

-- where the bound is two or more, the predicates of two atoms come first
pub more_front : (atoms : List Atom) (bound k : ℕ) → 2 ≤ bound → k < 2 * pair_count (length atoms) → slice_get (more_atoms atoms bound) k ≡ slice_get (two_atoms atoms) k
more_front atoms bound k enough below =
    let three = if nat_le 3 bound then three_atoms atoms else [] in
    rw (le-leb 2 bound enough) (get_front (two_atoms atoms) three k (rw (length-two_atoms atoms) below))

pub more_back : (atoms : List Atom) (bound j k : ℕ) → 2 ≤ bound → k ≡ 2 * pair_count (length atoms) + j → slice_get (more_atoms atoms bound) k ≡ slice_get (if nat_le 3 bound then three_atoms atoms else []) j
more_back atoms bound j k enough past =
    let three = if nat_le 3 bound then three_atoms atoms else [] in
    rw (le-leb 2 bound enough) (get_back (two_atoms atoms) three j k (rw (length-two_atoms atoms) past))

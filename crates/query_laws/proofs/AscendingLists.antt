-- Lists in which each element stands before each later one, and the pairs and triples of such lists.
use Rattle.std.proofs.Common.{◌≡◌, refl, sym, ap, ap₂, ◌∙◌, ℕ, zero, suc, ◌<◌, Bool, true, ◌&&◌, inl, inr, List, [], ◌∷◌, ◌++◌, map, Some, arith}
use Rattle.std.specs.List.{list_all, slice_get}
use Rattle.std.proofs.lemmas.Option.{same_Some, none-some}
use Rattle.std.proofs.lemmas.Bool.{and_parts}
use Rattle.predicate_core.specs.Atoms.{pairs, triples}
use Rattle.predicate_core.proofs.OnceLists.{In, in_same, in_append, in_map, in_at}
use Rattle.query_laws.proofs.MemberLaws.{in_front, in_back, map_in}

-- each element stands before each later one
abbrev pub Ascending : {X : Type 0} → (X → X → Bool) → List X → Type 0
Ascending before [] = Unit {0}
Ascending {X} before (x ∷ xs) = ((y : X) → In y xs → before x y ≡ true) × Ascending before xs

-- a test of all elements
pub of_all : {X : Type 0} (p : X → Bool) (x : X) (xs : List X) → list_all p xs ≡ true → In x xs → p x ≡ true
of_all p x [] all i = absurd i
of_all p x (y ∷ ys) all (inl e) = ap p e ∙ (and_parts (p y) (list_all p ys) all).0
of_all p x (y ∷ ys) all (inr i) = of_all p x ys (and_parts (p y) (list_all p ys) all).1 i

pub all_of : {X : Type 0} (p : X → Bool) (xs : List X) → ((x : X) → In x xs → p x ≡ true) → list_all p xs ≡ true
all_of p [] each = refl
all_of p (x ∷ xs) each = rw (each x (inl refl)) (all_of p xs (λ y i. each y (inr i)))

-- the same as a test
abbrev pub ascends : {X : Type 0} → (X → X → Bool) → List X → Bool
ascends before [] = true
ascends before (x ∷ xs) = list_all (before x) xs && ascends before xs

pub ascending_by_test : {X : Type 0} (before : X → X → Bool) (xs : List X) → ascends before xs ≡ true → Ascending before xs
ascending_by_test before [] e = tt
ascending_by_test before (x ∷ xs) e =
    let h = and_parts (list_all (before x) xs) (ascends before xs) e in
    (λ y i. of_all (before x) y xs h.0 i, ascending_by_test before xs h.1)

pub ascending_append : {X : Type 0} (before : X → X → Bool) (xs ys : List X) → Ascending before xs → Ascending before ys → ((x y : X) → In x xs → In y ys → before x y ≡ true)
    → Ascending before (xs ++ ys)
ascending_append before [] ys front back apart = back
ascending_append before (x ∷ xs) ys front back apart = (
  λ y i. elim (in_append y xs ys i) [ inl a ↦ front.0 y a | inr b ↦ apart x y (inl refl) b ],
  ascending_append before xs ys front.1 back (λ z y a b. apart z y (inr a) b),
)

pub ascending_map : {X Y : Type 0} (f : X → Y) (first : X → X → Bool) (before : Y → Y → Bool) → ((x y : X) → first x y ≡ true → before (f x) (f y) ≡ true)
    → (xs : List X) → Ascending first xs → Ascending before (map f xs)
ascending_map f first before keeps [] ascending = tt
ascending_map f first before keeps (x ∷ xs) ascending = (
  λ y i. let h = in_map f y xs i in ap (before (f x)) h.2 ∙ keeps x h.0 (ascending.0 h.0 h.1),
  ascending_map f first before keeps xs ascending.1,
)

-- the same by places
pub ascending_places : {X : Type 0} (before : X → X → Bool) (xs : List X) → Ascending before xs
    → (i j : ℕ) (x y : X) → i < j → slice_get xs i ≡ Some x → slice_get xs j ≡ Some y → before x y ≡ true
ascending_places before [] ascending i j x y less a b = absurd (none-some x a)
ascending_places before (z ∷ zs) ascending i zero x y less a b = absurd (omega arith)
ascending_places before (z ∷ zs) ascending zero (suc j) x y less a b = ap (λ w. before w y) (sym (same_Some z x a)) ∙ ascending.0 y (in_at zs j y b)
ascending_places before (z ∷ zs) ascending (suc i) (suc j) x y less a b = ascending_places before zs ascending.1 i j x y (omega arith) a b

-- of two elements never does each stand before the other
abbrev pub OneWay : {X : Type 0} → (X → X → Bool) → Type 0
OneWay {X} before = (x y : X) → before x y ≡ true → before y x ≡ true → ⊥

-- the pairs are those of elements of which one stands before the other
pub pairs_ordered : {X : Type 0} (before : X → X → Bool) (p : X × X) (xs : List X) → Ascending before xs → In p (pairs xs) → before p.0 p.1 ≡ true
pairs_ordered before p [] ascending i = absurd i
pairs_ordered {X} before p (x ∷ xs) ascending i =
    let with_x : X → X × X = λ y. (x, y) in
    elim (in_append p (map with_x xs) (pairs xs) i) [
      | inl a ↦ let h = in_map with_x p xs a in ap (λ q. before q.0 q.1) h.2 ∙ ascending.0 h.0 h.1
      | inr b ↦ pairs_ordered before p xs ascending.1 b
    ]

pub ordered_pairs : {X : Type 0} (before : X → X → Bool) → OneWay before → (a b : X) (xs : List X) → Ascending before xs → In a xs → In b xs → before a b ≡ true → In (a, b) (pairs xs)
ordered_pairs before one_way a b [] ascending i j first = absurd i
ordered_pairs {X} before one_way a b (x ∷ xs) ascending (inl e) (inl f) first =
    let itself : before x x ≡ true = ap₂ (λ y z. before y z) (sym e) (sym f) ∙ first in absurd (one_way x x itself itself)
ordered_pairs {X} before one_way a b (x ∷ xs) ascending (inl e) (inr j) first =
    let with_x : X → X × X = λ y. (x, y) in
    in_front (a, b) (map with_x xs) (pairs xs) (in_same (a, b) (x, b) (map with_x xs) (ap (λ y. (y, b)) e) (map_in with_x b xs j))
ordered_pairs before one_way a b (x ∷ xs) ascending (inr i) (inl f) first =
    absurd (one_way a x (ap (before a) (sym f) ∙ first) (ascending.0 a i))
ordered_pairs {X} before one_way a b (x ∷ xs) ascending (inr i) (inr j) first =
    let with_x : X → X × X = λ y. (x, y) in
    in_back (a, b) (map with_x xs) (pairs xs) (ordered_pairs before one_way a b xs ascending.1 i j first)

-- the triples are those of elements that stand in this order
pub triples_pairs : {X : Type 0} (p : X × X × X) (xs : List X) → In p (triples xs) → In (p.0, p.1) (pairs xs) × In (p.1, p.2) (pairs xs)
triples_pairs p [] i = absurd i
triples_pairs {X} p (x ∷ xs) i =
    let with_x : X → X × X = λ y. (x, y) in
    let with_pair : X × X → X × X × X = λ q. (x, q.0, q.1) in
    elim (in_append p (map with_pair (pairs xs)) (triples xs) i) [
      | inl a ↦ let h = in_map with_pair p (pairs xs) a in triple_of x p h.0 xs h.2 h.1
      | inr b ↦ let h = triples_pairs p xs b in
          (in_back (p.0, p.1) (map with_x xs) (pairs xs) h.0, in_back (p.1, p.2) (map with_x xs) (pairs xs) h.1)
    ]
  where
    first_in : (x : X) (q : X × X) (ys : List X) → In q (pairs ys) → In q.0 ys
    first_in x q [] j = absurd j
    first_in x q (y ∷ ys) j =
        let with_y : X → X × X = λ z. (y, z) in
        elim (in_append q (map with_y ys) (pairs ys) j) [
          | inl a ↦ let h = in_map with_y q ys a in inl (ap (λ r. r.0) h.2)
          | inr b ↦ inr (first_in x q ys b)
        ]

    triple_of : (x : X) (p : X × X × X) (q : X × X) (ys : List X) → p ≡ (x, q.0, q.1) → In q (pairs ys) → In (p.0, p.1) (pairs (x ∷ ys)) × In (p.1, p.2) (pairs (x ∷ ys))
    triple_of x p q ys e j =
        let with_x : X → X × X = λ y. (x, y) in
        let make : X × X × X → X × X = λ r. (r.0, r.1) in
        let rest : X × X × X → X × X = λ r. (r.1, r.2) in (
          in_front (p.0, p.1) (map with_x ys) (pairs ys) (in_same (p.0, p.1) (x, q.0) (map with_x ys) (ap make e) (map_in with_x q.0 ys (first_in x q ys j))),
          in_back (p.1, p.2) (map with_x ys) (pairs ys) (in_same (p.1, p.2) q (pairs ys) (ap rest e) j),
        )

pub ordered_triples : {X : Type 0} (before : X → X → Bool) → OneWay before → (a b c : X) (xs : List X) → Ascending before xs → In a xs → In b xs → In c xs
    → before a b ≡ true → before b c ≡ true → In (a, b, c) (triples xs)
ordered_triples before one_way a b c [] ascending i j k first second = absurd i
ordered_triples {X} before one_way a b c (x ∷ xs) ascending i (inl f) k first second = before_first i
  where
    before_first : In a (x ∷ xs) → In (a, b, c) (triples (x ∷ xs))
    before_first (inl e) = let itself : before x x ≡ true = ap₂ (λ y z. before y z) (sym e) (sym f) ∙ first in absurd (one_way x x itself itself)
    before_first (inr i) = absurd (one_way a x (ap (before a) (sym f) ∙ first) (ascending.0 a i))
ordered_triples {X} before one_way a b c (x ∷ xs) ascending i (inr j) (inl g) first second =
    absurd (one_way b x (ap (before b) (sym g) ∙ second) (ascending.0 b j))
ordered_triples {X} before one_way a b c (x ∷ xs) ascending (inl e) (inr j) (inr k) first second =
    let with_pair : X × X → X × X × X = λ q. (x, q.0, q.1) in
    in_front (a, b, c) (map with_pair (pairs xs)) (triples xs)
    (in_same (a, b, c) (x, b, c) (map with_pair (pairs xs)) (ap (λ y. (y, b, c)) e) (map_in with_pair (b, c) (pairs xs) (ordered_pairs before one_way b c xs ascending.1 j k second)))
ordered_triples {X} before one_way a b c (x ∷ xs) ascending (inr i) (inr j) (inr k) first second =
    let with_pair : X × X → X × X × X = λ q. (x, q.0, q.1) in
    in_back (a, b, c) (map with_pair (pairs xs)) (triples xs) (ordered_triples before one_way a b c xs ascending.1 i j k first second)

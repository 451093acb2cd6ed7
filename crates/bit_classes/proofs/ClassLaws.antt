-- The classes of a list are those that are found when it is seen in order.
use Rattle.std.proofs.Common.{◌≡◌, refl, sym, ap, ◌∙◌, subst, ℕ, ◌+◌, ◌<◌, Bool, true, false, ◌||◌, ◌==◌, List, [], ◌∷◌, ◌++◌, length, map, filter, inl, inr, arith}
use Rattle.std.specs.List.{list_any, position_or_len, enumerate_from}
use Rattle.std.proofs.lemmas.List.{append_assoc, append-nil, length_push}
use Rattle.std.proofs.lemmas.Bool.{cases_Bool, false≢true}
use Rattle.std.proofs.lemmas.Bool.Decides.{nat_tests}
use Rattle.bit_rows.specs.Bits.{same_bits}
use Rattle.bit_rows.proofs.PackLaws.{same_bits_decides}
use Rattle.bit_classes.specs.declared.class.Class.{Class}
use Rattle.bit_classes.specs.Classes.{class_of, stands_first, classes_of}
use Rattle.bit_classes.specs.Walk.{is_known, with_vectors}
use Rattle.bit_classes.proofs.WalkLaws.{known_stays, new_stays}

or_assoc : (a b c : Bool) → (a || (b || c)) ≡ ((a || b) || c)
or_assoc true b c = refl
or_assoc false b c = refl

-- some element of two lists
any-append : {X : Type 0} (test : X → Bool) (xs ys : List X) → list_any test (xs ++ ys) ≡ (list_any test xs || list_any test ys)
any-append test [] ys = refl
any-append test (x ∷ xs) ys = ap (λ r. test x || r) (any-append test xs ys) ∙ or_assoc (test x) (list_any test xs) (list_any test ys)

or_false : (b : Bool) → (b || false) ≡ b
or_false true = refl
or_false false = refl

pub any-push : {X : Type 0} (test : X → Bool) (xs : List X) (y : X) → list_any test (xs ++ y ∷ []) ≡ (list_any test xs || test y)
any-push test xs y = any-append test xs (y ∷ []) ∙ ap (λ r. list_any test xs || r) (or_false (test y))

-- the first place in a list, by whether a front has one
position_there : {X : Type 0} (test : X → Bool) (xs ys : List X) → list_any test xs ≡ true → position_or_len test (xs ++ ys) < length xs
position_there test [] ys any = absurd (false≢true any)
position_there test (x ∷ xs) ys any =
    elim (cases_Bool (test x)) [
      | inl t ↦ rw t (omega arith)
      | inr f ↦ let rest = position_there test xs ys (rw f at any) in rw f (omega (arith, rest))
    ]

position_after : {X : Type 0} (test : X → Bool) (xs : List X) (y : X) (ys : List X) → list_any test xs ≡ false → test y ≡ true → position_or_len test (xs ++ y ∷ ys) ≡ length xs
position_after test [] y ys none here = rw here refl
position_after test (x ∷ xs) y ys none here =
    elim (cases_Bool (test x)) [
      | inl t ↦ absurd (false≢true (sym none ∙ rw t refl))
      | inr f ↦ let rest = position_after test xs y ys (rw f at none) here in rw (f, rest) (omega arith)
    ]

not_place : (m n : ℕ) → m < n → (m == n) ≡ false
not_place m n less = grind (arith, nat_tests)

own_place : (m n : ℕ) → m ≡ n → (m == n) ≡ true
own_place m n same = grind (arith, nat_tests)

-- the classes know what was seen
Know : List Class → List (List Bool) → Type 0
Know classes seen = (x : List Bool) → is_known classes x ≡ list_any (same_bits x) seen

or_known : (b c : Bool) → (c ≡ true → b ≡ true) → b ≡ (b || c)
or_known true c so = refl
or_known false true so = so refl
or_known false false so = refl

same_itself : (v : List Bool) → same_bits v v ≡ true
same_itself v = (same_bits_decides v v).1 refl

-- what is seen again is known already
know_again : (classes : List Class) (seen : List (List Bool)) (v : List Bool) → Know classes seen → list_any (same_bits v) seen ≡ true → Know classes (seen ++ v ∷ [])
unfolding Know
know_again classes seen v know again x =
    let P : List Bool → Type 0 = λ y. list_any (same_bits y) seen ≡ true in
    know x ∙ or_known (list_any (same_bits x) seen) (same_bits x v) (λ same. subst P (sym ((same_bits_decides x v).0 same)) again) ∙ sym (any-push (same_bits x) seen v)

-- what is new is known afterwards
know_more : (classes : List Class) (seen : List (List Bool)) (n : ℕ) (v : List Bool) → Know classes seen → Know (classes ++ class_of (n, v) ∷ []) (seen ++ v ∷ [])
unfolding Know
know_more classes seen n v know x =
    any-push (λ c. same_bits x c.bits) classes (class_of (n, v)) ∙ ap (λ r. r || same_bits x v) (know x) ∙ sym (any-push (same_bits x) seen v)

-- after a front of a list was seen, the rest adds the vectors that stand there first
seen_in_order : (all seen rest : List (List Bool)) (classes : List Class) (n : ℕ) → all ≡ seen ++ rest → n ≡ length seen → Know classes seen
    → with_vectors classes (enumerate_from n rest) ≡ classes ++ map class_of (filter (stands_first all) (enumerate_from n rest))
unfolding Know
seen_in_order all seen [] classes n split long know = sym (append-nil classes)
seen_in_order all seen (v ∷ rest) classes n split long know =
    let next = n + 1 in
    let split_more : all ≡ (seen ++ v ∷ []) ++ rest = split ∙ sym (append_assoc seen (v ∷ []) rest) in
    let long_more : next ≡ length (seen ++ v ∷ []) = omega (arith, long, length_push seen v) in
    elim (cases_Bool (list_any (same_bits v) seen)) [
      | inl again ↦
          let before = position_there (same_bits v) seen (v ∷ rest) again in
          let later : stands_first all (n, v) ≡ false = rw split (not_place (position_or_len (same_bits v) (seen ++ v ∷ rest)) n (omega (arith, before, long))) in
          let rest_is = seen_in_order all (seen ++ v ∷ []) rest classes next split_more long_more (know_again classes seen v know again) in
          ap (λ cs. with_vectors cs (enumerate_from next rest)) (known_stays classes n v (know v ∙ again)) ∙ rest_is ∙ rw later refl
      | inr new ↦
          let here = position_after (same_bits v) seen v rest new (same_itself v) in
          let first : stands_first all (n, v) ≡ true = rw split (own_place (position_or_len (same_bits v) (seen ++ v ∷ rest)) n (here ∙ sym long)) in
          let rest_is = seen_in_order all (seen ++ v ∷ []) rest (classes ++ class_of (n, v) ∷ []) next split_more long_more (know_more classes seen n v know) in
          ap (λ cs. with_vectors cs (enumerate_from next rest)) (new_stays classes n v (know v ∙ new)) ∙ rest_is ∙ append_assoc classes (class_of (n, v) ∷ []) _ ∙ rw first refl
    ]

-- the classes of a list are those that are found when it is seen in order
pub classes_seen : (vectors : List (List Bool)) → with_vectors [] (enumerate_from 0 vectors) ≡ classes_of vectors
unfolding Know
classes_seen vectors = seen_in_order vectors [] vectors [] 0 refl refl (λ x. refl)

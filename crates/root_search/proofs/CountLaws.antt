-- Bags of rows by counts: which numbers say that some rows, or their first copies, are an output.
use Rattle.std.proofs.Common.{◌≡◌, refl, sym, ap, ◌∙◌, ℕ, ◌+◌, ◌<◌, ◌≤◌, Bool, true, false, not, cond, ◌&&◌, ◌==◌, List, [], ◌∷◌, ◌++◌, length, inl, inr, arith}
use Rattle.std.specs.Prelude.{count_by, nat_lt, nat_le, filter, ◌||◌, if◌then◌else◌}
use Rattle.std.specs.List.{list_all, list_any, sum_by}
use Rattle.std.proofs.lemmas.Bool.{and_parts, and_from, cases_Bool, or_cases, eqb-true, eq-eqb, ltb-true, lt-ltb, leb-true, le-leb, not_from_true, false≢true}
use Rattle.std.proofs.lemmas.List.Sums.{sum_by-cons, count_by-le-length, length-filter}
use Rattle.predicate_core.proofs.OnceLists.{In, Once, in_append}
use Rattle.table_core.specs.Rows.{Row}
use Rattle.table_core.specs.Bag.{same_cells, count, same_rows, has_double}
use Rattle.table_core.proofs.BagLaws.{same_cells_decides}
use Rattle.query_core.specs.Firsts.{firsts}
use Rattle.query_laws.proofs.MemberLaws.{in_back}
use Rattle.query_laws.proofs.FirstCopyLaws.{in_firsts, once_firsts, firsts_single}
use Rattle.query_laws.proofs.AscendingLists.{all_of, of_all}
use Rattle.map_walk.proofs.RowCountLaws.{both_same, firsts_in, counted}
use Rattle.root_search.proofs.RowCountLaws.{found, bag_counts, in_first, in_second}

-- whether a row is among some rows
abbrev among : List Row → Row → Bool
among ys x = list_any (λ y. same_cells x y) ys

in_among : (ys : List Row) (x : Row) → In x ys → among ys x ≡ true
in_among [] x i = absurd i
in_among (y ∷ ys) x (inl e) = rw ((same_cells_decides x y).1 e) refl
in_among (y ∷ ys) x (inr i) = let later = in_among ys x i in elim (cases_Bool (same_cells x y)) [ inl here ↦ rw here refl | inr other ↦ rw (other, later) refl ]

among_in : (ys : List Row) (x : Row) → among ys x ≡ true → In x ys
among_in [] x is = absurd (false≢true is)
among_in (y ∷ ys) x is =
    elim (or_cases (same_cells x y) (among ys x) is) [
      | inl here ↦ inl ((same_cells_decides x y).0 here)
      | inr later ↦ inr (among_in ys x later)
    ]

-- a sum of two functions is the sum of their sums
sum_both : (f g : Row → ℕ) (xs : List Row) → sum_by (λ x. f x + g x) xs ≡ sum_by f xs + sum_by g xs
sum_both f g [] = refl
sum_both f g (x ∷ xs) = omega (arith, sum_by-cons (λ y. f y + g y) x xs, sum_by-cons f x xs, sum_by-cons g x xs, sum_both f g xs)

-- sums of what two functions give are the same where they give the same
sums_agree : (f g : Row → ℕ) (xs : List Row) → ((x : Row) → In x xs → f x ≡ g x) → sum_by f xs ≡ sum_by g xs
sums_agree f g [] same = refl
sums_agree f g (x ∷ xs) same = sum_by-cons f x xs ∙ rw (same x (inl refl), sums_agree f g xs (λ y i. same y (inr i))) (sym (sum_by-cons g x xs))

sum_zero : (xs : List Row) → sum_by (λ x. 0) xs ≡ 0
sum_zero [] = refl
sum_zero (x ∷ xs) = omega (arith, sum_by-cons (λ y. 0) x xs, sum_zero xs)

-- one row is counted once among rows that stand once, if it is among them
once_count : (ys : List Row) (x : Row) → Once ys → sum_by (λ y. cond (same_cells x y) 1 0) ys ≡ cond (among ys x) 1 0
once_count [] x once = refl
once_count (y ∷ ys) x once =
    let next = sum_by-cons (λ z. cond (same_cells x z) 1 0) y ys in
    let rest = once_count ys x once.1 in
    elim (cases_Bool (same_cells x y)) [
      | inl here ↦
          let e : x ≡ y = (same_cells_decides x y).0 here in
          let last : among ys x ≡ false = elim (cases_Bool (among ys x)) as (λ w. among ys x ≡ false) [
            | inl later ↦ absurd (once.0 (let i = among_in ys x later in rw e at i))
            | inr apart ↦ apart
          ] in
          next ∙ rw (rest, here, last) refl
      | inr other ↦ next ∙ rw (rest, other) (omega arith)
    ]

-- the places of rows that stand once, together, are those of the rows that are among them
pub places_together : (xs ys : List Row) → Once ys → sum_by (count xs) ys ≡ count_by (among ys) xs
places_together [] ys once = sum_zero ys
places_together (x ∷ xs) ys once =
    sums_agree (count (x ∷ xs)) (λ y. cond (same_cells x y) 1 0 + count xs y) ys (λ y i. sum_by-cons (λ r. cond (same_cells r y) 1 0) x xs)
    ∙ sum_both (λ y. cond (same_cells x y) 1 0) (count xs) ys
    ∙ ap (λ n. n + sum_by (count xs) ys) (once_count ys x once)
    ∙ ap (λ n. cond (among ys x) 1 0 + n) (places_together xs ys once)
    ∙ sym (sum_by-cons (λ r. cond (among ys r) 1 0) x xs)

-- where each row is among others, all are counted; and where all are counted, each row is
all_counted : (p : Row → Bool) (xs : List Row) → ((x : Row) → In x xs → p x ≡ true) → count_by p xs ≡ length xs
all_counted p [] each = refl
all_counted p (x ∷ xs) each = sum_by-cons (λ r. cond (p r) 1 0) x xs ∙ rw (each x (inl refl), all_counted p xs (λ y i. each y (inr i))) (omega arith)

counted_all : (p : Row → Bool) (xs : List Row) (x : Row) → count_by p xs ≡ length xs → In x xs → p x ≡ true
counted_all p [] x all i = absurd i
counted_all p (y ∷ ys) x all i =
    let next = sum_by-cons (λ r. cond (p r) 1 0) y ys in
    let most = count_by-le-length p ys in
    elim (cases_Bool (p y)) [
      | inl holds ↦
          let rest : count_by p ys ≡ length ys = let h = rw (next, holds) at all in omega (arith, h) in
          elim i [ inl e ↦ ap p e ∙ holds | inr later ↦ counted_all p ys x rest later ]
      | inr fails ↦ absurd (let h = rw (next, fails) at all in omega (arith, h, most))
    ]

-- the rows of the first copies of an output, together
pub within : (xs ys : List Row) → ((x : Row) → In x xs → In x ys) → sum_by (count xs) (firsts ys) ≡ length xs
within xs ys each = places_together xs (firsts ys) (once_firsts ys) ∙ all_counted (among (firsts ys)) xs (λ x i. in_among (firsts ys) x (in_firsts x ys (each x i)))

pub are_within : (xs ys : List Row) (x : Row) → sum_by (count xs) (firsts ys) ≡ length xs → In x xs → In x ys
are_within xs ys x all i =
    firsts_in x ys (among_in (firsts ys) x (counted_all (among (firsts ys)) xs x (sym (places_together xs (firsts ys) (once_firsts ys)) ∙ all) i))

-- no more of them are in places of first copies than there are
pub within_most : (xs ys : List Row) → sum_by (count xs) (firsts ys) ≤ length xs
within_most xs ys = rw (places_together xs (firsts ys) (once_firsts ys)) (count_by-le-length (among (firsts ys)) xs)

-- each of the rows that give an output, with or without removal of duplicates, is one of the output's
pub given_within : (distinct : Bool) (xs ys : List Row) → ((not distinct || has_double xs) && same_rows (if distinct then firsts xs else xs) ys) ≡ true → (x : Row) → In x xs → In x ys
given_within true xs ys given x i = in_second (firsts xs) ys x (and_parts (has_double xs) (same_rows (firsts xs) ys) given).1 (in_firsts x xs i)
given_within false xs ys given x i = in_second xs ys x given i

-- rows that are one bag have the same places of each first copy, and are as many
bag_firsts : (xs ys : List Row) → same_rows xs ys ≡ true → (y : Row) → In y (firsts ys) → count xs y ≡ count ys y
bag_firsts xs ys bag y i = bag_counts xs ys y bag (in_back y xs ys (firsts_in y ys i))

pub bag_length : (xs ys : List Row) → same_rows xs ys ≡ true → length xs ≡ length ys
bag_length xs ys bag =
    sym (within xs ys (λ x i. in_second xs ys x bag i))
    ∙ sums_agree (count xs) (count ys) (firsts ys) (bag_firsts xs ys bag)
    ∙ within ys ys (λ x i. i)

-- rows within others that have the same places of each of those are one bag with them
bag_from : (xs ys : List Row) → ((x : Row) → In x xs → In x ys) → ((y : Row) → In y ys → count xs y ≡ count ys y) → same_rows xs ys ≡ true
bag_from xs ys each same = all_of (λ r. count xs r == count ys r) (xs ++ ys) (λ r i. eq-eqb _ _ (same r (elim (in_append r xs ys i) [ inl a ↦ each r a | inr b ↦ b ])))

-- rows are an output where they are as many, and have as many places of each row of it
abbrev pub all_counts : ℕ → ℕ → (Row → ℕ) → List Row → Bool
all_counts wanted total found ys = (total == wanted) && list_all (λ y. found y == count ys y) (firsts ys)

all_counts_from : (xs ys : List Row) → same_rows xs ys ≡ true → all_counts (length ys) (length xs) (count xs) ys ≡ true
all_counts_from xs ys bag =
    and_from _ _ (eq-eqb _ _ (bag_length xs ys bag)) (all_of (λ y. count xs y == count ys y) (firsts ys) (λ y i. eq-eqb _ _ (bag_firsts xs ys bag y i)))

all_counts_to : (xs ys : List Row) → all_counts (length ys) (length xs) (count xs) ys ≡ true → same_rows xs ys ≡ true
all_counts_to xs ys given =
    let parts = and_parts (length xs == length ys) (list_all (λ y. count xs y == count ys y) (firsts ys)) given in
    let each : (y : Row) → In y (firsts ys) → count xs y ≡ count ys y = λ y i. eqb-true _ _ (of_all (λ r. count xs r == count ys r) y (firsts ys) parts.1 i) in
    let whole : sum_by (count xs) (firsts ys) ≡ length xs =
    sums_agree (count xs) (count ys) (firsts ys) each ∙ within ys ys (λ x i. i) ∙ sym (eqb-true _ _ parts.0) in
    bag_from xs ys (λ x i. are_within xs ys x whole i) (λ y i. each y (in_firsts y ys i))

pub all_by_counts : (xs ys : List Row) → same_rows xs ys ≡ all_counts (length ys) (length xs) (count xs) ys
all_by_counts xs ys = both_same _ _ (all_counts_from xs ys) (all_counts_to xs ys)

-- a row that stands once among others has one place there
one_place : (xs : List Row) (x : Row) → Once xs → In x xs → count xs x ≡ 1
one_place xs x once i = once_place xs x once (in_among xs x i)
  where
    flip : (a b : Row) → same_cells a b ≡ same_cells b a
    flip a b = both_same _ _ (λ e. (same_cells_decides b a).1 (sym ((same_cells_decides a b).0 e))) (λ e. (same_cells_decides a b).1 (sym ((same_cells_decides b a).0 e)))

    once_place : (ys : List Row) (y : Row) → Once ys → among ys y ≡ true → count ys y ≡ 1
    once_place ys y single here = sums_agree (λ r. cond (same_cells r y) 1 0) (λ r. cond (same_cells y r) 1 0) ys (λ r i. ap (λ b. cond b 1 0) (flip r y)) ∙ once_count ys y single ∙ rw here refl

-- rows with a double have fewer first copies
kept_most : (p : Row → Bool) (xs : List Row) → length (filter p xs) ≤ length xs
kept_most p xs = rw (length-filter p xs) (count_by-le-length p xs)

firsts_most : (xs : List Row) → length (firsts xs) ≤ length xs
firsts_most [] = omega arith
firsts_most (x ∷ xs) = omega (arith, kept_most (λ r. not (same_cells r x)) (firsts xs), firsts_most xs)

kept_fewer : (p : Row → Bool) (xs : List Row) (x : Row) → In x xs → p x ≡ false → length (filter p xs) < length xs
kept_fewer p [] x i fails = absurd i
kept_fewer p (y ∷ ys) x (inl e) fails = let out : p y ≡ false = ap p (sym e) ∙ fails in rw out (omega (arith, kept_most p ys))
kept_fewer p (y ∷ ys) x (inr i) fails =
    let rest = kept_fewer p ys x i fails in
    elim (cases_Bool (p y)) [ inl kept ↦ rw kept (omega (arith, rest)) | inr out ↦ rw out (omega (arith, rest)) ]

any_same : (xs : List Row) (x : Row) → list_any (λ r. same_cells r x) xs ≡ true → In x xs
any_same [] x is = absurd (false≢true is)
any_same (y ∷ ys) x is =
    elim (or_cases (same_cells y x) (list_any (λ r. same_cells r x) ys) is) [
      | inl here ↦ inl (sym ((same_cells_decides y x).0 here))
      | inr later ↦ inr (any_same ys x later)
    ]

pub double_fewer : (xs : List Row) → has_double xs ≡ true → length (firsts xs) < length xs
double_fewer [] is = absurd (false≢true is)
double_fewer (x ∷ xs) is =
    elim (or_cases (list_any (λ r. same_cells r x) xs) (has_double xs) is) [
      | inl again ↦
          let fewer = kept_fewer (λ r. not (same_cells r x)) (firsts xs) x (in_firsts x xs (any_same xs x again)) (not_from_true _ ((same_cells_decides x x).1 refl)) in
          omega (arith, fewer, firsts_most xs)
      | inr later ↦ omega (arith, kept_most (λ r. not (same_cells r x)) (firsts xs), double_fewer xs later)
    ]

-- the first copies of rows with a double are an output where more rows are than it has, each of them in it, and each of its rows once
abbrev pub first_counts : ℕ → ℕ → (Row → ℕ) → List Row → Bool
first_counts wanted total found ys = nat_lt wanted total && ((total == sum_by found (firsts ys)) && list_all (λ y. nat_le 1 (found y) && (count ys y == 1)) (firsts ys))

first_counts_from : (xs ys : List Row) → (has_double xs && same_rows (firsts xs) ys) ≡ true → first_counts (length ys) (length xs) (count xs) ys ≡ true
first_counts_from xs ys given =
    let parts = and_parts (has_double xs) (same_rows (firsts xs) ys) given in
    let fewer : length ys < length xs = omega (arith, bag_length (firsts xs) ys parts.1, double_fewer xs parts.0) in
    let into : (x : Row) → In x xs → In x ys = λ x i. in_second (firsts xs) ys x parts.1 (in_firsts x xs i) in
    let back : (y : Row) → In y ys → In y (firsts xs) = λ y i. in_first (firsts xs) ys y parts.1 i in
    and_from _ _ (lt-ltb _ _ fewer) (and_from _ _ (eq-eqb _ _ (sym (within xs ys into)))
    (all_of (λ y. nat_le 1 (count xs y) && (count ys y == 1)) (firsts ys) (λ y i.
    let j = back y (firsts_in y ys i) in
    and_from _ _ (le-leb _ _ (counted y xs (firsts_in y xs j))) (eq-eqb _ _ (sym (bag_firsts (firsts xs) ys parts.1 y i) ∙ one_place (firsts xs) y (once_firsts xs) j)))))

first_counts_to : (xs ys : List Row) → first_counts (length ys) (length xs) (count xs) ys ≡ true → (has_double xs && same_rows (firsts xs) ys) ≡ true
first_counts_to xs ys given =
    let each_one = list_all (λ y. nat_le 1 (count xs y) && (count ys y == 1)) (firsts ys) in
    let more = and_parts (nat_lt (length ys) (length xs)) ((length xs == sum_by (count xs) (firsts ys)) && each_one) given in
    let parts = and_parts (length xs == sum_by (count xs) (firsts ys)) each_one more.1 in
    let fewer : length ys < length xs = ltb-true _ _ more.0 in
    let whole : sum_by (count xs) (firsts ys) ≡ length xs = sym (eqb-true _ _ parts.0) in
    let each : (y : Row) → In y ys → (1 ≤ count xs y) × (count ys y ≡ 1) = λ y i.
    let h = and_parts (nat_le 1 (count xs y)) (count ys y == 1) (of_all (λ r. nat_le 1 (count xs r) && (count ys r == 1)) y (firsts ys) parts.1 (in_firsts y ys i)) in
    (leb-true _ _ h.0, eqb-true _ _ h.1) in
    let bag : same_rows (firsts xs) ys ≡ true = bag_from (firsts xs) ys (λ x i. are_within xs ys x whole (firsts_in x xs i))
    (λ y i. one_place (firsts xs) y (once_firsts xs) (in_firsts y xs (found y xs (each y i).0)) ∙ sym (each y i).1) in
    let double : has_double xs ≡ true = elim (cases_Bool (has_double xs)) as (λ w. has_double xs ≡ true) [
      | inl some ↦ some
      | inr none ↦ absurd (let e = bag_length (firsts xs) ys bag in let f : length (firsts xs) ≡ length xs = ap length (firsts_single xs none) in omega (arith, e, f, fewer))
    ] in
    and_from _ _ double bag

pub firsts_by_counts : (xs ys : List Row) → (has_double xs && same_rows (firsts xs) ys) ≡ first_counts (length ys) (length xs) (count xs) ys
firsts_by_counts xs ys = both_same _ _ (first_counts_from xs ys) (first_counts_to xs ys)

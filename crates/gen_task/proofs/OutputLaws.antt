-- What the query gives fits the output's columns and has at most 16 rows, so a number's task is within its limits.
use Rattle.std.proofs.Common.{◌≡◌, refl, ℕ, zero, suc, ◌+◌, ◌-◌, ◌*◌, ◌<◌, ◌≤◌, Bool, true, not, List, [], ◌∷◌, ◌++◌, map, flat_map, length, Option, Some, None, if◌then◌else◌, inl, inr, arith}
use Rattle.std.specs.Prelude.{filter}
use Rattle.std.specs.List.{range_with_len, list_all}
use Rattle.std.proofs.lemmas.Bool.{cases_Bool, false≢true, le-leb}
use Rattle.std.proofs.lemmas.List.{length-append, length-map}
use Rattle.std.proofs.lemmas.List.Folds.{list_all-append, list_all-map}
use Rattle.value_core.specs.Value.{same, compare}
use Rattle.value_core.specs.declared.value.Value.{Value}
use Rattle.value_core.specs.declared.comparison.CmpOp.TheVariants.{Eq, Gt}
use Rattle.value_core.specs.declared.comparison.Truth.{Truth}
use Rattle.value_core.proofs.ValueLaws.{same_decides}
use Rattle.predicate_core.specs.Truth.{both, is_yes, keeps}
use Rattle.predicate_core.specs.declared.atom.Atom.TheVariants.{Cols, Const}
use Rattle.predicate_core.specs.declared.pred.Pred.{Pred}
use Rattle.predicate_core.specs.declared.pred.Pred.TheVariants.{And2}
use Rattle.table_core.specs.Rows.{Row, are_typed, fits_columns}
use Rattle.table_core.specs.Limits.{are_inputs_within, is_output_within, are_constants_within, first_bad_number, first_bad_part}
use Rattle.query_core.specs.Firsts.{projected}
use Rattle.query_core.specs.Joins.{kept_pairs, joined}
use Rattle.gen_task.specs.Draws.{draw, state_after}
use Rattle.gen_task.specs.Made.{whole, row_a, row_b, rows_a, rows_b, columns_a, columns_b, columns_out, rows_out, inputs, constants, made}

-- the query's condition, and its columns
abbrev condition : Pred
condition = And2 (Cols 1 Eq 3) (Const 2 Gt 0)

abbrev picks : List ℕ
picks = 0 ∷ 4 ∷ []

-- ---- types

pub typed_a : (x : ℕ) → are_typed columns_a (rows_a x) ≡ true
unfolding rows_a row_a
typed_a x = refl

pub typed_b : (x : ℕ) → are_typed columns_b (rows_b x) ≡ true
unfolding rows_b row_b
typed_b x = refl

-- whether a pair, projected, may stand in the output
abbrev fits_out : Row → Bool
fits_out pair = fits_columns columns_out (projected picks pair)

pair_fits : (x y i j : ℕ) → fits_out (row_a x i ++ row_b y j) ≡ true
unfolding row_a row_b
pair_fits x y i j = refl

-- a test that each of some pairs passes, passed by those that are kept
kept_pass : (test keep : Row → Bool) (f : ℕ → Row) (h : Row → Row) → ((j : ℕ) → test (h (f j)) ≡ true) → (at n : ℕ) → list_all test (filter keep (map h (map f (range_with_len at n)))) ≡ true
kept_pass test keep f h pass at zero = refl
kept_pass test keep f h pass at (suc n) =
    elim (cases_Bool (keep (h (f at)))) [
      | inl kept ↦ rw (kept, pass at) (kept_pass test keep f h pass (at + 1) n)
      | inr left ↦ rw left (kept_pass test keep f h pass (at + 1) n)
    ]

all_pass : (test : Row → Bool) (pairs : Row → List Row) (f : ℕ → Row) → ((i : ℕ) → list_all test (pairs (f i)) ≡ true) → (at n : ℕ) → list_all test (flat_map pairs (map f (range_with_len at n))) ≡ true
all_pass test pairs f pass at zero = refl
all_pass test pairs f pass at (suc n) =
    rw (list_all-append test (pairs (f at)) (flat_map pairs (map f (range_with_len (at + 1) n))), pass at) (all_pass test pairs f pass (at + 1) n)

typed_pairs : (ks : List Value) (x y : ℕ) → list_all fits_out (joined ks condition (rows_a x) (rows_b y)) ≡ true
unfolding rows_a rows_b
typed_pairs ks x y =
    all_pass fits_out (kept_pairs ks condition (rows_b y)) (row_a x) (λ i. kept_pass fits_out (keeps ks condition) (row_b y) (λ r. row_a x i ++ r) (pair_fits x y i) 0 16) 1 16

pub typed_out : (number : ℕ) → are_typed columns_out (rows_out (inputs number) (constants number)) ≡ true
unfolding rows_out
typed_out number =
    let pairs = joined (constants number) condition (rows_a number) (rows_b (state_after number 32)) in
    rw (list_all-map (fits_columns columns_out) (projected picks) pairs) (typed_pairs (constants number) number (state_after number 32))

-- ---- at most one row of `b` goes with a row of `a`

compared_same : (m n : ℕ) (t : Truth) → is_yes (both (compare Eq (whole m) (whole n)) t) ≡ true → same (whole m) (whole n) ≡ true
compared_same m n t e =
    elim (cases_Bool (same (whole m) (whole n))) [
      | inl equal ↦ equal
      | inr other ↦ absurd (false≢true (rw other at e))
    ]

whole_same : (m n : ℕ) → same (whole m) (whole n) ≡ true → m ≡ n
whole_same m n e = let equal = (same_decides (whole m) (whole n)).0 e in cc

-- a pair that is kept is of one group
kept_group : (ks : List Value) (x y i j : ℕ) → keeps ks condition (row_a x i ++ row_b y j) ≡ true → draw x (2 * i - 1) 16 ≡ j
unfolding row_a row_b
kept_group ks x y i j e = whole_same (draw x (2 * i - 1) 16) j (compared_same (draw x (2 * i - 1) 16) j _ e)

-- no row behind the group is kept
none_kept : (keep : Row → Bool) (f : ℕ → Row) (h : Row → Row) (group : ℕ) → ((j : ℕ) → keep (h (f j)) ≡ true → group ≡ j) → (at n : ℕ) → group < at → length (filter keep (map h (map f (range_with_len at n)))) ≡ 0
none_kept keep f h group is at zero behind = refl
none_kept keep f h group is at (suc n) behind =
    elim (cases_Bool (keep (h (f at)))) [
      | inl kept ↦ let here = is at kept in absurd (omega arith)
      | inr left ↦ rw left (none_kept keep f h group is (at + 1) n (omega arith))
    ]

one_kept : (keep : Row → Bool) (f : ℕ → Row) (h : Row → Row) (group : ℕ) → ((j : ℕ) → keep (h (f j)) ≡ true → group ≡ j) → (at n : ℕ) → length (filter keep (map h (map f (range_with_len at n)))) ≤ 1
one_kept keep f h group is at zero = omega arith
one_kept keep f h group is at (suc n) =
    elim (cases_Bool (keep (h (f at)))) [
      | inl kept ↦
          let here = is at kept in
          let rest = none_kept keep f h group is (at + 1) n (omega arith) in
          rw (kept, rest) (omega arith)
      | inr left ↦ rw left (one_kept keep f h group is (at + 1) n)
    ]

few_joined : (pairs : Row → List Row) (f : ℕ → Row) → ((i : ℕ) → length (pairs (f i)) ≤ 1) → (at n : ℕ) → length (flat_map pairs (map f (range_with_len at n))) ≤ n
few_joined pairs f few at zero = omega arith
few_joined pairs f few at (suc n) =
    let here = few at in
    let rest = few_joined pairs f few (at + 1) n in
    rw (length-append (pairs (f at)) (flat_map pairs (map f (range_with_len (at + 1) n)))) (omega arith)

few_pairs : (ks : List Value) (x y : ℕ) → length (joined ks condition (rows_a x) (rows_b y)) ≤ 16
unfolding rows_a rows_b
few_pairs ks x y =
    few_joined (kept_pairs ks condition (rows_b y)) (row_a x) (λ i. one_kept (keeps ks condition) (row_b y) (λ r. row_a x i ++ r) (draw x (2 * i - 1) 16) (kept_group ks x y i) 0 16) 1 16

few_out : (number : ℕ) → length (rows_out (inputs number) (constants number)) ≤ 64
unfolding rows_out
few_out number =
    let pairs = joined (constants number) condition (rows_a number) (rows_b (state_after number 32)) in
    let few = few_pairs (constants number) number (state_after number 32) in
    rw (length-map pairs (projected picks)) (omega arith)

-- ---- the limits

inputs_within : (number : ℕ) → are_inputs_within (inputs number) ≡ true
unfolding rows_a rows_b
inputs_within number = refl

output_within : (number : ℕ) → is_output_within (made number).output ≡ true
output_within number = rw (le-leb (length (rows_out (inputs number) (constants number))) 64 (few_out number)) refl

-- where no test in turn fails, nothing is found
all_within : (b c d : Bool) (o : Option ℕ) → b ≡ true → c ≡ true → d ≡ true → o ≡ None → (if not b then Some 1 else (if not c then Some 2 else (if not d then Some 3 else o))) ≡ None
all_within b c d o e f g h = rw (e, f, g) h

pub made_within : (number : ℕ) → first_bad_part (made number) ≡ None
made_within number =
    all_within (are_inputs_within (inputs number)) (is_output_within (made number).output) (are_constants_within (constants number)) (first_bad_number (made number))
    (inputs_within number) (output_within number) refl refl

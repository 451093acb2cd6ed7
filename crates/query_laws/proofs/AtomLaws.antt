-- Which atoms a hole's list has, and that each stands before each later one.
use Rattle.std.proofs.Common.{◌≡◌, refl, sym, ap, ap₂, subst, ◌∙◌, ℕ, zero, suc, ◌+◌, ◌<◌, Bool, true, false, nat_lt, if◌then◌else◌, ◌⊎◌, inl, inr, List, [], ◌∷◌, ◌++◌, map, length, arith}
use Rattle.std.specs.Ordering.{nat_cmp, is_lt}
use Rattle.std.specs.Cmp.Lexicographic.{slice_cmp}
use Rattle.std.proofs.lemmas.Bool.{false≢true, and_parts, and_from, ltb-true, lt-ltb}
use Rattle.std.proofs.lemmas.Cmp.{tied_itself, nat_cmp_total}
use Rattle.value_core.specs.Value.{same_type, is_of_type}
use Rattle.value_core.specs.declared.value.Value.{Value}
use Rattle.value_core.specs.declared.value.ColType.{ColType}
use Rattle.value_core.specs.declared.comparison.CmpOp.{CmpOp}
use Rattle.value_core.specs.declared.comparison.CmpOp.TheVariants.{Eq, Ne, Lt, Le, Gt, Ge}
use Rattle.predicate_core.specs.Truth.{value_at}
use Rattle.predicate_core.specs.Equal.{op_number}
use Rattle.predicate_core.specs.Atoms.{comparisons, column_with_columns, columns_compared, column_with_constants, constants_compared, null_tests, atom_list}
use Rattle.predicate_core.specs.declared.atom.Atom.{Atom}
use Rattle.predicate_core.specs.declared.atom.Atom.TheVariants.{Cols, Const, IsNull, NotNull}
use Rattle.predicate_core.proofs.OnceLists.{In, in_append, in_map}
use Rattle.query_core.specs.Meaning.{type_at}
use Rattle.query_core.specs.Columns.{atom_in_range, atom_agrees}
use Rattle.query_core.specs.Membership.{columns_ascend, atom_before}
use Rattle.query_laws.specs.Laws.{AtomsAscend}
use Rattle.query_laws.proofs.MemberLaws.{in_front, in_back, map_in}
use Rattle.query_laws.proofs.AscendingLists.{Ascending, ascending_places, ascending_by_test, ascending_append, ascending_map}

-- the six comparisons of two places where they may be compared
abbrev block : (CmpOp → Atom) → Bool → List Atom
block make b = if b then map make comparisons else []

in_block : (make : CmpOp → Atom) (b : Bool) (a : Atom) → In a (block make b) → (op : CmpOp) × (a ≡ make op) × (b ≡ true)
in_block make true a i = let h = in_map make a comparisons i in (h.0, h.2, refl)
in_block make false a i = absurd i

op_listed : (op : CmpOp) → In op comparisons
op_listed Eq = inl refl
op_listed Ne = inr (inl refl)
op_listed Lt = inr (inr (inl refl))
op_listed Le = inr (inr (inr (inl refl)))
op_listed Gt = inr (inr (inr (inr (inl refl))))
op_listed Ge = inr (inr (inr (inr (inr (inl refl)))))

block_in : (make : CmpOp → Atom) (b : Bool) (op : CmpOp) → b ≡ true → In (make op) (block make b)
block_in make true op e = map_in make op comparisons (op_listed op)
block_in make false op e = absurd (false≢true e)

-- a column with the later columns

in_column_with_columns : (i : ℕ) (t : ColType) (j : ℕ) (us : List ColType) (a : Atom) → In a (column_with_columns i t j us)
    → (op : CmpOp) × (k l : ℕ) × (a ≡ Cols i op k) × (k ≡ j + l) × (l < length us) × (same_type t (type_at us l) ≡ true)
in_column_with_columns i t j [] a here = absurd here
in_column_with_columns i t j (u ∷ us) a here =
    elim (in_append a (block (λ op. Cols i op j) (same_type t u)) (column_with_columns i t (j + 1) us) here) [
      | inl x ↦ let h = in_block (λ op. Cols i op j) (same_type t u) a x in (h.0, j, zero, h.1, omega arith, omega arith, h.2)
      | inr x ↦ let h = in_column_with_columns i t (j + 1) us a x in (h.0, h.1, suc h.2, h.3, omega (arith, h.4), omega (arith, h.5), h.6)
    ]

column_with_columns_in : (i : ℕ) (t : ColType) (op : CmpOp) (j k l : ℕ) (us : List ColType) → k ≡ j + l → l < length us → same_type t (type_at us l) ≡ true
    → In (Cols i op k) (column_with_columns i t j us)
column_with_columns_in i t op j k l [] e below same = absurd (omega arith)
column_with_columns_in i t op j k zero (u ∷ us) e below same =
    let at : k ≡ j = omega arith in
    in_front (Cols i op k) (block (λ o. Cols i o j) (same_type t u)) (column_with_columns i t (j + 1) us) (rw at (block_in (λ o. Cols i o j) (same_type t u) op same))
column_with_columns_in i t op j k (suc l) (u ∷ us) e below same =
    in_back (Cols i op k) (block (λ o. Cols i o j) (same_type t u)) (column_with_columns i t (j + 1) us) (column_with_columns_in i t op (j + 1) k l us (omega arith) (omega arith) same)

-- each two columns

in_columns_compared : (i : ℕ) (ts : List ColType) (a : Atom) → In a (columns_compared i ts)
    → (op : CmpOp) × (x y m n : ℕ) × (a ≡ Cols x op y) × (x ≡ i + m) × (y ≡ i + n) × (m < n) × (n < length ts) × (same_type (type_at ts m) (type_at ts n) ≡ true)
in_columns_compared i [] a here = absurd here
in_columns_compared i (t ∷ ts) a here =
    elim (in_append a (column_with_columns i t (i + 1) ts) (columns_compared (i + 1) ts) here) [
      | inl x ↦ let h = in_column_with_columns i t (i + 1) ts a x in
          (h.0, i, h.1, zero, suc h.2, h.3, omega arith, omega (arith, h.4), omega arith, omega (arith, h.5), h.6)
      | inr x ↦ let h = in_columns_compared (i + 1) ts a x in
          (h.0, h.1, h.2, suc h.3, suc h.4, h.5, omega (arith, h.6), omega (arith, h.7), omega (arith, h.8), omega (arith, h.9), h.10)
    ]

columns_compared_in : (op : CmpOp) (i x y m n : ℕ) (ts : List ColType) → x ≡ i + m → y ≡ i + n → m < n → n < length ts → same_type (type_at ts m) (type_at ts n) ≡ true
    → In (Cols x op y) (columns_compared i ts)
columns_compared_in op i x y m n [] e f less below same = absurd (omega arith)
columns_compared_in op i x y m zero (t ∷ ts) e f less below same = absurd (omega arith)
columns_compared_in op i x y zero (suc n) (t ∷ ts) e f less below same =
    let at : x ≡ i = omega arith in
    in_front (Cols x op y) (column_with_columns i t (i + 1) ts) (columns_compared (i + 1) ts)
    (rw at (column_with_columns_in i t op (i + 1) y n ts (omega arith) (omega arith) same))
columns_compared_in op i x y (suc m) (suc n) (t ∷ ts) e f less below same =
    in_back (Cols x op y) (column_with_columns i t (i + 1) ts) (columns_compared (i + 1) ts)
    (columns_compared_in op (i + 1) x y m n ts (omega arith) (omega arith) (omega arith) (omega arith) same)

-- a column with the constants

in_column_with_constants : (i : ℕ) (t : ColType) (k : ℕ) (cs : List Value) (a : Atom) → In a (column_with_constants i t k cs)
    → (op : CmpOp) × (x l : ℕ) × (a ≡ Const i op x) × (x ≡ k + l) × (l < length cs) × (is_of_type t (value_at cs l) ≡ true)
in_column_with_constants i t k [] a here = absurd here
in_column_with_constants i t k (c ∷ cs) a here =
    elim (in_append a (block (λ op. Const i op k) (is_of_type t c)) (column_with_constants i t (k + 1) cs) here) [
      | inl x ↦ let h = in_block (λ op. Const i op k) (is_of_type t c) a x in (h.0, k, zero, h.1, omega arith, omega arith, h.2)
      | inr x ↦ let h = in_column_with_constants i t (k + 1) cs a x in (h.0, h.1, suc h.2, h.3, omega (arith, h.4), omega (arith, h.5), h.6)
    ]

column_with_constants_in : (i : ℕ) (t : ColType) (op : CmpOp) (k x l : ℕ) (cs : List Value) → x ≡ k + l → l < length cs → is_of_type t (value_at cs l) ≡ true
    → In (Const i op x) (column_with_constants i t k cs)
column_with_constants_in i t op k x l [] e below same = absurd (omega arith)
column_with_constants_in i t op k x zero (c ∷ cs) e below same =
    let at : x ≡ k = omega arith in
    in_front (Const i op x) (block (λ o. Const i o k) (is_of_type t c)) (column_with_constants i t (k + 1) cs) (rw at (block_in (λ o. Const i o k) (is_of_type t c) op same))
column_with_constants_in i t op k x (suc l) (c ∷ cs) e below same =
    in_back (Const i op x) (block (λ o. Const i o k) (is_of_type t c)) (column_with_constants i t (k + 1) cs) (column_with_constants_in i t op (k + 1) x l cs (omega arith) (omega arith) same)

-- each column with the constants

in_constants_compared : (i : ℕ) (cs : List Value) (ts : List ColType) (a : Atom) → In a (constants_compared i cs ts)
    → (op : CmpOp) × (x y m : ℕ) × (a ≡ Const x op y) × (x ≡ i + m) × (m < length ts) × (y < length cs) × (is_of_type (type_at ts m) (value_at cs y) ≡ true)
in_constants_compared i cs [] a here = absurd here
in_constants_compared i cs (t ∷ ts) a here =
    elim (in_append a (column_with_constants i t 0 cs) (constants_compared (i + 1) cs ts) here) [
      | inl x ↦ let h = in_column_with_constants i t 0 cs a x in
          let same : h.2 ≡ h.1 = omega (arith, h.4) in
          (h.0, i, h.1, zero, h.3, omega arith, omega arith, omega (arith, h.5, same), subst (λ z. is_of_type t (value_at cs z) ≡ true) same h.6)
      | inr x ↦ let h = in_constants_compared (i + 1) cs ts a x in (h.0, h.1, h.2, suc h.3, h.4, omega (arith, h.5), omega (arith, h.6), h.7, h.8)
    ]

constants_compared_in : (op : CmpOp) (i x y m : ℕ) (cs : List Value) (ts : List ColType) → x ≡ i + m → m < length ts → y < length cs → is_of_type (type_at ts m) (value_at cs y) ≡ true
    → In (Const x op y) (constants_compared i cs ts)
constants_compared_in op i x y m cs [] e below within same = absurd (omega arith)
constants_compared_in op i x y zero cs (t ∷ ts) e below within same =
    let at : x ≡ i = omega arith in
    in_front (Const x op y) (column_with_constants i t 0 cs) (constants_compared (i + 1) cs ts) (rw at (column_with_constants_in i t op 0 y y cs (omega arith) within same))
constants_compared_in op i x y (suc m) cs (t ∷ ts) e below within same =
    in_back (Const x op y) (column_with_constants i t 0 cs) (constants_compared (i + 1) cs ts) (constants_compared_in op (i + 1) x y m cs ts (omega arith) (omega arith) within same)

-- the tests for NULL

in_null_tests : (i : ℕ) (ts : List ColType) (a : Atom) → In a (null_tests i ts) → (x m : ℕ) × ((a ≡ IsNull x) ⊎ (a ≡ NotNull x)) × (x ≡ i + m) × (m < length ts)
in_null_tests i [] a here = absurd here
in_null_tests i (t ∷ ts) a (inl e) = (i, zero, inl e, omega arith, omega arith)
in_null_tests i (t ∷ ts) a (inr (inl e)) = (i, zero, inr e, omega arith, omega arith)
in_null_tests i (t ∷ ts) a (inr (inr x)) = let h = in_null_tests (i + 1) ts a x in (h.0, suc h.1, h.2, omega (arith, h.3), omega (arith, h.4))

null_tests_in : (i x m : ℕ) (ts : List ColType) → x ≡ i + m → m < length ts → In (IsNull x) (null_tests i ts) × In (NotNull x) (null_tests i ts)
null_tests_in i x m [] e below = absurd (omega arith)
null_tests_in i x zero (t ∷ ts) e below = let at : x ≡ i = omega arith in (inl (ap IsNull at), inr (inl (ap NotNull at)))
null_tests_in i x (suc m) (t ∷ ts) e below = let h = null_tests_in (i + 1) x m ts (omega arith) (omega arith) in (inr (inr h.0), inr (inr h.1))

-- an atom by itself: its numbers are in range, its types agree, and of two columns the earlier is the first
abbrev pub AtomFits : List ColType → List Value → Atom → Type 0
AtomFits types constants a = (atom_in_range (length types) (length constants) a ≡ true) × (atom_agrees types constants a ≡ true) × (columns_ascend a ≡ true)

module _ (types : List ColType) (constants : List Value) where
  columns_fit : (a : Atom) → In a (columns_compared 0 types) → AtomFits types constants a
  columns_fit a i =
      let h = in_columns_compared 0 types a i in
      let left : h.3 ≡ h.1 = omega (arith, h.6) in
      let right : h.4 ≡ h.2 = omega (arith, h.7) in
      let low : h.1 < length types = omega (arith, h.8, h.9, left) in
      let high : h.2 < length types = omega (arith, h.9, right) in
      let less : h.1 < h.2 = omega (arith, h.8, left, right) in
      let same : same_type (type_at types h.1) (type_at types h.2) ≡ true = ap₂ (λ m n. same_type (type_at types m) (type_at types n)) (sym left) (sym right) ∙ h.10 in
      subst (AtomFits types constants) (sym h.5)
      (and_from (nat_lt h.1 (length types)) (nat_lt h.2 (length types)) (lt-ltb h.1 (length types) low) (lt-ltb h.2 (length types) high), same, lt-ltb h.1 h.2 less)

  constants_fit : (a : Atom) → In a (constants_compared 0 constants types) → AtomFits types constants a
  constants_fit a i =
      let h = in_constants_compared 0 constants types a i in
      let left : h.3 ≡ h.1 = omega (arith, h.5) in
      let low : h.1 < length types = omega (arith, h.6, left) in
      let same : is_of_type (type_at types h.1) (value_at constants h.2) ≡ true = ap (λ m. is_of_type (type_at types m) (value_at constants h.2)) (sym left) ∙ h.8 in
      subst (AtomFits types constants) (sym h.4)
      (and_from (nat_lt h.1 (length types)) (nat_lt h.2 (length constants)) (lt-ltb h.1 (length types) low) (lt-ltb h.2 (length constants) h.7), same, refl)

  nulls_fit : (a : Atom) → In a (null_tests 0 types) → AtomFits types constants a
  nulls_fit a i =
      let h = in_null_tests 0 types a i in
      let low : h.0 < length types = omega (arith, h.3, h.4) in
      elim h.2 [
        | inl e ↦ subst (AtomFits types constants) (sym e) (lt-ltb h.0 (length types) low, refl, refl)
        | inr e ↦ subst (AtomFits types constants) (sym e) (lt-ltb h.0 (length types) low, refl, refl)
      ]

  -- the listed atoms are those that fit
  pub atoms_fit : (a : Atom) → In a (atom_list types constants) → AtomFits types constants a
  atoms_fit a i =
      elim (in_append a (columns_compared 0 types ++ constants_compared 0 constants types) (null_tests 0 types) i) [
        | inl front ↦ elim (in_append a (columns_compared 0 types) (constants_compared 0 constants types) front) [ inl x ↦ columns_fit a x | inr x ↦ constants_fit a x ]
        | inr x ↦ nulls_fit a x
      ]

  front_listed : (a : Atom) → In a (columns_compared 0 types ++ constants_compared 0 constants types) → In a (atom_list types constants)
  front_listed a i = in_front a (columns_compared 0 types ++ constants_compared 0 constants types) (null_tests 0 types) i

  back_listed : (a : Atom) → In a (null_tests 0 types) → In a (atom_list types constants)
  back_listed a i = in_back a (columns_compared 0 types ++ constants_compared 0 constants types) (null_tests 0 types) i

  pub atoms_listed : (a : Atom) → AtomFits types constants a → In a (atom_list types constants)
  atoms_listed (Cols i op j) fits =
      let range = and_parts (nat_lt i (length types)) (nat_lt j (length types)) fits.0 in
      front_listed (Cols i op j) (in_front (Cols i op j) (columns_compared 0 types) (constants_compared 0 constants types)
      (columns_compared_in op 0 i j i j types (omega arith) (omega arith) (ltb-true i j fits.2) (ltb-true j (length types) range.1) fits.1))
  atoms_listed (Const i op k) fits =
      let range = and_parts (nat_lt i (length types)) (nat_lt k (length constants)) fits.0 in
      front_listed (Const i op k) (in_back (Const i op k) (columns_compared 0 types) (constants_compared 0 constants types)
      (constants_compared_in op 0 i k i constants types (omega arith) (ltb-true i (length types) range.0) (ltb-true k (length constants) range.1) fits.1))
  atoms_listed (IsNull i) fits = back_listed (IsNull i) (null_tests_in 0 i i types (omega arith) (ltb-true i (length types) fits.0)).0
  atoms_listed (NotNull i) fits = back_listed (NotNull i) (null_tests_in 0 i i types (omega arith) (ltb-true i (length types) fits.0)).1

-- lists of numbers in order by their first numbers, or by the later ones
less_first : (i k : ℕ) (xs ys : List ℕ) → i < k → is_lt (slice_cmp nat_cmp (i ∷ xs) (k ∷ ys)) ≡ true
less_first i k xs ys less = rw (lt-ltb i k less) refl

less_later : (i : ℕ) (xs ys : List ℕ) → is_lt (slice_cmp nat_cmp xs ys) ≡ true → is_lt (slice_cmp nat_cmp (i ∷ xs) (i ∷ ys)) ≡ true
less_later i xs ys less = rw (tied_itself nat_cmp_total i) less

pub by_second : (g i k : ℕ) (xs ys : List ℕ) → i < k → is_lt (slice_cmp nat_cmp (g ∷ i ∷ xs) (g ∷ k ∷ ys)) ≡ true
by_second g i k xs ys less = less_later g (i ∷ xs) (k ∷ ys) (less_first i k xs ys less)

by_third : (g i j k : ℕ) (xs ys : List ℕ) → j < k → is_lt (slice_cmp nat_cmp (g ∷ i ∷ j ∷ xs) (g ∷ i ∷ k ∷ ys)) ≡ true
by_third g i j k xs ys less = less_later g (i ∷ j ∷ xs) (i ∷ k ∷ ys) (by_second i j k xs ys less)

by_fourth : (g i j m n : ℕ) → m < n → is_lt (slice_cmp nat_cmp (g ∷ i ∷ j ∷ m ∷ []) (g ∷ i ∷ j ∷ n ∷ [])) ≡ true
by_fourth g i j m n less = less_later g (i ∷ j ∷ m ∷ []) (i ∷ j ∷ n ∷ []) (by_third i j m n [] [] less)

-- what stands at the end of an atom's key
abbrev ends : ℕ → CmpOp → List ℕ
ends j op = j ∷ op_number op ∷ []

-- the order of atoms that are these
before_by : (a b c d : Atom) → a ≡ c → b ≡ d → atom_before c d ≡ true → atom_before a b ≡ true
before_by a b c d e f is = ap₂ (λ x y. atom_before x y) e f ∙ is

abbrev op_before : CmpOp → CmpOp → Bool
op_before a b = nat_lt (op_number a) (op_number b)

-- the six comparisons ascend
block_ascends : (make : CmpOp → Atom) (b : Bool) → ((o p : CmpOp) → op_before o p ≡ true → atom_before (make o) (make p) ≡ true) → Ascending atom_before (block make b)
block_ascends make true keeps = ascending_map make op_before atom_before keeps comparisons (ascending_by_test op_before comparisons refl)
block_ascends make false keeps = tt

columns_by_op : (i j : ℕ) (o p : CmpOp) → op_before o p ≡ true → atom_before (Cols i o j) (Cols i p j) ≡ true
columns_by_op i j o p less = by_fourth 0 i j (op_number o) (op_number p) (ltb-true (op_number o) (op_number p) less)

constants_by_op : (i j : ℕ) (o p : CmpOp) → op_before o p ≡ true → atom_before (Const i o j) (Const i p j) ≡ true
constants_by_op i j o p less = by_fourth 1 i j (op_number o) (op_number p) (ltb-true (op_number o) (op_number p) less)

column_with_columns_ascends : (i : ℕ) (t : ColType) (j : ℕ) (us : List ColType) → Ascending atom_before (column_with_columns i t j us)
column_with_columns_ascends i t j [] = tt
column_with_columns_ascends i t j (u ∷ us) =
    ascending_append atom_before (block (λ op. Cols i op j) (same_type t u)) (column_with_columns i t (j + 1) us)
    (block_ascends (λ op. Cols i op j) (same_type t u) (columns_by_op i j)) (column_with_columns_ascends i t (j + 1) us)
    (λ a b x y.
    let h = in_block (λ op. Cols i op j) (same_type t u) a x in
    let g = in_column_with_columns i t (j + 1) us b y in
    before_by a b (Cols i h.0 j) (Cols i g.0 g.1) h.1 g.3 (by_third 0 i j g.1 (op_number h.0 ∷ []) (op_number g.0 ∷ []) (omega (arith, g.4))))

columns_compared_ascends : (i : ℕ) (ts : List ColType) → Ascending atom_before (columns_compared i ts)
columns_compared_ascends i [] = tt
columns_compared_ascends i (t ∷ ts) =
    ascending_append atom_before (column_with_columns i t (i + 1) ts) (columns_compared (i + 1) ts) (column_with_columns_ascends i t (i + 1) ts) (columns_compared_ascends (i + 1) ts)
    (λ a b x y.
    let h = in_column_with_columns i t (i + 1) ts a x in
    let g = in_columns_compared (i + 1) ts b y in
    before_by a b (Cols i h.0 h.1) (Cols g.1 g.0 g.2) h.3 g.5 (by_second 0 i g.1 (ends h.1 h.0) (ends g.2 g.0) (omega (arith, g.6))))

column_with_constants_ascends : (i : ℕ) (t : ColType) (k : ℕ) (cs : List Value) → Ascending atom_before (column_with_constants i t k cs)
column_with_constants_ascends i t k [] = tt
column_with_constants_ascends i t k (c ∷ cs) =
    ascending_append atom_before (block (λ op. Const i op k) (is_of_type t c)) (column_with_constants i t (k + 1) cs)
    (block_ascends (λ op. Const i op k) (is_of_type t c) (constants_by_op i k)) (column_with_constants_ascends i t (k + 1) cs)
    (λ a b x y.
    let h = in_block (λ op. Const i op k) (is_of_type t c) a x in
    let g = in_column_with_constants i t (k + 1) cs b y in
    before_by a b (Const i h.0 k) (Const i g.0 g.1) h.1 g.3 (by_third 1 i k g.1 (op_number h.0 ∷ []) (op_number g.0 ∷ []) (omega (arith, g.4))))

constants_compared_ascends : (i : ℕ) (cs : List Value) (ts : List ColType) → Ascending atom_before (constants_compared i cs ts)
constants_compared_ascends i cs [] = tt
constants_compared_ascends i cs (t ∷ ts) =
    ascending_append atom_before (column_with_constants i t 0 cs) (constants_compared (i + 1) cs ts) (column_with_constants_ascends i t 0 cs) (constants_compared_ascends (i + 1) cs ts)
    (λ a b x y.
    let h = in_column_with_constants i t 0 cs a x in
    let g = in_constants_compared (i + 1) cs ts b y in
    before_by a b (Const i h.0 h.1) (Const g.1 g.0 g.2) h.3 g.4 (by_second 1 i g.1 (ends h.1 h.0) (ends g.2 g.0) (omega (arith, g.5))))

-- a test for NULL stands before those of later columns
before_nulls : (i k : ℕ) (a b : Atom) → a ≡ IsNull i ⊎ a ≡ NotNull i → b ≡ IsNull k ⊎ b ≡ NotNull k → i < k → atom_before a b ≡ true
before_nulls i k a b (inl e) (inl f) less = before_by a b (IsNull i) (IsNull k) e f (by_second 2 i k (0 ∷ 0 ∷ []) (0 ∷ 0 ∷ []) less)
before_nulls i k a b (inl e) (inr f) less = before_by a b (IsNull i) (NotNull k) e f (by_second 2 i k (0 ∷ 0 ∷ []) (1 ∷ 0 ∷ []) less)
before_nulls i k a b (inr e) (inl f) less = before_by a b (NotNull i) (IsNull k) e f (by_second 2 i k (1 ∷ 0 ∷ []) (0 ∷ 0 ∷ []) less)
before_nulls i k a b (inr e) (inr f) less = before_by a b (NotNull i) (NotNull k) e f (by_second 2 i k (1 ∷ 0 ∷ []) (1 ∷ 0 ∷ []) less)

null_tests_ascend : (i : ℕ) (ts : List ColType) → Ascending atom_before (null_tests i ts)
null_tests_ascend i [] = tt
null_tests_ascend i (t ∷ ts) = (
  λ y here. elim here [
    | inl e ↦ before_by (IsNull i) y (IsNull i) (NotNull i) refl e (by_third 2 i 0 1 (0 ∷ []) (0 ∷ []) (omega arith))
    | inr x ↦ later (IsNull i) (inl refl) y x
  ],
  (λ y here. later (NotNull i) (inr refl) y here, null_tests_ascend (i + 1) ts),
)
  where
    later : (a : Atom) → a ≡ IsNull i ⊎ a ≡ NotNull i → (y : Atom) → In y (null_tests (i + 1) ts) → atom_before a y ≡ true
    later a is y x = let h = in_null_tests (i + 1) ts y x in before_nulls i h.0 a y is h.2 (omega (arith, h.3))

-- a comparison stands before each test for NULL
before_null : (a b : Atom) (x : ℕ) → ((k : ℕ) → (atom_before a (IsNull k) ≡ true) × (atom_before a (NotNull k) ≡ true)) → b ≡ IsNull x ⊎ b ≡ NotNull x → atom_before a b ≡ true
before_null a b x first (inl e) = ap (atom_before a) e ∙ (first x).0
before_null a b x first (inr e) = ap (atom_before a) e ∙ (first x).1

-- each atom of the list stands before each later one
pub atoms_ascending : (types : List ColType) (constants : List Value) → Ascending atom_before (atom_list types constants)
atoms_ascending types constants =
    ascending_append atom_before (columns_compared 0 types ++ constants_compared 0 constants types) (null_tests 0 types)
    (ascending_append atom_before (columns_compared 0 types) (constants_compared 0 constants types) (columns_compared_ascends 0 types) (constants_compared_ascends 0 constants types) between)
    (null_tests_ascend 0 types) last
  where
    between : (a b : Atom) → In a (columns_compared 0 types) → In b (constants_compared 0 constants types) → atom_before a b ≡ true
    between a b x y =
        let h = in_columns_compared 0 types a x in
        let g = in_constants_compared 0 constants types b y in
        before_by a b (Cols h.1 h.0 h.2) (Const g.1 g.0 g.2) h.5 g.4 refl

    last : (a b : Atom) → In a (columns_compared 0 types ++ constants_compared 0 constants types) → In b (null_tests 0 types) → atom_before a b ≡ true
    last a b x y =
        let g = in_null_tests 0 types b y in
        elim (in_append a (columns_compared 0 types) (constants_compared 0 constants types) x) [
          | inl z ↦ let h = in_columns_compared 0 types a z in
              ap (λ c. atom_before c b) h.5 ∙ before_null (Cols h.1 h.0 h.2) b g.0 (λ k. (refl, refl)) g.2
          | inr z ↦ let h = in_constants_compared 0 constants types a z in
              ap (λ c. atom_before c b) h.4 ∙ before_null (Const h.1 h.0 h.2) b g.0 (λ k. (refl, refl)) g.2
        ]

-- the same by places
pub atoms_ascend : (types : List ColType) (constants : List Value) → AtomsAscend types constants
atoms_ascend types constants = ascending_places atom_before (atom_list types constants) (atoms_ascending types constants)

-- Each atom stands once in the list of atoms, and each predicate once in the list of predicates.
use Rattle.std.proofs.Common.{◌≡◌, refl, sym, ap, ◌∙◌, ℕ, ◌+◌, ◌<◌, ◌≤◌, Bool, true, false, ◌==◌, nat_le, if◌then◌else◌, Decides, inl, inr, List, [], ◌∷◌, ◌++◌, map, arith}
use Rattle.std.specs.List.{list_any}
use Rattle.std.proofs.lemmas.Bool.{false≢true, cases_Bool}
use Rattle.value_core.specs.declared.value.Value.{Value}
use Rattle.value_core.specs.declared.value.ColType.{ColType}
use Rattle.value_core.specs.declared.comparison.CmpOp.{CmpOp}
use Rattle.value_core.specs.declared.comparison.CmpOp.TheVariants.{Eq, Ne, Lt, Le, Gt, Ge}
use Rattle.value_core.specs.Value.{same_type, is_of_type}
use Rattle.predicate_core.specs.declared.atom.Atom.{Atom}
use Rattle.predicate_core.specs.declared.atom.Atom.TheVariants.{Cols, Const, IsNull, NotNull}
use Rattle.predicate_core.specs.declared.pred.Pred.{Pred}
use Rattle.predicate_core.specs.declared.pred.Pred.TheVariants.{Always, One, And2, Or2, And3, Or3}
use Rattle.predicate_core.specs.Atoms.{comparisons, column_with_columns, columns_compared, column_with_constants, constants_compared, null_tests, atom_list, pairs, triples, two_atoms, three_atoms, more_atoms, pred_list}
use Rattle.predicate_core.specs.Equal.{op_number, same_pred}
use Rattle.predicate_core.specs.Laws.{EachOnce, PredsOnce, NumberedByPlace}
use Rattle.predicate_core.proofs.OnceLists.{In, Once, in_append, in_map, once_append, once_map, each_once, once_by_places, position_once, once_pairs, once_triples}
use Rattle.predicate_core.proofs.SameLaws.{same_op_decides, same_pred_decides}

-- an atom's kind, its column, and the column or the constant that it is compared with
kind : Atom → ℕ
kind (Cols i op j) = 0
kind (Const i op k) = 1
kind (IsNull i) = 2
kind (NotNull i) = 3

left : Atom → ℕ
left (Cols i op j) = i
left (Const i op k) = i
left (IsNull i) = i
left (NotNull i) = i

right : Atom → ℕ
right (Cols i op j) = j
right (Const i op k) = k
right (IsNull i) = 0
right (NotNull i) = 0

-- an element that a test finds nowhere isn't in the list
not_in : {X : Type 0} (same : X → X → Bool) → ((a b : X) → Decides (same a b) (a ≡ b)) → (x : X) (xs : List X) → list_any (same x) xs ≡ false → In x xs → ⊥
not_in same decides x [] none i = absurd i
not_in same decides x (y ∷ ys) none (inl e) = let t : same x y ≡ true = (decides x y).1 e in false≢true (sym (rw t at none))
not_in same decides x (y ∷ ys) none (inr i) =
    elim (cases_Bool (same x y)) [
      | inl t ↦ false≢true (sym (rw t at none))
      | inr t ↦ not_in same decides x ys (rw t at none) i
    ]

abbrev same_op : CmpOp → CmpOp → Bool
same_op a b = op_number a == op_number b

once_comparisons : Once comparisons
once_comparisons =
    let no = not_in same_op same_op_decides in
    (no Eq (Ne ∷ Lt ∷ Le ∷ Gt ∷ Ge ∷ []) refl, (no Ne (Lt ∷ Le ∷ Gt ∷ Ge ∷ []) refl, (no Lt (Le ∷ Gt ∷ Ge ∷ []) refl, (no Le (Gt ∷ Ge ∷ []) refl, (no Gt (Ge ∷ []) refl, (λ i. absurd i, tt))))))

-- the six comparisons of two places, or none
once_columns : (b : Bool) (i j : ℕ) → Once (if b then map (λ op. Cols i op j) comparisons else [])
once_columns true i j = once_map (λ op. Cols i op j) (λ a b e. cc) comparisons once_comparisons
once_columns false i j = tt

in_columns : (b : Bool) (i j : ℕ) (a : Atom) → In a (if b then map (λ op. Cols i op j) comparisons else []) → (kind a ≡ 0) × (left a ≡ i) × (right a ≡ j)
unfolding kind left right
in_columns true i j a here = let h = in_map (λ op. Cols i op j) a comparisons here in (ap kind h.2, ap left h.2, ap right h.2)
in_columns false i j a here = absurd here

once_constants : (b : Bool) (i k : ℕ) → Once (if b then map (λ op. Const i op k) comparisons else [])
once_constants true i k = once_map (λ op. Const i op k) (λ a b e. cc) comparisons once_comparisons
once_constants false i k = tt

in_constants : (b : Bool) (i k : ℕ) (a : Atom) → In a (if b then map (λ op. Const i op k) comparisons else []) → (kind a ≡ 1) × (left a ≡ i) × (right a ≡ k)
unfolding kind left right
in_constants true i k a here = let h = in_map (λ op. Const i op k) a comparisons here in (ap kind h.2, ap left h.2, ap right h.2)
in_constants false i k a here = absurd here

-- a column with the later columns
in_column_with_columns : (i : ℕ) (t : ColType) (j : ℕ) (us : List ColType) (a : Atom) → In a (column_with_columns i t j us) → (kind a ≡ 0) × (left a ≡ i) × (j ≤ right a)
in_column_with_columns i t j [] a here = absurd here
in_column_with_columns i t j (u ∷ us) a here =
    elim (in_append a _ (column_with_columns i t (j + 1) us) here) [
      | inl x ↦ let h = in_columns (same_type t u) i j a x in (h.0, h.1, omega (arith, h.2))
      | inr x ↦ let h = in_column_with_columns i t (j + 1) us a x in (h.0, h.1, omega (arith, h.2))
    ]

once_column_with_columns : (i : ℕ) (t : ColType) (j : ℕ) (us : List ColType) → Once (column_with_columns i t j us)
once_column_with_columns i t j [] = tt
once_column_with_columns i t j (u ∷ us) =
    once_append _ (column_with_columns i t (j + 1) us) (once_columns (same_type t u) i j) (once_column_with_columns i t (j + 1) us)
    (λ a x y. let here = in_columns (same_type t u) i j a x in let later = in_column_with_columns i t (j + 1) us a y in omega (arith, here.2, later.2))

in_columns_compared : (i : ℕ) (ts : List ColType) (a : Atom) → In a (columns_compared i ts) → (kind a ≡ 0) × (i ≤ left a)
in_columns_compared i [] a here = absurd here
in_columns_compared i (t ∷ ts) a here =
    elim (in_append a (column_with_columns i t (i + 1) ts) (columns_compared (i + 1) ts) here) [
      | inl x ↦ let h = in_column_with_columns i t (i + 1) ts a x in (h.0, omega (arith, h.1))
      | inr x ↦ let h = in_columns_compared (i + 1) ts a x in (h.0, omega (arith, h.1))
    ]

once_columns_compared : (i : ℕ) (ts : List ColType) → Once (columns_compared i ts)
once_columns_compared i [] = tt
once_columns_compared i (t ∷ ts) =
    once_append (column_with_columns i t (i + 1) ts) (columns_compared (i + 1) ts) (once_column_with_columns i t (i + 1) ts) (once_columns_compared (i + 1) ts)
    (λ a x y. let here = in_column_with_columns i t (i + 1) ts a x in let later = in_columns_compared (i + 1) ts a y in omega (arith, here.1, later.1))

-- a column with the constants
in_column_with_constants : (i : ℕ) (t : ColType) (k : ℕ) (cs : List Value) (a : Atom) → In a (column_with_constants i t k cs) → (kind a ≡ 1) × (left a ≡ i) × (k ≤ right a)
in_column_with_constants i t k [] a here = absurd here
in_column_with_constants i t k (c ∷ cs) a here =
    elim (in_append a _ (column_with_constants i t (k + 1) cs) here) [
      | inl x ↦ let h = in_constants (is_of_type t c) i k a x in (h.0, h.1, omega (arith, h.2))
      | inr x ↦ let h = in_column_with_constants i t (k + 1) cs a x in (h.0, h.1, omega (arith, h.2))
    ]

once_column_with_constants : (i : ℕ) (t : ColType) (k : ℕ) (cs : List Value) → Once (column_with_constants i t k cs)
once_column_with_constants i t k [] = tt
once_column_with_constants i t k (c ∷ cs) =
    once_append _ (column_with_constants i t (k + 1) cs) (once_constants (is_of_type t c) i k) (once_column_with_constants i t (k + 1) cs)
    (λ a x y. let here = in_constants (is_of_type t c) i k a x in let later = in_column_with_constants i t (k + 1) cs a y in omega (arith, here.2, later.2))

in_constants_compared : (i : ℕ) (cs : List Value) (ts : List ColType) (a : Atom) → In a (constants_compared i cs ts) → (kind a ≡ 1) × (i ≤ left a)
in_constants_compared i cs [] a here = absurd here
in_constants_compared i cs (t ∷ ts) a here =
    elim (in_append a (column_with_constants i t 0 cs) (constants_compared (i + 1) cs ts) here) [
      | inl x ↦ let h = in_column_with_constants i t 0 cs a x in (h.0, omega (arith, h.1))
      | inr x ↦ let h = in_constants_compared (i + 1) cs ts a x in (h.0, omega (arith, h.1))
    ]

once_constants_compared : (i : ℕ) (cs : List Value) (ts : List ColType) → Once (constants_compared i cs ts)
once_constants_compared i cs [] = tt
once_constants_compared i cs (t ∷ ts) =
    once_append (column_with_constants i t 0 cs) (constants_compared (i + 1) cs ts) (once_column_with_constants i t 0 cs) (once_constants_compared (i + 1) cs ts)
    (λ a x y. let here = in_column_with_constants i t 0 cs a x in let later = in_constants_compared (i + 1) cs ts a y in omega (arith, here.1, later.1))

-- the tests for NULL
in_null_tests : (i : ℕ) (ts : List ColType) (a : Atom) → In a (null_tests i ts) → (2 ≤ kind a) × (i ≤ left a)
unfolding kind left
in_null_tests i [] a here = absurd here
in_null_tests i (t ∷ ts) a (inl e) = let k = ap kind e in let l = ap left e in (omega (arith, k), omega (arith, l))
in_null_tests i (t ∷ ts) a (inr (inl e)) = let k = ap kind e in let l = ap left e in (omega (arith, k), omega (arith, l))
in_null_tests i (t ∷ ts) a (inr (inr x)) = let h = in_null_tests (i + 1) ts a x in (h.0, omega (arith, h.1))

not_in_later : (i : ℕ) (ts : List ColType) (a : Atom) → left a ≡ i → In a (null_tests (i + 1) ts) → ⊥
not_in_later i ts a e here = let h = in_null_tests (i + 1) ts a here in omega (arith, e, h.1)

once_null_tests : (i : ℕ) (ts : List ColType) → Once (null_tests i ts)
unfolding left
once_null_tests i [] = tt
once_null_tests i (t ∷ ts) = (
  λ here. elim here [ inl e ↦ cc | inr x ↦ not_in_later i ts (IsNull i) refl x ],
  (λ here. not_in_later i ts (NotNull i) refl here, once_null_tests (i + 1) ts),
)

-- each atom stands once in the list of atoms
pub once_atoms : (types : List ColType) (constants : List Value) → Once (atom_list types constants)
once_atoms types constants =
    let columns = columns_compared 0 types in
    let values = constants_compared 0 constants types in
    let front = once_append columns values (once_columns_compared 0 types) (once_constants_compared 0 constants types)
    (λ a x y. let here = in_columns_compared 0 types a x in let later = in_constants_compared 0 constants types a y in omega (arith, here.0, later.0)) in
    once_append (columns ++ values) (null_tests 0 types) front (once_null_tests 0 types)
    (λ a x y. let later = in_null_tests 0 types a y in
    elim (in_append a columns values x) [
      | inl z ↦ let here = in_columns_compared 0 types a z in omega (arith, here.0, later.0)
      | inr z ↦ let here = in_constants_compared 0 constants types a z in omega (arith, here.0, later.0)
    ])

-- a predicate's kind
abbrev pub form : Pred → ℕ
form Always = 0
form (One a) = 1
form (And2 a b) = 2
form (Or2 a b) = 3
form (And3 a b c) = 4
form (Or3 a b c) = 5

-- what a list mapped to one kind has is of that kind
pub in_form : {X : Type 0} (f : X → Pred) (n : ℕ) → ((x : X) → form (f x) ≡ n) → (p : Pred) (xs : List X) → In p (map f xs) → form p ≡ n
in_form f n of p xs here = let h = in_map f p xs here in ap form h.2 ∙ of h.0

-- a list under two functions of different kinds
once_two : {X : Type 0} (f g : X → Pred) (m n : ℕ) → ((x : X) → form (f x) ≡ m) → ((x : X) → form (g x) ≡ n) → m < n → ((a b : X) → f a ≡ f b → a ≡ b) → ((a b : X) → g a ≡ g b → a ≡ b)
    → (xs : List X) → Once xs → Once (map f xs ++ map g xs)
once_two f g m n of_f of_g less apart_f apart_g xs once =
    once_append (map f xs) (map g xs) (once_map f apart_f xs once) (once_map g apart_g xs once)
    (λ p a b. omega (arith, in_form f m of_f p xs a, in_form g n of_g p xs b, less))

in_two : {X : Type 0} (f g : X → Pred) (m n : ℕ) → ((x : X) → form (f x) ≡ m) → ((x : X) → form (g x) ≡ n) → m < n → (p : Pred) (xs : List X) → In p (map f xs ++ map g xs) → (m ≤ form p) × (form p ≤ n)
in_two f g m n of_f of_g less p xs here =
    elim (in_append p (map f xs) (map g xs) here) [
      | inl a ↦ let e = in_form f m of_f p xs a in (omega arith, omega arith)
      | inr b ↦ let e = in_form g n of_g p xs b in (omega arith, omega arith)
    ]

pub and2_same : (p q : Atom × Atom) → And2 p.0 p.1 ≡ And2 q.0 q.1 → p ≡ q
and2_same (a, b) (c, d) e = let x : a ≡ c = cc in let y : b ≡ d = cc in cc

pub or2_same : (p q : Atom × Atom) → Or2 p.0 p.1 ≡ Or2 q.0 q.1 → p ≡ q
or2_same (a, b) (c, d) e = let x : a ≡ c = cc in let y : b ≡ d = cc in cc

pub and3_same : (p q : Atom × Atom × Atom) → And3 p.0 p.1 p.2 ≡ And3 q.0 q.1 q.2 → p ≡ q
and3_same (a, b, c) (d, e, f) s = let x : a ≡ d = cc in let y : b ≡ e = cc in let z : c ≡ f = cc in cc

pub or3_same : (p q : Atom × Atom × Atom) → Or3 p.0 p.1 p.2 ≡ Or3 q.0 q.1 q.2 → p ≡ q
or3_same (a, b, c) (d, e, f) s = let x : a ≡ d = cc in let y : b ≡ e = cc in let z : c ≡ f = cc in cc

pub two_forms : (atoms : List Atom) (p : Pred) → In p (two_atoms atoms) → (2 ≤ form p) × (form p ≤ 3)
two_forms atoms p here = in_two (λ q. And2 q.0 q.1) (λ q. Or2 q.0 q.1) 2 3 (λ q. refl) (λ q. refl) (omega arith) p (pairs atoms) here

once_two_atoms : (atoms : List Atom) → Once atoms → Once (two_atoms atoms)
once_two_atoms atoms once = once_two (λ q. And2 q.0 q.1) (λ q. Or2 q.0 q.1) 2 3 (λ q. refl) (λ q. refl) (omega arith) and2_same or2_same (pairs atoms) (once_pairs atoms once)

pub three_forms : (atoms : List Atom) (p : Pred) → In p (three_atoms atoms) → (4 ≤ form p) × (form p ≤ 5)
three_forms atoms p here = in_two (λ q. And3 q.0 q.1 q.2) (λ q. Or3 q.0 q.1 q.2) 4 5 (λ q. refl) (λ q. refl) (omega arith) p (triples atoms) here

once_three_atoms : (atoms : List Atom) → Once atoms → Once (three_atoms atoms)
once_three_atoms atoms once = once_two (λ q. And3 q.0 q.1 q.2) (λ q. Or3 q.0 q.1 q.2) 4 5 (λ q. refl) (λ q. refl) (omega arith) and3_same or3_same (triples atoms) (once_triples atoms once)

-- a list that may be left out
once_if : {X : Type 0} (b : Bool) (xs : List X) → Once xs → Once (if b then xs else [])
once_if true xs once = once
once_if false xs once = tt

in_if : {X : Type 0} (b : Bool) (x : X) (xs : List X) → In x (if b then xs else []) → In x xs
in_if true x xs here = here
in_if false x xs here = absurd here

pub more_forms : (atoms : List Atom) (bound : ℕ) (p : Pred) → In p (more_atoms atoms bound) → 2 ≤ form p
more_forms atoms bound p here =
    elim (in_append p (if nat_le 2 bound then two_atoms atoms else []) (if nat_le 3 bound then three_atoms atoms else []) here) [
      | inl a ↦ (two_forms atoms p (in_if (nat_le 2 bound) p (two_atoms atoms) a)).0
      | inr b ↦ let h = (three_forms atoms p (in_if (nat_le 3 bound) p (three_atoms atoms) b)).0 in omega arith
    ]

once_more_atoms : (atoms : List Atom) (bound : ℕ) → Once atoms → Once (more_atoms atoms bound)
once_more_atoms atoms bound once =
    once_append (if nat_le 2 bound then two_atoms atoms else []) (if nat_le 3 bound then three_atoms atoms else [])
    (once_if (nat_le 2 bound) (two_atoms atoms) (once_two_atoms atoms once)) (once_if (nat_le 3 bound) (three_atoms atoms) (once_three_atoms atoms once))
    (λ p a b.
    let two = two_forms atoms p (in_if (nat_le 2 bound) p (two_atoms atoms) a) in
    let three = three_forms atoms p (in_if (nat_le 3 bound) p (three_atoms atoms) b) in
    omega (arith, two.1, three.0))

not_always : (p : Pred) → p ≡ Always → 1 ≤ form p → ⊥
not_always p e more = let n : form p ≡ 0 = ap form e in omega arith

-- over distinct atoms each predicate stands once in the list of predicates
pub once_preds : (atoms : List Atom) (bound : ℕ) → Once atoms → Once (pred_list atoms bound)
once_preds atoms bound once =
    let ones = map One atoms in
    let more = more_atoms atoms bound in
    let one_form = λ (p : Pred) (here : In p ones). in_form One 1 (λ a. refl) p atoms here in (
      λ here. elim (in_append Always ones more here) [
        | inl a ↦ let h = one_form Always a in omega (arith, h)
        | inr b ↦ let h = more_forms atoms bound Always b in omega (arith, h)
      ],
      once_append ones more (once_map One (λ a b e. cc) atoms once) (once_more_atoms atoms bound once)
          (λ p a b. omega (arith, one_form p a, more_forms atoms bound p b)),
    )

-- the same by places
pub atoms_once : (types : List ColType) (constants : List Value) → EachOnce (atom_list types constants)
atoms_once types constants = each_once (atom_list types constants) (once_atoms types constants)

pub preds_once : (atoms : List Atom) (bound : ℕ) → PredsOnce atoms bound
preds_once atoms bound each = each_once (pred_list atoms bound) (once_preds atoms bound (once_by_places atoms each))

-- a predicate's number is its place
pub numbered_by_place : (types : List ColType) (constants : List Value) (bound : ℕ) → NumberedByPlace types constants bound
numbered_by_place types constants bound i p at =
    let list = pred_list (atom_list types constants) bound in
    position_once same_pred same_pred_decides list (once_preds (atom_list types constants) bound (once_atoms types constants)) i p at

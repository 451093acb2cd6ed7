-- The rows of each step fit the types of its columns.
use Rattle.std.proofs.Common.{◌≡◌, ℕ, zero, suc, ◌+◌, Bool, true, false, not, ◌&&◌, ◌==◌, List, [], ◌∷◌, ◌++◌, map, length, replicate, Option, Some, None, is_none, option_map, if◌then◌else◌, refl, sym, ap, ◌∙◌, inl, inr, arith, eq-eqb}
use Rattle.std.specs.Prelude.{filter}
use Rattle.std.specs.Cmp.Lexicographic.{pointwise}
use Rattle.std.proofs.lemmas.Bool.{cases_Bool, false≢true}
use Rattle.std.proofs.lemmas.Bool.Decides.{nat_tests}
use Rattle.value_core.specs.Value.{fits, same_type}
use Rattle.value_core.specs.declared.value.Value.{Value}
use Rattle.value_core.specs.declared.value.Value.TheVariants.{Null}
use Rattle.value_core.specs.declared.value.ColType.{ColType}
use Rattle.value_core.specs.declared.value.ColType.TheVariants as kind
use Rattle.predicate_core.specs.Truth.{value_at, keeps}
use Rattle.predicate_core.specs.declared.pred.Pred.{Pred}
use Rattle.table_core.specs.Rows.{Row, are_typed, fits_columns, wrong_cell}
use Rattle.table_core.specs.Bag.{same_cells}
use Rattle.table_core.specs.declared.column.Column.{Column}
use Rattle.table_core.specs.declared.table.PushFault.TheVariants.{Width, WrongType}
use Rattle.query_core.specs.Firsts.{projected, firsts}
use Rattle.query_core.specs.Joins.{pairs_with, kept_pairs, joined, or_padded, left_joined}
use Rattle.query_core.specs.Meaning.{type_at}
use Rattle.bag_eval.specs.Results.{rows_fit, named_columns}

-- a row fits: it has a value for each type
abbrev pub Fits : List ColType → Row → Type 0
Fits [] [] = Unit {0}
Fits [] (v ∷ vs) = ⊥
Fits (t ∷ ts) [] = ⊥
Fits (t ∷ ts) (v ∷ vs) = (fits t v ≡ true) × Fits ts vs

-- each row fits
abbrev pub AllFit : List ColType → List Row → Type 0
AllFit ts [] = Unit {0}
AllFit ts (row ∷ rows) = Fits ts row × AllFit ts rows

-- ---- the test and the fact

pub both_true : (a b : Bool) → (a && b) ≡ true → (a ≡ true) × (b ≡ true)
both_true true b e = (refl, e)
both_true false b e = absurd (false≢true e)

fits_from : (ts : List ColType) (row : Row) → pointwise fits ts row ≡ true → Fits ts row
fits_from [] [] e = tt
fits_from [] (v ∷ vs) e = false≢true e
fits_from (t ∷ ts) [] e = false≢true e
fits_from (t ∷ ts) (v ∷ vs) e = let both = both_true (fits t v) (pointwise fits ts vs) e in (both.0, fits_from ts vs both.1)

fits_to : (ts : List ColType) (row : Row) → Fits ts row → pointwise fits ts row ≡ true
fits_to [] [] f = refl
fits_to [] (v ∷ vs) f = absurd f
fits_to (t ∷ ts) [] f = absurd f
fits_to (t ∷ ts) (v ∷ vs) f = rw (f.0) (fits_to ts vs f.1)

pub all_from : (ts : List ColType) (rows : List Row) → rows_fit ts rows ≡ true → AllFit ts rows
all_from ts [] e = tt
all_from ts (row ∷ rows) e = let both = both_true (pointwise fits ts row) (rows_fit ts rows) e in (fits_from ts row both.0, all_from ts rows both.1)

pub all_to : (ts : List ColType) (rows : List Row) → AllFit ts rows → rows_fit ts rows ≡ true
all_to ts [] f = refl
all_to ts (row ∷ rows) f = rw (fits_to ts row f.0) (all_to ts rows f.1)

-- ---- the rows of a table

none_if : {A : Type 0} (b : Bool) (o : Option A) (x : A) → is_none (if b then o else Some x) ≡ true → (b ≡ true) × (is_none o ≡ true)
none_if true o x e = (refl, e)
none_if false o x e = absurd (false≢true e)

none_mapped : {A B : Type 0} (f : A → B) (o : Option A) → is_none (option_map f o) ≡ is_none o
none_mapped f None = refl
none_mapped f (Some x) = refl

none_wrong : (at : ℕ) (columns : List Column) (row : Row) → length row ≡ length columns → is_none (wrong_cell at columns row) ≡ true → Fits (map (λ c. c.kind) columns) row
none_wrong at [] [] e n = tt
none_wrong at [] (v ∷ vs) e n = absurd (omega arith)
none_wrong at (c ∷ cs) [] e n = absurd (omega arith)
none_wrong at (c ∷ cs) (v ∷ vs) e n = let both = none_if (fits c.kind v) (wrong_cell (at + 1) cs vs) at n in (both.0, none_wrong (at + 1) cs vs (omega arith) both.1)

wrong_none : (at : ℕ) (columns : List Column) (row : Row) → Fits (map (λ c. c.kind) columns) row → (length row ≡ length columns) × (wrong_cell at columns row ≡ None)
wrong_none at [] [] f = (refl, refl)
wrong_none at [] (v ∷ vs) f = absurd f
wrong_none at (c ∷ cs) [] f = absurd f
wrong_none at (c ∷ cs) (v ∷ vs) f = let rest = wrong_none (at + 1) cs vs f.1 in (ap suc rest.0, rw (f.0) rest.1)

eq_from : (m n : ℕ) → (m == n) ≡ true → m ≡ n
eq_from m n e = grind (arith, nat_tests)

columns_from : (columns : List Column) (row : Row) → fits_columns columns row ≡ true → Fits (map (λ c. c.kind) columns) row
columns_from columns row e =
    let both = none_if (length row == length columns) (option_map WrongType (wrong_cell 0 columns row)) (Width (length row)) e in
    none_wrong 0 columns row (eq_from (length row) (length columns) both.0) (sym (none_mapped WrongType (wrong_cell 0 columns row)) ∙ both.1)

columns_to : (columns : List Column) (row : Row) → Fits (map (λ c. c.kind) columns) row → fits_columns columns row ≡ true
columns_to columns row f =
    let both = wrong_none 0 columns row f in
    let same : (length columns == length columns) ≡ true = eq-eqb (length columns) (length columns) refl in
    rw (both.0, both.1, same) refl

-- the rows of a table fit its columns' types
pub typed_from : (columns : List Column) (rows : List Row) → are_typed columns rows ≡ true → AllFit (map (λ c. c.kind) columns) rows
typed_from columns [] e = tt
typed_from columns (row ∷ rows) e = let both = both_true (fits_columns columns row) (are_typed columns rows) e in (columns_from columns row both.0, typed_from columns rows both.1)

typed_to : (columns : List Column) (rows : List Row) → AllFit (map (λ c. c.kind) columns) rows → are_typed columns rows ≡ true
typed_to columns [] f = refl
typed_to columns (row ∷ rows) f = rw (columns_to columns row f.0) (typed_to columns rows f.1)

named_kinds : (number : ℕ) (ts : List ColType) → map (λ c. c.kind) (named_columns number ts) ≡ ts
named_kinds number [] = refl
named_kinds number (t ∷ ts) = ap (λ r. t ∷ r) (named_kinds (number + 1) ts)

-- rows that fit may stand under columns of these types
pub named_typed : (ts : List ColType) (rows : List Row) → rows_fit ts rows ≡ true → are_typed (named_columns 1 ts) rows ≡ true
named_typed ts rows e = typed_to (named_columns 1 ts) rows (rw (named_kinds 1 ts) (all_from ts rows e))

-- ---- filters, joins and unions

pub all-append : (ts : List ColType) (xs ys : List Row) → AllFit ts xs → AllFit ts ys → AllFit ts (xs ++ ys)
all-append ts [] ys f g = g
all-append ts (x ∷ xs) ys f g = (f.0, all-append ts xs ys f.1 g)

pub all-filter : (ts : List ColType) (p : Row → Bool) (rows : List Row) → AllFit ts rows → AllFit ts (filter p rows)
all-filter ts p [] f = tt
all-filter ts p (row ∷ rows) f =
    elim (cases_Bool (p row)) [
      | inl kept ↦ rw kept (f.0, all-filter ts p rows f.1)
      | inr left ↦ rw left (all-filter ts p rows f.1)
    ]

pub fits-append : (ts us : List ColType) (l r : Row) → Fits ts l → Fits us r → Fits (ts ++ us) (l ++ r)
fits-append [] us [] r f g = g
fits-append [] us (v ∷ vs) r f g = absurd f
fits-append (t ∷ ts) us [] r f g = absurd f
fits-append (t ∷ ts) us (v ∷ vs) r f g = (f.0, fits-append ts us vs r f.1 g)

pairs_fit : (ts us : List ColType) (l : Row) (rights : List Row) → Fits ts l → AllFit us rights → AllFit (ts ++ us) (pairs_with rights l)
pairs_fit ts us l [] f g = tt
pairs_fit ts us l (r ∷ rights) f g = (fits-append ts us l r f g.0, pairs_fit ts us l rights f g.1)

kept_fit : (ts us : List ColType) (k : List Value) (p : Pred) (l : Row) (rights : List Row) → Fits ts l → AllFit us rights → AllFit (ts ++ us) (kept_pairs k p rights l)
kept_fit ts us k p l rights f g = all-filter (ts ++ us) (keeps k p) (pairs_with rights l) (pairs_fit ts us l rights f g)

pub joined_fit : (ts us : List ColType) (k : List Value) (p : Pred) (lefts rights : List Row) → AllFit ts lefts → AllFit us rights → AllFit (ts ++ us) (joined k p lefts rights)
joined_fit ts us k p [] rights f g = tt
joined_fit ts us k p (l ∷ lefts) rights f g = all-append (ts ++ us) (kept_pairs k p rights l) (joined k p lefts rights) (kept_fit ts us k p l rights f.0 g) (joined_fit ts us k p lefts rights f.1 g)

pub fits_null : (t : ColType) → fits t Null ≡ true
fits_null kind.Int = refl
fits_null kind.Text = refl

nulls_fit : (ts : List ColType) → Fits ts (replicate (length ts) Null)
nulls_fit [] = tt
nulls_fit (t ∷ ts) = (fits_null t, nulls_fit ts)

padded_fit : (ts us : List ColType) (l : Row) (pairs : List Row) → Fits ts l → AllFit (ts ++ us) pairs → AllFit (ts ++ us) (or_padded (length us) l pairs)
padded_fit ts us l [] f g = (fits-append ts us l (replicate (length us) Null) f (nulls_fit us), tt)
padded_fit ts us l (pair ∷ pairs) f g = g

pub left_fit : (ts us : List ColType) (k : List Value) (p : Pred) (lefts rights : List Row) → AllFit ts lefts → AllFit us rights → AllFit (ts ++ us) (left_joined k p (length us) lefts rights)
left_fit ts us k p [] rights f g = tt
left_fit ts us k p (l ∷ lefts) rights f g =
    all-append (ts ++ us) (or_padded (length us) l (kept_pairs k p rights l)) (left_joined k p (length us) lefts rights)
    (padded_fit ts us l (kept_pairs k p rights l) f.0 (kept_fit ts us k p l rights f.0 g))
    (left_fit ts us k p lefts rights f.1 g)

pub firsts_fit : (ts : List ColType) (rows : List Row) → AllFit ts rows → AllFit ts (firsts rows)
firsts_fit ts [] f = tt
firsts_fit ts (row ∷ rows) f = (f.0, all-filter ts (λ r. not (same_cells r row)) (firsts rows) (firsts_fit ts rows f.1))

type_is : (t u : ColType) → same_type t u ≡ true → t ≡ u
type_is kind.Int kind.Int e = refl
type_is kind.Int kind.Text e = absurd (false≢true e)
type_is kind.Text kind.Int e = absurd (false≢true e)
type_is kind.Text kind.Text e = refl

-- equal types are the same types
pub types_are : (ts us : List ColType) → pointwise same_type ts us ≡ true → ts ≡ us
types_are [] [] e = refl
types_are [] (u ∷ us) e = absurd (false≢true e)
types_are (t ∷ ts) [] e = absurd (false≢true e)
types_are (t ∷ ts) (u ∷ us) e =
    let both = both_true (same_type t u) (pointwise same_type ts us) e in
    rw (type_is t u both.0, types_are ts us both.1) refl

-- ---- projection

pub value_fits : (ts : List ColType) (row : Row) (at : ℕ) → Fits ts row → fits (type_at ts at) (value_at row at) ≡ true
value_fits [] [] at f = refl
value_fits [] (v ∷ vs) at f = absurd f
value_fits (t ∷ ts) [] at f = absurd f
value_fits (t ∷ ts) (v ∷ vs) zero f = f.0
value_fits (t ∷ ts) (v ∷ vs) (suc at) f = value_fits ts vs at f.1

projected_fits : (ts : List ColType) (picks : List ℕ) (row : Row) → Fits ts row → Fits (map (type_at ts) picks) (projected picks row)
projected_fits ts [] row f = tt
projected_fits ts (at ∷ picks) row f = (value_fits ts row at f, projected_fits ts picks row f)

pub selected_fit : (ts : List ColType) (picks : List ℕ) (rows : List Row) → AllFit ts rows → AllFit (map (type_at ts) picks) (map (projected picks) rows)
selected_fit ts picks [] f = tt
selected_fit ts picks (row ∷ rows) f = (projected_fits ts picks row f.0, selected_fit ts picks rows f.1)

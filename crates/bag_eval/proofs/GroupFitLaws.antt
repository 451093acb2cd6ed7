-- The rows of groups fit the types of a group's columns.
use Rattle.std.proofs.Common.{◌≡◌, ℕ, ℤ, Bool, true, false, not, List, [], ◌∷◌, ◌++◌, map, Option, Some, None, option_map, IfSome, if◌then◌else◌, refl, inl, inr}
use Rattle.std.specs.Prelude.{filter}
use Rattle.std.specs.List.{fold}
use Rattle.std.specs.Ordering.{is_lt}
use Rattle.std.proofs.lemmas.Bool.{cases_Bool}
use Rattle.value_core.specs.Value.{fits, order, is_null}
use Rattle.value_core.specs.declared.value.Value.{Value}
use Rattle.value_core.specs.declared.value.Value.TheVariants.{Int}
use Rattle.value_core.specs.declared.value.ColType.{ColType}
use Rattle.value_core.specs.declared.value.ColType.TheVariants as kind
use Rattle.predicate_core.specs.Truth.{value_at}
use Rattle.table_core.specs.Rows.{Row}
use Rattle.table_core.specs.Bag.{same_cells}
use Rattle.query_core.specs.Firsts.{projected}
use Rattle.query_core.specs.Groups.{values_of, is_within_64, sum_of, exact_sum, smaller, larger, smallest, largest, aggregate, group_keys, members, group_row, all_some, grouped}
use Rattle.query_core.specs.Meaning.{type_at, agg_type, group_types}
use Rattle.query_core.specs.declared.agg.Agg.{Agg}
use Rattle.query_core.specs.declared.agg.Agg.TheVariants.{CountAll, Count, CountDistinct, Sum, Min, Max}
use Rattle.bag_eval.proofs.FitLaws.{Fits, AllFit, fits-append, fits_null, value_fits, all-filter, firsts_fit, selected_fit}

-- each value may stand in a column of a type
abbrev ValuesFit : ColType → List Value → Type 0
ValuesFit t [] = Unit {0}
ValuesFit t (v ∷ vs) = (fits t v ≡ true) × ValuesFit t vs

column_fits : (ts : List ColType) (column : ℕ) (rows : List Row) → AllFit ts rows → ValuesFit (type_at ts column) (map (λ row. value_at row column) rows)
column_fits ts column [] f = tt
column_fits ts column (row ∷ rows) f = (value_fits ts row column f.0, column_fits ts column rows f.1)

values-filter : (t : ColType) (p : Value → Bool) (vs : List Value) → ValuesFit t vs → ValuesFit t (filter p vs)
values-filter t p [] f = tt
values-filter t p (v ∷ vs) f =
    elim (cases_Bool (p v)) [
      | inl kept ↦ rw kept (f.0, values-filter t p vs f.1)
      | inr left ↦ rw left (values-filter t p vs f.1)
    ]

values_fit : (ts : List ColType) (column : ℕ) (rows : List Row) → AllFit ts rows → ValuesFit (type_at ts column) (values_of column rows)
values_fit ts column rows f = values-filter (type_at ts column) (λ v. not (is_null v)) (map (λ row. value_at row column) rows) (column_fits ts column rows f)

fits_choice : (t : ColType) (b : Bool) (v w : Value) → fits t v ≡ true → fits t w ≡ true → fits t (if b then v else w) ≡ true
fits_choice t true v w f g = f
fits_choice t false v w f g = g

fold_fits : (t : ColType) (pick : Value → Value → Value) → ((v w : Value) → fits t v ≡ true → fits t w ≡ true → fits t (pick v w) ≡ true) → (v : Value) (vs : List Value) → fits t v ≡ true → ValuesFit t vs → fits t (fold pick v vs) ≡ true
fold_fits t pick keeps v [] f g = f
fold_fits t pick keeps v (w ∷ vs) f g = fold_fits t pick keeps (pick v w) vs (keeps v w f g.0) g.1

smallest_fits : (t : ColType) (vs : List Value) → ValuesFit t vs → fits t (smallest vs) ≡ true
smallest_fits t [] f = fits_null t
smallest_fits t (v ∷ vs) f = fold_fits t smaller (λ a b g h. fits_choice t (is_lt (order b a)) b a h g) v vs f.0 f.1

largest_fits : (t : ColType) (vs : List Value) → ValuesFit t vs → fits t (largest vs) ≡ true
largest_fits t [] f = fits_null t
largest_fits t (v ∷ vs) f = fold_fits t larger (λ a b g h. fits_choice t (is_lt (order a b)) b a h g) v vs f.0 f.1

sum_choice : (b : Bool) (n : ℤ) → IfSome (if b then Some (Int n) else None) (λ v. fits kind.Int v ≡ true)
sum_choice true n = refl
sum_choice false n = tt

sum_fits : (vs : List Value) → IfSome (sum_of vs) (λ v. fits kind.Int v ≡ true)
sum_fits [] = refl
sum_fits (v ∷ vs) = sum_choice (is_within_64 (exact_sum (v ∷ vs))) (exact_sum (v ∷ vs))

aggregate_fits : (ts : List ColType) (agg : Agg) (rows : List Row) → AllFit ts rows → IfSome (aggregate agg rows) (λ v. fits (agg_type ts agg) v ≡ true)
aggregate_fits ts CountAll rows f = refl
aggregate_fits ts (Count column) rows f = refl
aggregate_fits ts (CountDistinct column) rows f = refl
aggregate_fits ts (Sum column) rows f = sum_fits (values_of column rows)
aggregate_fits ts (Min column) rows f = smallest_fits (type_at ts column) (values_of column rows) (values_fit ts column rows f)
aggregate_fits ts (Max column) rows f = largest_fits (type_at ts column) (values_of column rows) (values_fit ts column rows f)

keys_fit : (ts : List ColType) (keys : List ℕ) (rows : List Row) → AllFit ts rows → AllFit (map (type_at ts) keys) (group_keys keys rows)
keys_fit ts [] rows f = (tt, tt)
keys_fit ts (k ∷ ks) rows f = firsts_fit (map (type_at ts) (k ∷ ks)) (map (projected (k ∷ ks)) rows) (selected_fit ts (k ∷ ks) rows f)

with_value : (ts : List ColType) (t : ColType) (key : Row) (o : Option Value) → Fits ts key → IfSome o (λ v. fits t v ≡ true) → IfSome (option_map (λ value. key ++ value ∷ []) o) (Fits (ts ++ t ∷ []))
with_value ts t key None f g = tt
with_value ts t key (Some v) f g = fits-append ts (t ∷ []) key (v ∷ []) f (g, tt)

group_fits : (ts : List ColType) (keys : List ℕ) (agg : Agg) (rows : List Row) (key : Row) → AllFit ts rows → Fits (map (type_at ts) keys) key → IfSome (group_row keys agg rows key) (Fits (group_types ts keys agg))
group_fits ts keys agg rows key f g =
    with_value (map (type_at ts) keys) (agg_type ts agg) key (aggregate agg (members keys rows key)) g
    (aggregate_fits ts agg (members keys rows key) (all-filter ts (λ row. same_cells (projected keys row) key) rows f))

more_some : (ts : List ColType) (row : Option Row) (rest : List (Option Row)) → IfSome row (Fits ts) → IfSome (all_some rest) (AllFit ts) → IfSome (all_some (row ∷ rest)) (AllFit ts)
more_some ts None rest f g = tt
more_some ts (Some row) rest f g = some (all_some rest) g
  where
    some : (o : Option (List Row)) → IfSome o (AllFit ts) → IfSome (option_map (λ xs. row ∷ xs) o) (AllFit ts)
    some None h = tt
    some (Some rows) h = (f, h)

rows_of_keys : (ts : List ColType) (keys : List ℕ) (agg : Agg) (rows found : List Row) → AllFit ts rows → AllFit (map (type_at ts) keys) found → IfSome (all_some (map (group_row keys agg rows) found)) (AllFit (group_types ts keys agg))
rows_of_keys ts keys agg rows [] f g = tt
rows_of_keys ts keys agg rows (key ∷ found) f g =
    more_some (group_types ts keys agg) (group_row keys agg rows key) (map (group_row keys agg rows) found)
    (group_fits ts keys agg rows key f g.0) (rows_of_keys ts keys agg rows found f g.1)

-- the rows of groups have their keys' types and the aggregate's
pub grouped_fit : (ts : List ColType) (keys : List ℕ) (agg : Agg) (rows : List Row) → AllFit ts rows → IfSome (grouped keys agg rows) (AllFit (group_types ts keys agg))
grouped_fit ts keys agg rows f = rows_of_keys ts keys agg rows (group_keys keys rows) f (keys_fit ts keys rows f)

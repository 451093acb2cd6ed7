-- The cell of an aggregate covers what the aggregate gives of rows that are covered.
use Rattle.std.proofs.Common.{◌≡◌, refl, sym, ap, ◌∙◌, subst, ℕ, pos, ◌≤◌, int_le, Bool, true, false, ◌⊎◌, inl, inr, List, [], ◌∷◌, map, length, Some, if◌then◌else◌, arith}
use Rattle.std.specs.Prelude.{filter}
use Rattle.std.specs.List.{fold, list_any}
use Rattle.std.specs.Ordering.{is_lt}
use Rattle.std.proofs.lemmas.Bool.{cases_Bool, and_from, or_left, or_right, or_cases, false≢true, not-true}
use Rattle.std.proofs.lemmas.Int.{ints}
use Rattle.std.proofs.lemmas.List.{length-map}
use Rattle.std.proofs.lemmas.Option.{same_Some, cond_some}
use Rattle.value_core.specs.Value.{order, same, is_null}
use Rattle.value_core.specs.declared.value.Value.{Value}
use Rattle.value_core.specs.declared.value.Value.TheVariants.{Null, Int}
use Rattle.value_core.proofs.ValueLaws.{same_decides}
use Rattle.predicate_core.specs.Truth.{value_at}
use Rattle.predicate_core.proofs.OnceLists.{In, in_same}
use Rattle.table_core.specs.Rows.{Row}
use Rattle.query_core.specs.Firsts.{firsts}
use Rattle.query_core.specs.Groups.{values_of, counted, distinct_values, exact_sum, is_within_64, sum_of, smaller, larger, smallest, largest, aggregate}
use Rattle.query_core.specs.declared.agg.Agg.{Agg}
use Rattle.query_core.specs.declared.agg.Agg.TheVariants as agg
use Rattle.query_laws.proofs.MemberLaws.{in_equal, in_filter, filter_in}
use Rattle.over_cells.specs.Cells.{is_within, covers, value_of, is_known, are_known}
use Rattle.over_cells.specs.Aggregates.{distinct_after, distinct, negatives, positives, may_be_null, one_of, sum_within, agg_cell}
use Rattle.over_cells.specs.declared.cell.AbsCell.{AbsCell}
use Rattle.over_cells.specs.declared.cell.AbsCell.TheVariants.{Known, From, Within, Any}
use Rattle.over_eval.specs.Over.{AbsRow, cell_at, agg_kind, agg_cells}
use Rattle.over_eval.specs.Placed.{Placed}
use Rattle.over_eval.specs.Laws.{IsCovered, AreCovered}
use Rattle.over_eval.proofs.PlacedLaws.{PartOf, part_filtered, placed_all, placed_length, placed_map, placed_onto, in_whole}
use Rattle.over_eval.proofs.StepLaws.{covered_cell, firsts_placed}
use Rattle.over_eval.proofs.SumLaws.{not_null, sum_not_null, sum_between, at_most, at_least, sum_within_cut}

-- The values of a column, and its cells.

-- a value is covered by a cell
abbrev Fits : Value → AbsCell → Type 0
Fits v cell = covers cell v ≡ true

-- the value that a known cell covers is its own
pub known_value : (cell : AbsCell) (v : Value) → covers cell v ≡ true → is_known cell ≡ true → v ≡ value_of cell
known_value (Known w) v h known = sym ((same_decides w v).0 h)
known_value (From values null) v h known = absurd (false≢true known)
known_value (Within lo hi null) v h known = absurd (false≢true known)
known_value Any v h known = absurd (false≢true known)

abbrev column_values : ℕ → List Row → List Value
column_values column rows = map (λ row. value_at row column) rows

abbrev column_cells : ℕ → List AbsRow → List AbsCell
column_cells column over = map (λ cells. cell_at cells column) over

column_fits : (column : ℕ) (group : List Row) (over : List AbsRow) → AreCovered group over → Placed Fits (column_values column group) (column_cells column over)
column_fits column group over h = placed_map IsCovered Fits (λ row. value_at row column) (λ cells. cell_at cells column) (λ row cells e. covered_cell cells row column e) group over h

-- where all cells are known, the values are a part of theirs
known_part : (vs : List Value) (cells : List AbsCell) → Placed Fits vs cells → are_known cells ≡ true → PartOf vs (map value_of cells)
known_part vs cells h known =
    let both : Value → AbsCell → Type 0 = λ v cell. Fits v cell × (is_known cell ≡ true) in
    placed_onto both (λ (v w : Value). v ≡ w) value_of (λ v cell e. known_value cell v e.0 e.1) vs cells (placed_all Fits is_known vs cells known h)

-- Tests of some element.

pub any_by : {X : Type 0} (p : X → Bool) (x : X) (xs : List X) → In x xs → p x ≡ true → list_any p xs ≡ true
any_by p x [] i passes = absurd i
any_by p x (y ∷ ys) (inl e) passes = or_left (p y) (list_any p ys) (ap p (sym e) ∙ passes)
any_by p x (y ∷ ys) (inr i) passes = or_right (p y) (list_any p ys) (any_by p x ys i passes)

seen_in : (v : Value) (seen : List Value) → list_any (same v) seen ≡ true → In v seen
seen_in v [] is = absurd (false≢true is)
seen_in v (w ∷ ws) is =
    elim (or_cases (same v w) (list_any (same v) ws) is) [
      | inl here ↦ inl ((same_decides v w).0 here)
      | inr later ↦ inr (seen_in v ws later)
    ]

-- Counts.

count_low : (keyed : Bool) (n : ℕ) → (keyed ≡ true → 1 ≤ n) → int_le (if keyed then pos 1 else pos 0) (pos n) ≡ true
count_low true n some = let h : 1 ≤ n = some refl in grind (arith, ints)
count_low false n some = grind (arith, ints)

count_high : (m n : ℕ) → m ≤ n → int_le (pos m) (pos n) ≡ true
count_high m n h = grind (arith, ints)

counted_all : (keyed : Bool) (m n : ℕ) → (keyed ≡ true → 1 ≤ m) → m ≤ n → is_within (if keyed then pos 1 else pos 0) (pos n) false (Int (pos m)) ≡ true
counted_all keyed m n some most = and_from (int_le (if keyed then pos 1 else pos 0) (pos m)) (int_le (pos m) (pos n)) (count_low keyed m some) (count_high m n most)

counted_some : (m n : ℕ) → m ≤ n → is_within (pos 0) (pos n) false (Int (pos m)) ≡ true
counted_some m n most = and_from (int_le (pos 0) (pos m)) (int_le (pos m) (pos n)) (count_high 0 m (omega arith)) (count_high m n most)

-- no more values than rows, and no more distinct ones than values
values_most : (column : ℕ) (group : List Row) → length (values_of column group) ≤ length group
values_most column group =
    let vs = column_values column group in
    let most = placed_length (λ (a b : Value). a ≡ b) (filter not_null vs) vs (part_filtered not_null vs) in
    let long = length-map group (λ row. value_at row column) in
    omega (arith, most, long)

distinct_most : (values : List Value) → length (distinct_values values) ≤ length values
distinct_most values =
    let single : Value → Row = λ v. v ∷ [] in
    let made = map single values in
    let most = placed_length (λ (a b : Row). a ≡ b) (firsts made) made (firsts_placed made) in
    let long = length-map values single in
    omega (arith, most, long)

-- NULL, where no value is left.

null_fits : (keyed : Bool) (vs ws : List Value) → (keyed ≡ true → 1 ≤ length vs) → PartOf vs ws → filter not_null vs ≡ [] → may_be_null keyed ws ≡ true
null_fits false vs ws some part none = refl
null_fits true [] ws some part none = absurd (let h : 1 ≤ 0 = some refl in omega (arith, h))
null_fits true (v ∷ vs) ws some part none =
    elim (cases_Bool (is_null v)) [
      | inl null ↦ any_by is_null v ws (in_whole v (v ∷ vs) ws part (inl refl)) null
      | inr some_value ↦ absurd (
          let i : In v (filter not_null (v ∷ vs)) = filter_in not_null v (v ∷ vs) (rw some_value refl) (inl refl) in
          in_equal v (filter not_null (v ∷ vs)) [] none i)
    ]

-- Smallest and largest values.

-- each value stands among the distinct ones
in_distinct_after : (v : Value) (seen ws : List Value) → In v ws → In v seen ⊎ In v (distinct_after seen ws)
in_distinct_after v seen [] i = absurd i
in_distinct_after v seen (w ∷ ws) i =
    elim (cases_Bool (list_any (same w) seen)) [
      | inl old ↦ rw old (elim i [
        | inl e ↦ inl (in_same v w seen e (seen_in w seen old))
        | inr more ↦ in_distinct_after v seen ws more
      ])
      | inr new ↦ rw new (elim i [
        | inl e ↦ inr (inl e)
        | inr more ↦ elim (in_distinct_after v (w ∷ seen) ws more) [
          | inl j ↦ elim j [ inl e ↦ inr (inl e) | inr k ↦ inl k ]
          | inr j ↦ inr (inr j)
        ]
      ])
    ]

in_distinct : (v : Value) (ws : List Value) → is_null v ≡ false → In v ws → In v (distinct ws)
in_distinct v ws some i =
    elim (in_distinct_after v [] (filter not_null ws) (filter_in not_null v ws (rw some refl) i)) [ inl j ↦ absurd j | inr j ↦ j ]

-- one of two values taken again and again gives one of the values
fold_in : (f : Value → Value → Value) → ((a b : Value) → (f a b ≡ a) ⊎ (f a b ≡ b)) → (v : Value) (vs : List Value) → In (fold f v vs) (v ∷ vs)
fold_in f one v [] = inl refl
fold_in f one v (w ∷ ws) =
    elim (fold_in f one (f v w) ws) [
      | inl e ↦ elim (one v w) [ inl first ↦ inl (e ∙ first) | inr second ↦ inr (inl (e ∙ second)) ]
      | inr i ↦ inr (inr i)
    ]

smaller_one : (a b : Value) → (smaller a b ≡ a) ⊎ (smaller a b ≡ b)
smaller_one a b = elim (cases_Bool (is_lt (order b a))) [ inl less ↦ inr (rw less refl) | inr not_less ↦ inl (rw not_less refl) ]

larger_one : (a b : Value) → (larger a b ≡ a) ⊎ (larger a b ≡ b)
larger_one a b = elim (cases_Bool (is_lt (order a b))) [ inl less ↦ inr (rw less refl) | inr not_less ↦ inl (rw not_less refl) ]

-- what is picked of the values that aren't NULL
picked_from : (pick : List Value → Value) → pick [] ≡ Null → ((v : Value) (vs : List Value) → In (pick (v ∷ vs)) (v ∷ vs))
    → (keyed : Bool) (vs ws : List Value) → (keyed ≡ true → 1 ≤ length vs) → PartOf vs ws
    → (us : List Value) → filter not_null vs ≡ us → covers (one_of keyed ws) (pick us) ≡ true
picked_from pick empty one keyed vs ws some part [] is = rw empty (null_fits keyed vs ws some part is)
picked_from pick empty one keyed vs ws some part (u ∷ us) is =
    let v = pick (u ∷ us) in
    let i : In v (filter not_null vs) = in_equal v (u ∷ us) (filter not_null vs) (sym is) (one u us) in
    let h = in_filter not_null v vs i in
    let some_value : is_null v ≡ false = not-true (is_null v) h.1 in
    let listed = any_by (same v) v (distinct ws) (in_distinct v ws some_value (in_whole v vs ws part h.0)) ((same_decides v v).1 refl) in
    rw some_value listed

-- Sums.

sum_fits : (keyed : Bool) (vs ws : List Value) (value : Value) → (keyed ≡ true → 1 ≤ length vs) → PartOf vs ws
    → (us : List Value) → filter not_null vs ≡ us → sum_of us ≡ Some value → covers (sum_within keyed ws) value ≡ true
sum_fits keyed vs ws value some part [] is gives = subst (λ (v : Value). covers (sum_within keyed ws) v ≡ true) (same_Some Null value gives) (null_fits keyed vs ws some part is)
sum_fits keyed vs ws value some part (u ∷ us) is gives =
    let n = exact_sum (u ∷ us) in
    let h = cond_some (is_within_64 n) (Int n) value gives in
    let same_sum : exact_sum vs ≡ n = sym (sum_not_null vs) ∙ ap exact_sum is in
    let bounds = sum_between vs ws part in
    let null = may_be_null keyed ws in
    subst (λ (v : Value). covers (sum_within keyed ws) v ≡ true) h.1 (sum_within_cut (negatives ws) (positives ws) n null (at_least n (exact_sum vs) (negatives ws) (sym same_sum) bounds.0) (at_most n (exact_sum vs) (positives ws) (sym same_sum) bounds.1) h.0)

-- The cell of each aggregate covers what the aggregate gives.

-- where the cells of a column are known, and where not
by_known : (value : Value) (cell : AbsCell) (known : Bool) → (known ≡ true → Fits value cell) → Fits value (if known then cell else Any)
by_known value cell true covered = covered refl
by_known value cell false covered = refl

by_value : (cell : AbsCell) (x value : Value) → Some x ≡ Some value → Fits x cell → Fits value cell
by_value cell x value e covered = subst (λ (v : Value). covers cell v ≡ true) (same_Some x value e) covered

-- a column has a value for each row
some_values : (keyed : Bool) (column : ℕ) (group : List Row) → (keyed ≡ true → 1 ≤ length group) → keyed ≡ true → 1 ≤ length (map (λ row. value_at row column) group)
some_values keyed column group some is = let long = length-map group (λ row. value_at row column) in let one = some is in omega (arith, long, one)

picked_covered : (pick : List Value → Value) → pick [] ≡ Null → ((v : Value) (vs : List Value) → In (pick (v ∷ vs)) (v ∷ vs))
    → (keyed : Bool) (column : ℕ) (group : List Row) (over : List AbsRow) → AreCovered group over → (keyed ≡ true → 1 ≤ length group)
    → Fits (pick (values_of column group)) (if are_known (column_cells column over) then one_of keyed (map value_of (column_cells column over)) else Any)
picked_covered pick empty one keyed column group over h some =
    let vs = column_values column group in
    let cells = column_cells column over in
    by_known (pick (values_of column group)) (one_of keyed (map value_of cells)) (are_known cells) (λ known.
    picked_from pick empty one keyed vs (map value_of cells) (some_values keyed column group some) (known_part vs cells (column_fits column group over h) known) (values_of column group) refl)

sum_covered : (keyed : Bool) (column : ℕ) (group : List Row) (over : List AbsRow) (value : Value) → AreCovered group over → (keyed ≡ true → 1 ≤ length group)
    → sum_of (values_of column group) ≡ Some value → Fits value (if are_known (column_cells column over) then sum_within keyed (map value_of (column_cells column over)) else Any)
sum_covered keyed column group over value h some gives =
    let vs = column_values column group in
    let cells = column_cells column over in
    by_known value (sum_within keyed (map value_of cells)) (are_known cells) (λ known.
    sum_fits keyed vs (map value_of cells) value (some_values keyed column group some) (known_part vs cells (column_fits column group over h) known) (values_of column group) refl gives)

pub aggregate_covered : (a : Agg) (keyed : Bool) (group : List Row) (over : List AbsRow) (value : Value) → AreCovered group over → (keyed ≡ true → 1 ≤ length group) → aggregate a group ≡ Some value
    → Fits value (agg_cell (agg_kind a) keyed (agg_cells a over) (length over))
aggregate_covered agg.CountAll keyed group over value h some gives =
    by_value (Within (if keyed then pos 1 else pos 0) (pos (length over)) false) (counted (length group)) value gives
    (counted_all keyed (length group) (length over) some (placed_length IsCovered group over h))
aggregate_covered (agg.Count column) keyed group over value h some gives =
    let most = placed_length IsCovered group over h in
    let few = values_most column group in
    by_value (Within (pos 0) (pos (length over)) false) (counted (length (values_of column group))) value gives (counted_some (length (values_of column group)) (length over) (omega (arith, most, few)))
aggregate_covered (agg.CountDistinct column) keyed group over value h some gives =
    let most = placed_length IsCovered group over h in
    let few = values_most column group in
    let vs = values_of column group in
    let fewer = distinct_most vs in
    by_value (Within (pos 0) (pos (length over)) false) (counted (length (distinct_values vs))) value gives (counted_some (length (distinct_values vs)) (length over) (omega (arith, most, few, fewer)))
aggregate_covered (agg.Sum column) keyed group over value h some gives = sum_covered keyed column group over value h some gives
aggregate_covered (agg.Min column) keyed group over value h some gives =
    by_value (if are_known (column_cells column over) then one_of keyed (map value_of (column_cells column over)) else Any) (smallest (values_of column group)) value gives
    (picked_covered smallest refl (fold_in smaller smaller_one) keyed column group over h some)
aggregate_covered (agg.Max column) keyed group over value h some gives =
    by_value (if are_known (column_cells column over) then one_of keyed (map value_of (column_cells column over)) else Any) (largest (values_of column group)) value gives
    (picked_covered largest refl (fold_in larger larger_one) keyed column group over h some)

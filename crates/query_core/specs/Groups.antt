-- Groups of rows, and what an aggregate makes of the rows of a group.
use Rattle.std.specs.Prelude.{ℕ, ℤ, pos, neg_ℤ, ◌+ℤ◌, ◌^◌, int_le, int_lt, Bool, not, ◌&&◌, List, [], ◌∷◌, ◌++◌, map, length, Option, Some, None, option_map, if◌then◌else◌}
use Rattle.std.specs.Prelude.{filter as list_filter}
use Rattle.std.specs.List.{fold}
use Rattle.std.specs.Ordering.{is_lt}
use Rattle.value_core.specs.Value.{order, is_null}
use Rattle.value_core.specs.declared.value.Value.{Value}
use Rattle.value_core.specs.declared.value.Value.TheVariants.{Null, Int, Text}
use Rattle.predicate_core.specs.Truth.{value_at}
use Rattle.table_core.specs.Rows.{Row}
use Rattle.table_core.specs.Bag.{same_cells}
use Rattle.query_core.specs.Firsts.{projected, firsts}
use Rattle.query_core.specs.declared.agg.Agg.{Agg}
use Rattle.query_core.specs.declared.agg.Agg.TheVariants.{CountAll, Count, CountDistinct, Sum, Min, Max}

-- the values of a column that aren't NULL, in order
abbrev pub values_of : ℕ → List Row → List Value
values_of column rows = list_filter (λ v. not (is_null v)) (map (λ row. value_at row column) rows)

-- the values, each once
abbrev pub distinct_values : List Value → List Row
distinct_values values = firsts (map (λ v. v ∷ []) values)

-- a count as a value
abbrev pub counted : ℕ → Value
counted n = Int (pos n)

-- the number that a value is, 0 where it is none
abbrev pub number_of : Value → ℤ
number_of Null = pos 0
number_of (Int n) = n
number_of (Text s) = pos 0

-- the exact sum of some values
abbrev pub exact_sum : List Value → ℤ
exact_sum [] = pos 0
exact_sum (v ∷ vs) = number_of v +ℤ exact_sum vs

-- whether a number is one of 64 bits
abbrev pub is_within_64 : ℤ → Bool
is_within_64 n = int_le (neg_ℤ (pos (2 ^ 63))) n && int_lt n (pos (2 ^ 63))

-- a number of 64 bits as a value; no value at all outside of them
abbrev pub sum_value : ℤ → Option Value
sum_value n = if is_within_64 n then Some (Int n) else None

-- the sum of some values: NULL where there is no value, and none at all where it leaves 64 bits
abbrev pub sum_of : List Value → Option Value
sum_of [] = Some Null
sum_of (v ∷ vs) = sum_value (exact_sum (v ∷ vs))

-- the smaller and the larger of two values
abbrev pub smaller : Value → Value → Value
smaller a b = if is_lt (order b a) then b else a

abbrev pub larger : Value → Value → Value
larger a b = if is_lt (order a b) then b else a

-- the smallest of some values, NULL where there is none
abbrev pub smallest : List Value → Value
smallest [] = Null
smallest (v ∷ vs) = fold smaller v vs

-- the largest of some values, NULL where there is none
abbrev pub largest : List Value → Value
largest [] = Null
largest (v ∷ vs) = fold larger v vs

-- what an aggregate gives for the rows of a group; only a sum may have no value
abbrev pub aggregate : Agg → List Row → Option Value
aggregate CountAll rows = Some (counted (length rows))
aggregate (Count column) rows = Some (counted (length (values_of column rows)))
aggregate (CountDistinct column) rows = Some (counted (length (distinct_values (values_of column rows))))
aggregate (Sum column) rows = sum_of (values_of column rows)
aggregate (Min column) rows = Some (smallest (values_of column rows))
aggregate (Max column) rows = Some (largest (values_of column rows))

-- the keys of the groups: each key once, at its first place; without key columns one group, of all rows
abbrev pub group_keys : List ℕ → List Row → List Row
group_keys [] rows = [] ∷ []
group_keys (k ∷ ks) rows = firsts (map (projected (k ∷ ks)) rows)

-- the rows of the group of a key
abbrev pub members : List ℕ → List Row → Row → List Row
members keys rows key = list_filter (λ row. same_cells (projected keys row) key) rows

-- the row of a group: its key, and then what the aggregate gives
abbrev pub group_row : List ℕ → Agg → List Row → Row → Option Row
group_row keys agg rows key = option_map (λ value. key ++ value ∷ []) (aggregate agg (members keys rows key))

-- the elements, where each is there
abbrev pub all_some : {A : Type 0} → List (Option A) → Option (List A)
all_some [] = Some []
all_some (None ∷ rest) = None
all_some (Some x ∷ rest) = option_map (λ xs. x ∷ xs) (all_some rest)

-- the rows of the groups, in the order of their keys; none at all where a sum has no value
abbrev pub grouped : List ℕ → Agg → List Row → Option (List Row)
grouped keys agg rows = all_some (map (group_row keys agg rows) (group_keys keys rows))

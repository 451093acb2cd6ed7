-- How much of an output's values the columns of candidates have, where each candidate has to be a row of the output.
use Rattle.std.specs.Prelude.{ℕ, Bool, ◌&&◌, List, length, if◌then◌else◌}
use Rattle.std.specs.List.{list_all, list_any}
use Rattle.value_core.specs.declared.value.Value.{Value}
use Rattle.predicate_core.specs.Truth.{value_at}
use Rattle.table_core.specs.Rows.{Row, TableData}
use Rattle.map_walk.specs.Open.{serves}
use Rattle.map_walk.specs.Supply.{each_told}
use Rattle.map_walk.specs.declared.supply.Supply.{Supply}
use Rattle.map_walk.specs.declared.supply.Supply.TheVariants.{Short, Full}

-- whether a candidate has at a place a value of the output column of the number `place`
abbrev pub has_some : {X : Type 0} → (X → ℕ → Value → Bool) → List Row → ℕ → ℕ → X → Bool
has_some has output place at c = list_any (λ row. has c at (value_at row place)) output

-- whether a body column has no other values than the output column of the number `place`
abbrev pub has_no_others : {X : Type 0} → (X → ℕ → Value → Bool) → List X → List Row → ℕ → ℕ → Bool
has_no_others has candidates output place at = list_all (has_some has output place at) candidates

-- whether it may have all of its values, and has no others
abbrev pub is_whole : {X : Type 0} → (X → ℕ → Value → Bool) → List X → List Row → ℕ → ℕ → Bool
is_whole has candidates output place at = serves has candidates output place at && has_no_others has candidates output place at

-- how much it has of these values, short where it has others
abbrev pub whole_supply : {X : Type 0} → (X → ℕ → Value → Bool) → List X → List Row → ℕ → ℕ → Supply
whole_supply has candidates output place at = if is_whole has candidates output place at then Full else Short

-- how much each of so many body columns has of each column of a table, short where it has others
abbrev pub wholes_by : {X : Type 0} → (X → ℕ → Value → Bool) → ℕ → List X → TableData → List (List Supply)
wholes_by has width candidates table = each_told (whole_supply has candidates table.rows) (length table.columns) width

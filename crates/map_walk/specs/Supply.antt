-- How much of an output's values the columns of candidates have, and what a body has of them, told from its parts.
use Rattle.std.specs.Prelude.{◌≡◌, ℕ, ◌+◌, Bool, true, false, ◌&&◌, ◌||◌, List, [], ◌∷◌, ◌++◌, map, length, slice_get, unwrap_or, if◌then◌else◌}
use Rattle.std.specs.List.{list_all, list_any, range_with_len}
use Rattle.value_core.specs.Value.{is_null}
use Rattle.value_core.specs.declared.value.ColType.{ColType}
use Rattle.value_core.specs.declared.value.Value.{Value}
use Rattle.predicate_core.specs.Truth.{value_at}
use Rattle.table_core.specs.Rows.{Row, TableData}
use Rattle.query_core.specs.Grammar.{places_of}
use Rattle.query_core.specs.declared.kinds.Pairing.{Pairing}
use Rattle.query_core.specs.declared.kinds.Pairing.TheVariants.{Join, Left}
use Rattle.map_walk.specs.Open.{some_has, serves}
use Rattle.map_walk.specs.declared.supply.Supply.{Supply}
use Rattle.map_walk.specs.declared.supply.Supply.TheVariants.{Short, ButNull, Full}

-- whether a body column may have all values of the output column of the number `place`, save for NULL
abbrev pub serves_but_null : {X : Type 0} → (X → ℕ → Value → Bool) → List X → List Row → ℕ → ℕ → Bool
serves_but_null has candidates output place at = list_all (λ row. is_null (value_at row place) || some_has has candidates at row place) output

-- how much of these values it has
abbrev pub supply_of : {X : Type 0} → (X → ℕ → Value → Bool) → List X → List Row → ℕ → ℕ → Supply
supply_of has candidates output place at = if serves has candidates output place at then Full else (if serves_but_null has candidates output place at then ButNull else Short)

-- what is told of a body column for each of so many output columns
abbrev pub column_told : (ℕ → ℕ → Supply) → ℕ → ℕ → List Supply
column_told tell wanted at = map (λ place. tell place at) (range_with_len 0 wanted)

-- what is told of each of so many body columns
abbrev pub each_told : (ℕ → ℕ → Supply) → ℕ → ℕ → List (List Supply)
each_told tell wanted width = map (column_told tell wanted) (range_with_len 0 width)

-- how much a body column has of each column of a table
abbrev pub column_supplies : {X : Type 0} → (X → ℕ → Value → Bool) → List X → TableData → ℕ → List Supply
column_supplies has candidates table at = column_told (supply_of has candidates table.rows) (length table.columns) at

-- how much each of so many body columns has of each column of a table
abbrev pub supplies_by : {X : Type 0} → (X → ℕ → Value → Bool) → ℕ → List X → TableData → List (List Supply)
supplies_by has width candidates table = each_told (supply_of has candidates table.rows) (length table.columns) width

-- how much the body column of the number `at` has of the output column of the number `place`; where nothing is told, it may have all
abbrev pub supply_at : List (List Supply) → ℕ → ℕ → Supply
supply_at supplies at place = unwrap_or (slice_get (unwrap_or (slice_get supplies at) []) place) Full

-- how much it has where its side may be padded with NULLs
abbrev pub loosened : Supply → Supply
loosened Short = Short
loosened ButNull = Full
loosened Full = Full

-- whether no value is wanting
abbrev pub is_full : Supply → Bool
is_full Short = false
is_full ButNull = false
is_full Full = true

-- what the columns of a pair have: those of its left part, and then those of its right one, which a left join may pad
abbrev pub pair_supplies : Pairing → List (List Supply) → List (List Supply) → List (List Supply)
pair_supplies Join left right = left ++ right
pair_supplies Left left right = left ++ map (map loosened) right

-- what the columns of a group have: its key columns, and then the aggregate's, of which nothing is told
abbrev pub group_supplies : List ℕ → List (List Supply) → List (List Supply)
group_supplies keys child = map (λ key. unwrap_or (slice_get child key) []) keys ++ [] ∷ []

-- whether some column of a type has all values of the output column of the number `place`
abbrev pub some_full : List ColType → List (List Supply) → ℕ → ColType → Bool
some_full types supplies place t = list_any (λ at. is_full (supply_at supplies at place)) (places_of t 0 types)

-- whether each output column has such a column; these are numbered from `place`
abbrev pub all_full : List ColType → List (List Supply) → ℕ → List ColType → Bool
all_full types supplies place [] = true
all_full types supplies place (t ∷ ts) = some_full types supplies place t && all_full types supplies (place + 1) ts

-- whether each output column of these types has a body column of its type that has all of its values
abbrev pub opens : List ColType → List (List Supply) → List ColType → Bool
opens types supplies wanted = all_full types supplies 0 wanted

-- what is told of the columns of candidates is true of them: where one has all values it is full, and where it has all save for NULL it would be full where padded
abbrev pub Tells : {X : Type 0} → (X → ℕ → Value → Bool) → List X → List Row → List (List Supply) → Type 0
Tells has candidates output supplies =
    (at place : ℕ)
    → (serves has candidates output place at ≡ true → supply_at supplies at place ≡ Full)
    × (serves_but_null has candidates output place at ≡ true → loosened (supply_at supplies at place) ≡ Full)

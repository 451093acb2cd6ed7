-- The readings of a body: the maps by which each row of an output has enough candidates, with their targets.
use Rattle.std.specs.Prelude.{ℕ, Bool, true, false, ◌&&◌, List, [], ◌∷◌, map, filter}
use Rattle.std.specs.List.{list_any}
use Rattle.value_core.specs.Value.{same}
use Rattle.value_core.specs.declared.value.ColType.{ColType}
use Rattle.value_core.specs.declared.value.Value.{Value}
use Rattle.predicate_core.specs.Truth.{value_at}
use Rattle.table_core.specs.Rows.{Row, TableData, types_of}
use Rattle.table_core.specs.Bag.{count}
use Rattle.query_core.specs.Firsts.{firsts}
use Rattle.query_core.specs.Grammar.{maps}
use Rattle.map_walk.specs.Targets.{are_enough}
use Rattle.map_walk.specs.declared.target.Reading.{Reading}
use Rattle.map_walk.specs.declared.target.Target.{Target}

-- whether a row has a value in the column at a place
abbrev pub row_has : Row → ℕ → Value → Bool
row_has row at v = same (value_at row at) v

-- whether a candidate may have at the places of a map the values of a row, and they have the same number
abbrev pub has_all : {X : Type 0} → (X → ℕ → Value → Bool) → X → List ℕ → Row → Bool
has_all has c [] [] = true
has_all has c [] (v ∷ vs) = false
has_all has c (at ∷ picks) [] = false
has_all has c (at ∷ picks) (v ∷ vs) = has c at v && has_all has c picks vs

-- a row of an output as a target
abbrev pub target_by : {X : Type 0} → (X → ℕ → Value → Bool) → List ℕ → List X → List Row → Row → Target
target_by has picks candidates output row = record { mask = map (λ c. has_all has c picks row) candidates; copies = count output row }

-- the rows of an output, each once, as targets
abbrev pub targets_by : {X : Type 0} → (X → ℕ → Value → Bool) → List ℕ → List X → List Row → List Target
targets_by has picks candidates output = map (target_by has picks candidates output) (firsts output)

-- whether each row of an output has enough candidates by a map
abbrev pub is_enough_by : {X : Type 0} → (X → ℕ → Value → Bool) → List X → List Row → List ℕ → Bool
is_enough_by has candidates output picks = are_enough (targets_by has picks candidates output)

-- a map with its targets
abbrev pub reading_by : {X : Type 0} → (X → ℕ → Value → Bool) → List X → List Row → List ℕ → Reading
reading_by has candidates output picks = record { picks = picks; targets = targets_by has picks candidates output }

-- of some maps those by which each row of an output has enough candidates, with their targets
abbrev pub enough_by : {X : Type 0} → (X → ℕ → Value → Bool) → List X → List Row → List (List ℕ) → List Reading
enough_by has candidates output ms = map (reading_by has candidates output) (filter (is_enough_by has candidates output) ms)

-- the readings of a body with columns of these types and these candidates, in the grammar's order
abbrev pub readings_by : {X : Type 0} → (X → ℕ → Value → Bool) → List ColType → List X → TableData → List Reading
readings_by has types candidates table = enough_by has candidates table.rows (maps types (types_of table))

-- whether it has one
abbrev pub has_reading_by : {X : Type 0} → (X → ℕ → Value → Bool) → List ColType → List X → TableData → Bool
has_reading_by has types candidates table = list_any (is_enough_by has candidates table.rows) (maps types (types_of table))

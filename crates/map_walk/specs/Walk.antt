-- A walk over maps, one output column after the other: what the first columns of a map leave of each target.
use Rattle.std.specs.Prelude.{ℕ, ◌+◌, Bool, ◌==◌, List, [], ◌∷◌, length, map, replicate, All, Option, Some, None, if◌then◌else◌}
use Rattle.std.specs.List.{flat_map, list_any}
use Rattle.value_core.specs.declared.value.ColType.{ColType}
use Rattle.value_core.specs.declared.value.Value.{Value}
use Rattle.predicate_core.specs.Truth.{value_at}
use Rattle.table_core.specs.Rows.{Row, TableData, types_of}
use Rattle.table_core.specs.Bag.{count}
use Rattle.query_core.specs.Firsts.{firsts}
use Rattle.query_core.specs.Grammar.{places_of}
use Rattle.map_walk.specs.Narrow.{Fitting, narrowed, next}
use Rattle.map_walk.specs.Targets.{are_enough}
use Rattle.map_walk.specs.declared.offer.Offer.{Offer}
use Rattle.map_walk.specs.declared.reading.Begun.{Begun}
use Rattle.map_walk.specs.declared.target.Reading.{Reading}
use Rattle.map_walk.specs.declared.target.Target.{Target}

-- a row of an output as a target of a map without its columns: each of so many candidates may be it, and none where it hasn't the map's width
abbrev pub first_target : ℕ → ℕ → List Row → Row → Target
first_target width candidates output row = record { mask = replicate candidates (length row == width); copies = count output row }

-- the rows of a table, each once, as such targets
abbrev pub first_targets : ℕ → TableData → List Target
first_targets candidates table = map (first_target (length (types_of table)) candidates table.rows) (firsts table.rows)

-- which candidates may have at a place the value that a row has at another
abbrev pub cell_mask : {X : Type 0} → (X → ℕ → Value → Bool) → List X → ℕ → ℕ → Row → List Bool
cell_mask has candidates place at row = map (λ c. has c at (value_at row place)) candidates

-- a body column for an output column, of the number `place`: which candidates may have there the value of each of some rows
abbrev pub offer_of : {X : Type 0} → (X → ℕ → Value → Bool) → List X → List Row → ℕ → ℕ → Offer
offer_of has candidates rows place at = record { at = at; masks = map (cell_mask has candidates place at) rows }

-- the body columns of an output column's type
abbrev pub offers : {X : Type 0} → (X → ℕ → Value → Bool) → List ColType → List X → List Row → ℕ → ColType → List Offer
offers has types candidates rows place t = map (offer_of has candidates rows place) (places_of t 0 types)

-- those of each output column; these are numbered from `place`
abbrev pub columns_of : {X : Type 0} → (X → ℕ → Value → Bool) → List ColType → List X → List Row → ℕ → List ColType → List (List Offer)
columns_of has types candidates rows place [] = []
columns_of has types candidates rows place (t ∷ ts) = offers has types candidates rows place t ∷ columns_of has types candidates rows (place + 1) ts

-- what a walk begins with, if the first targets have enough candidates
abbrev pub start_by : {X : Type 0} → (X → ℕ → Value → Bool) → List ColType → List X → TableData → Option Begun
start_by has types candidates table =
    if are_enough (first_targets (length candidates) table)
    then Some (record { targets = first_targets (length candidates) table; columns = columns_of has types candidates (firsts table.rows) 0 (types_of table) })
    else None

-- the masks of all offers of some columns have the lengths of those of the targets
abbrev pub Fits : List Target → List (List Offer) → Type 0
Fits targets columns = All (λ offers. All (λ o. Fitting targets o.masks) offers) columns

-- the readings that go on from one by an offer of each of these columns, with enough candidates
abbrev pub walked : Reading → List (List Offer) → List Reading
walked r [] = if are_enough r.targets then r ∷ [] else []
walked r (offers ∷ columns) = flat_map (λ o. walked (next r o) columns) offers

-- whether some reading goes on from these targets so
abbrev pub goes_on : List Target → List (List Offer) → Bool
goes_on targets [] = are_enough targets
goes_on targets (offers ∷ columns) = list_any (λ o. goes_on (narrowed targets o.masks) columns) offers

-- The readings of a body: the maps by which each row of an output has enough candidates, with their targets.
use Rattle.std.specs.Prelude.{ℕ, List, map, filter}
use Rattle.value_core.specs.declared.value.ColType.{ColType}
use Rattle.table_core.specs.Rows.{Row, TableData, types_of}
use Rattle.query_core.specs.Grammar.{maps}
use Rattle.map_walk.specs.Targets.{are_enough}
use Rattle.map_walk.specs.declared.target.Reading.{Reading}
use Rattle.root_search.specs.Targets.{targets}

-- a map with its targets
abbrev pub reading_of : List Row → List Row → List ℕ → Reading
reading_of candidates output picks = record { picks = picks; targets = targets picks candidates output }

-- of some maps those by which each target has enough candidates, with their targets
abbrev pub enough_of : List Row → List Row → List (List ℕ) → List Reading
enough_of candidates output ms = map (reading_of candidates output) (filter (λ picks. are_enough (targets picks candidates output)) ms)

-- the readings of a body with columns of these types and these candidate rows, in the grammar's order
abbrev pub readings : List ColType → List Row → TableData → List Reading
readings types candidates table = enough_of candidates table.rows (maps types (types_of table))

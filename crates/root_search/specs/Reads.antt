-- The answers of choices by readings, told by bits.
use Rattle.std.specs.Prelude.{ℕ, Bool, true, false, List, [], ◌∷◌, ◌++◌, flat_map, length, if◌then◌else◌}
use Rattle.predicate_core.specs.declared.pred.Pred.{Pred}
use Rattle.table_core.specs.declared.task.TaskParts.{TaskParts}
use Rattle.query_core.specs.Tree.{Tree}
use Rattle.query_core.specs.Answers.{RankedQuery, ranked}
use Rattle.fill_core.specs.Offers.{as_list}
use Rattle.fill_core.specs.declared.choice.Choice.{Choice}
use Rattle.root_search.specs.Answers.{query_of}
use Rattle.root_search.specs.Targets.{bits_give}
use Rattle.map_walk.specs.declared.target.Reading.{Reading}

-- the predicates of a choice behind its parts'
abbrev pub preds_of : List Pred → Choice → List Pred
preds_of parts c = parts ++ as_list c.pred

-- the query of a choice by a reading, where the bits of the choice give the output
abbrev pub read_answer : TaskParts → ℕ → Tree → List Pred → Choice → Reading → Bool → List RankedQuery
read_answer task n skeleton parts c r distinct =
    if bits_give distinct (length task.output.rows) c.bits r.targets then ranked task (record { skeleton = n; query = query_of skeleton (preds_of parts c) r.picks distinct }) ∷ [] else []

-- with and without removal of duplicates
abbrev pub read_answers : TaskParts → ℕ → Tree → List Pred → Choice → Reading → List RankedQuery
read_answers task n skeleton parts c r = read_answer task n skeleton parts c r false ++ read_answer task n skeleton parts c r true

-- those of a choice by each reading of some
abbrev pub choice_answers : TaskParts → ℕ → Tree → List Pred → List Reading → Choice → List RankedQuery
choice_answers task n skeleton parts readings c = flat_map (read_answers task n skeleton parts c) readings

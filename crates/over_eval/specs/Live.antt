-- Live skeletons: those whose abstract rows can serve the output.
use Rattle.std.specs.Prelude.{ℕ, Bool, true, false, ◌&&◌, nat_le, List, [], ◌∷◌, count_by, Option, Some, None}
use Rattle.std.specs.List.{list_all, list_any}
use Rattle.table_core.specs.Rows.{Row, types_of}
use Rattle.table_core.specs.Bag.{count}
use Rattle.table_core.specs.declared.task.TaskParts.{TaskParts}
use Rattle.query_core.specs.Tree.{Tree}
use Rattle.query_core.specs.Grammar.{maps}
use Rattle.query_core.specs.Meaning.{columns}
use Rattle.over_cells.specs.Cells.{covers}
use Rattle.over_eval.specs.Over.{AbsRow, cells_at, over}

-- whether an abstract row covers a row: cell by cell, and they have the same number
abbrev pub covers_row : AbsRow → Row → Bool
covers_row [] [] = true
covers_row [] (v ∷ vs) = false
covers_row (c ∷ cs) [] = false
covers_row (c ∷ cs) (v ∷ vs) = covers c v && covers_row cs vs

-- how many of some abstract rows cover a row by these columns
abbrev pub covering : List ℕ → List AbsRow → Row → ℕ
covering picks over row = count_by (λ cells. covers_row (cells_at picks cells) row) over

-- whether each row of an output is covered by as many abstract rows as it has copies, by these columns
abbrev pub can_serve : List AbsRow → List Row → List ℕ → Bool
can_serve over output picks = list_all (λ row. nat_le (count output row) (covering picks over row)) output

-- whether abstract rows, if there are ever any, can serve an output by one of these maps
abbrev pub serves_by : List (List ℕ) → List Row → Option (List AbsRow) → Bool
serves_by picked output None = false
serves_by picked output (Some over) = list_any (can_serve over output) picked

-- whether a skeleton is live: its abstract rows can serve the task's output by one of the grammar's maps
abbrev pub live : TaskParts → Tree → Bool
live task skeleton = serves_by (maps (columns task.inputs skeleton) (types_of task.output)) task.output.rows (over task skeleton)

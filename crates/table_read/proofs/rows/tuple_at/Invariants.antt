use Rattle.std.proofs.Common.{◌≡◌, drop}
use Rattle.first_fault.specs.Reading.{each}
use Rattle.first_fault.proofs.Steps.{after}
use Rattle.table_read.specs.Table.{cell_at, tuple_at}
use Rattle.table_read.proofs.rows.tuple_at.Given as goal

abbrev pub invariant-loop-at : goal.invariant-loop-at
invariant-loop-at l = after l.cells.items (each (cell_at l.place l.row) l.at (drop l.at l.columns)) ≡ tuple_at l.columns l.place l.row

use Rattle.std.proofs.Common.{◌≡◌, drop}
use Rattle.first_fault.specs.Reading.{each}
use Rattle.first_fault.proofs.Steps.{after}
use Rattle.table_read.specs.Table.{tuple_at}
use Rattle.table_read.proofs.rows.tuples_of.Given as goal

abbrev pub invariant-loop-at : goal.invariant-loop-at
invariant-loop-at l = after l.tuples.items (each (tuple_at l.columns) l.at (drop l.at l.rows)) ≡ each (tuple_at l.columns) 0 l.rows

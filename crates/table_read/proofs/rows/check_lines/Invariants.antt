use Rattle.std.proofs.Common.{◌≡◌, ◌≤◌, take, drop}
use Rattle.first_fault.specs.Reading.{each}
use Rattle.first_fault.proofs.Steps.{after}
use Rattle.table_read.specs.Table.{line_at}
use Rattle.table_read.proofs.rows.check_lines.Given as goal

abbrev pub invariant-loop-at : goal.invariant-loop-at
invariant-loop-at l = record {
  lines : after (take l.at l.rows) (each (line_at l.longest l.width) l.at (drop l.at l.rows)) ≡ each (line_at l.longest l.width) 0 l.rows;
  within : l.at ≤ l.longest;
}

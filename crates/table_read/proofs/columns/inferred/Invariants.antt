use Rattle.std.proofs.Common.{◌≡◌, ◌++◌, drop, length}
use Rattle.table_read.specs.Table.{inferred_from}
use Rattle.table_read.proofs.columns.inferred.Given as goal

abbrev pub invariant-loop-at : goal.invariant-loop-at
invariant-loop-at l = record {
  columns : l.columns.items ++ inferred_from l.at (drop l.at l.names) l.rows ≡ inferred_from 0 l.names l.rows;
  width : length l.columns.items ≡ l.at;
}

use Rattle.std.proofs.Common.{◌≡◌, ◌++◌, drop, length}
use Rattle.table_read.specs.Table.{declared_as}
use Rattle.table_read.proofs.columns.declared.Given as goal

abbrev pub invariant-loop-at : goal.invariant-loop-at
invariant-loop-at l = record {
  columns : l.columns.items ++ declared_as (drop l.at l.names) (drop l.at l.types) ≡ declared_as l.names l.types;
  width : length l.columns.items ≡ l.at;
}

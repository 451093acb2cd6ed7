use Rattle.std.proofs.Common.{◌≡◌, ◌++◌, take}
use Rattle.table_core.proofs.task.push_tables.Given as goal

abbrev pub invariant-loop-table : goal.invariant-loop-table
invariant-loop-table l = l.out ≡ l.initial.out ++ take l.table-index l.tables

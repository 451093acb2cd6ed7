use Rattle.std.proofs.Common.{◌≡◌, ◌++◌, take}
use Rattle.table_core.proofs.table.push_columns.Given as goal

abbrev pub invariant-loop-column : goal.invariant-loop-column
invariant-loop-column l = l.out.items ≡ l.initial.out.items ++ take l.column-index l.columns

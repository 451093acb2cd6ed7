use Rattle.std.proofs.Common.{◌≡◌, drop}
use Rattle.table_core.specs.Limits.{all_distinct}
use Rattle.table_core.specs.Limits.{same_table_name}
use Rattle.table_core.proofs.limits.are_tables_distinct.Given as goal

abbrev pub invariant-loop-i : goal.invariant-loop-i
invariant-loop-i l = all_distinct same_table_name l.tables ≡ all_distinct same_table_name (drop l.i l.tables)

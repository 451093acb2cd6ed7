use Rattle.std.proofs.Common.{◌≡◌, drop}
use Rattle.table_core.specs.Bag.{has_double}
use Rattle.table_core.proofs.bag.has_double_row.Given as goal

abbrev pub invariant-loop-i : goal.invariant-loop-i
invariant-loop-i l = has_double l.rows ≡ has_double (drop l.i l.rows)

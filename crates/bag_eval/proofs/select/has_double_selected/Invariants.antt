use Rattle.std.proofs.Common.{◌≡◌, drop}
use Rattle.table_core.specs.Bag.{has_double}
use Rattle.query_core.specs.Meaning.{selected}
use Rattle.bag_eval.proofs.select.has_double_selected.Given as goal

abbrev pub invariant-loop-i : goal.invariant-loop-i
invariant-loop-i l = has_double (selected l.picks l.rows) ≡ has_double (selected l.picks (drop l.i l.rows))

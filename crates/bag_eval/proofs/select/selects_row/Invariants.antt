use Rattle.std.proofs.Common.{◌≡◌, length, drop}
use Rattle.table_core.specs.Bag.{same_cells}
use Rattle.query_core.specs.Firsts.{projected}
use Rattle.bag_eval.proofs.select.selects_row.Given as goal

abbrev pub invariant-loop-i : goal.invariant-loop-i
invariant-loop-i l = (length l.picks ≡ length l.other) × (same_cells (projected l.picks l.row) l.other ≡ same_cells (projected (drop l.i l.picks) l.row) (drop l.i l.other))

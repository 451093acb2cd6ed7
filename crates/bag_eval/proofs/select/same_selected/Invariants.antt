use Rattle.std.proofs.Common.{◌≡◌, drop}
use Rattle.table_core.specs.Bag.{same_cells}
use Rattle.query_core.specs.Firsts.{projected}
use Rattle.bag_eval.proofs.select.same_selected.Given as goal

abbrev pub invariant-loop-at : goal.invariant-loop-at
invariant-loop-at l = same_cells (projected l.picks l.a) (projected l.picks l.b) ≡ same_cells (projected (drop l.at-index l.picks) l.a) (projected (drop l.at-index l.picks) l.b)

use Rattle.std.proofs.Common.{◌≡◌, map, take}
use Rattle.predicate_core.specs.Truth.{value_at}
use Rattle.bag_eval.proofs.select.select_row.Given as goal

abbrev pub invariant-loop-at : goal.invariant-loop-at
invariant-loop-at l = l.cells.items ≡ map (value_at l.row) (take l.at-index l.picks)

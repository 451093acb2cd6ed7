use Rattle.std.proofs.Common.{◌≡◌, map, take}
use Rattle.over_eval.specs.Over.{cell_at}
use Rattle.over_eval.proofs.rows.cells_at.Given as goal

abbrev pub invariant-loop-at : goal.invariant-loop-at
invariant-loop-at l = l.picked.items ≡ map (cell_at l.cells) (take l.at-index l.picks)

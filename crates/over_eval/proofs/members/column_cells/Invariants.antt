use Rattle.std.proofs.Common.{◌≡◌, map, take}
use Rattle.over_eval.specs.Over.{cell_at}
use Rattle.over_eval.proofs.members.column_cells.Given as goal

abbrev pub invariant-loop-row : goal.invariant-loop-row
invariant-loop-row l = l.out ≡ map (λ cells. cell_at cells l.column) (take l.row-index l.over)

use Rattle.std.proofs.Common.{◌≡◌, map, take}
use Rattle.map_walk.specs.Walk.{cell_mask}
use Rattle.map_walk.proofs.offer.cell_masks.Given as goal

abbrev pub invariant-loop-row : goal.invariant-loop-row
invariant-loop-row g l = l.masks ≡ map (cell_mask g.C.Candidate.has l.candidates l.place l.at) (take l.row-index l.rows)

use Rattle.std.proofs.Common.{◌≡◌, take}
use Rattle.map_walk.specs.Walk.{cell_mask}
use Rattle.map_walk.proofs.offer.cell_mask.Given as goal

abbrev pub invariant-loop-candidate : goal.invariant-loop-candidate
invariant-loop-candidate g l = l.bits.items ≡ cell_mask g.C.Candidate.has (take l.candidate-index l.candidates) l.place l.at l.row

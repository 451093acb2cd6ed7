use Rattle.std.proofs.Common.{◌≡◌, map, take}
use Rattle.map_walk.specs.Walk.{first_target}
use Rattle.map_walk.proofs.reading.first_targets.Given as goal

abbrev pub invariant-loop-row : goal.invariant-loop-row
invariant-loop-row l = l.out ≡ map (first_target l.width l.candidates l.output) (take l.row-index l.rows)

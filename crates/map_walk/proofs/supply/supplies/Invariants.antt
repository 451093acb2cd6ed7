use Rattle.std.proofs.Common.{◌≡◌, map}
use Rattle.std.specs.List.{range_with_len}
use Rattle.map_walk.specs.Supply.{column_supplies}
use Rattle.map_walk.proofs.supply.supplies.Given as goal

abbrev pub invariant-loop-at : goal.invariant-loop-at
invariant-loop-at g l = l.out ≡ map (column_supplies g.C.Candidate.has l.candidates l.output) (range_with_len 0 l.at)

use Rattle.std.proofs.Common.{◌≡◌, map}
use Rattle.std.specs.List.{range_with_len}
use Rattle.map_walk.specs.Supply.{supply_of}
use Rattle.map_walk.proofs.supply.column_supplies.Given as goal

abbrev pub invariant-loop-place : goal.invariant-loop-place
invariant-loop-place g l = l.out ≡ map (λ place. supply_of g.C.Candidate.has l.candidates l.output.rows place l.at) (range_with_len 0 l.place)

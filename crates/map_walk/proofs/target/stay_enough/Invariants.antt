use Rattle.std.proofs.Common.{◌≡◌, drop}
use Rattle.map_walk.specs.Narrow.{narrowed}
use Rattle.map_walk.specs.Targets.{are_enough}
use Rattle.map_walk.proofs.target.stay_enough.Given as goal

abbrev pub invariant-loop-i : goal.invariant-loop-i
invariant-loop-i l = are_enough (narrowed l.targets l.masks) ≡ are_enough (narrowed (drop l.i l.targets) (drop l.i l.masks))

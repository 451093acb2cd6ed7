use Rattle.std.proofs.Common.{◌≡◌, ◌++◌, drop}
use Rattle.map_walk.specs.Narrow.{narrowed}
use Rattle.map_walk.proofs.target.narrowed.Given as goal

abbrev pub invariant-loop-i : goal.invariant-loop-i
invariant-loop-i l = l.out ++ narrowed (drop l.i l.targets) (drop l.i l.masks) ≡ narrowed l.targets l.masks

use Rattle.std.proofs.Common.{◌≡◌, map, take}
use Rattle.root_search.specs.Wanted.{paired_target}
use Rattle.root_search.proofs.paired.paired_reading.Given as goal

abbrev pub invariant-loop-target : goal.invariant-loop-target
invariant-loop-target l = l.targets ≡ map (paired_target l.lefts l.rights) (take l.target-index l.target-items)

use Rattle.std.proofs.Common.{◌≡◌, map, take}
use Rattle.root_search.specs.Wanted.{paired_reading}
use Rattle.root_search.proofs.paired.paired_readings.Given as goal

abbrev pub invariant-loop-reading : goal.invariant-loop-reading
invariant-loop-reading l = l.out ≡ map (paired_reading l.lefts l.rights) (take l.reading-index l.readings)

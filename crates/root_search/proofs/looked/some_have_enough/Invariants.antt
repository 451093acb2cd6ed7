use Rattle.std.proofs.Common.{◌≡◌, drop}
use Rattle.std.specs.List.{list_any}
use Rattle.root_search.specs.Wanted.{has_enough}
use Rattle.root_search.proofs.looked.some_have_enough.Given as goal

abbrev pub invariant-loop-i : goal.invariant-loop-i
invariant-loop-i l = list_any (has_enough l.bits) l.readings ≡ list_any (has_enough l.bits) (drop l.i l.readings)

use Rattle.std.proofs.Common.{◌≡◌, drop}
use Rattle.std.specs.List.{list_any}
use Rattle.root_search.specs.Wanted.{is_within}
use Rattle.root_search.proofs.looked.some_are_within.Given as goal

abbrev pub invariant-loop-i : goal.invariant-loop-i
invariant-loop-i l = list_any (is_within l.bits) l.readings ≡ list_any (is_within l.bits) (drop l.i l.readings)

use Rattle.std.proofs.Common.{◌≡◌, map, take}
use Rattle.query_core.specs.Meaning.{type_at}
use Rattle.query_core.proofs.types.picked_types.Given as goal

abbrev pub invariant-loop-at : goal.invariant-loop-at
invariant-loop-at l = l.out ≡ map (type_at l.types) (take l.at-index l.picks)

use Rattle.std.proofs.Common.{◌≡◌, map, take}
use Rattle.query_core.specs.Meaning.{type_at}
use Rattle.rank_core.proofs.col_types.ColTypes.of_group.Given as goal

abbrev pub invariant-loop-key : goal.invariant-loop-key
invariant-loop-key l = l.out ≡ map (type_at l.types) (take l.key-index l.keys)

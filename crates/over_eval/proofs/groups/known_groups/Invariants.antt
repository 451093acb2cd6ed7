use Rattle.std.proofs.Common.{◌≡◌, map, take}
use Rattle.over_eval.specs.Over.{group_over}
use Rattle.over_eval.proofs.groups.known_groups.Given as goal

abbrev pub invariant-loop-key : goal.invariant-loop-key
invariant-loop-key l = l.out ≡ map (group_over l.keys l.agg l.over) (take l.key-index l.key-items)

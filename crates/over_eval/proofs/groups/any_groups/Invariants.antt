use Rattle.std.proofs.Common.{◌≡◌, map, take}
use Rattle.over_eval.specs.Over.{any_group}
use Rattle.over_eval.proofs.groups.any_groups.Given as goal

abbrev pub invariant-loop-row : goal.invariant-loop-row
invariant-loop-row l = l.out ≡ map (any_group l.keys) (take l.row-index l.over)

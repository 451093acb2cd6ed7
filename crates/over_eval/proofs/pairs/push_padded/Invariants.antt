use Rattle.std.proofs.Common.{◌≡◌, ◌++◌, map, take}
use Rattle.over_eval.specs.Over.{padded_over}
use Rattle.over_eval.proofs.pairs.push_padded.Given as goal

abbrev pub invariant-loop-left : goal.invariant-loop-left
invariant-loop-left l = l.out ≡ l.initial.out ++ map (padded_over l.width) (take l.left-index l.lefts)

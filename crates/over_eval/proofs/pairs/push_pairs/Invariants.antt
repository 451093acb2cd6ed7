use Rattle.std.proofs.Common.{◌≡◌, ◌++◌, take}
use Rattle.over_eval.specs.Over.{pairs_over}
use Rattle.over_eval.proofs.pairs.push_pairs.Given as goal

abbrev pub invariant-loop-right : goal.invariant-loop-right
invariant-loop-right l = l.out ≡ l.initial.out ++ pairs_over (take l.right-index l.rights) l.left

use Rattle.std.proofs.Common.{◌≡◌, ◌++◌, take}
use Rattle.query_core.specs.Joins.{pairs_with}
use Rattle.bag_eval.proofs.join.push_pairs.Given as goal

abbrev pub invariant-loop-right : goal.invariant-loop-right
invariant-loop-right l = l.out ≡ l.initial.out ++ pairs_with (take l.right-index l.rights) l.left

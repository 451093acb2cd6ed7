use Rattle.std.proofs.Common.{◌≡◌, ◌++◌, drop}
use Rattle.query_core.specs.Joins.{left_joined}
use Rattle.bag_eval.proofs.join.left_join_pairs.Given as goal

abbrev pub invariant-loop-left : goal.invariant-loop-left
invariant-loop-left l = l.out ++ left_joined l.constants l.pred l.width (drop l.left-index l.lefts) l.rights ≡ left_joined l.constants l.pred l.width l.lefts l.rights

use Rattle.std.proofs.Common.{◌≡◌, ◌++◌, drop}
use Rattle.query_core.specs.Joins.{joined}
use Rattle.bag_eval.proofs.join.join_pairs.Given as goal

abbrev pub invariant-loop-left : goal.invariant-loop-left
invariant-loop-left l = l.out ++ joined l.constants l.pred (drop l.left-index l.lefts) l.rights ≡ joined l.constants l.pred l.lefts l.rights

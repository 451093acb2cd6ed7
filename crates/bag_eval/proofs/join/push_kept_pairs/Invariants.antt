use Rattle.std.proofs.Common.{◌≡◌, ◌++◌, drop}
use Rattle.query_core.specs.Joins.{kept_pairs}
use Rattle.bag_eval.proofs.join.push_kept_pairs.Given as goal

abbrev pub invariant-loop-right : goal.invariant-loop-right
invariant-loop-right l = l.out ++ kept_pairs l.constants l.pred (drop l.right-index l.rights) l.left ≡ l.initial.out ++ kept_pairs l.constants l.pred l.rights l.left

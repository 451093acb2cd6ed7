use Rattle.std.proofs.Common.{◌≡◌, ◌++◌, drop}
use Rattle.query_core.specs.Joins.{crossed}
use Rattle.bag_eval.proofs.join.cross_rows.Given as goal

abbrev pub invariant-loop-left : goal.invariant-loop-left
invariant-loop-left l = l.out ++ crossed (drop l.left-index l.lefts) l.rights ≡ crossed l.lefts l.rights

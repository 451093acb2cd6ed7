use Rattle.std.proofs.Common.{◌≡◌, ◌++◌, drop}
use Rattle.query_core.specs.Joins.{crossed_and_padded}
use Rattle.bag_eval.proofs.join.cross_and_pad_rows.Given as goal

abbrev pub invariant-loop-left : goal.invariant-loop-left
invariant-loop-left l = l.out ++ crossed_and_padded l.width (drop l.left-index l.lefts) l.rights ≡ crossed_and_padded l.width l.lefts l.rights

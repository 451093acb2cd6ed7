use Rattle.std.proofs.Common.{◌≡◌, ◌++◌, drop}
use Rattle.skeleton_graph.specs.Seen.{pairs_between}
use Rattle.skeleton_graph.specs.View.{sees}
use Rattle.skeleton_graph.proofs.list.push_pairs_between.Given as goal

abbrev pub invariant-loop-a : goal.invariant-loop-a
invariant-loop-a l = l.out.items ++ pairs_between l.ground.task.now l.how (sees (drop l.a-index l.lefts)) (sees l.rights) ≡ l.initial.out.items ++ pairs_between l.ground.task.now l.how (sees l.lefts) (sees l.rights)

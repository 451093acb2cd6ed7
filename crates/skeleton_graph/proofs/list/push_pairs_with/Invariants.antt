use Rattle.std.proofs.Common.{◌≡◌, ◌++◌, drop}
use Rattle.std.specs.List.{flat_map}
use Rattle.skeleton_graph.specs.Seen.{pair_on}
use Rattle.skeleton_graph.specs.View.{see, sees}
use Rattle.skeleton_graph.proofs.list.push_pairs_with.Given as goal

abbrev pub invariant-loop-b : goal.invariant-loop-b
invariant-loop-b l = l.out.items ++ flat_map (pair_on l.ground.task.now l.how (see l.a)) (sees (drop l.b-index l.rights)) ≡ l.initial.out.items ++ flat_map (pair_on l.ground.task.now l.how (see l.a)) (sees l.rights)

use Rattle.std.proofs.Common.{◌≡◌, ◌++◌, map, drop}
use Rattle.skeleton_graph.specs.Seen.{group_on}
use Rattle.skeleton_graph.specs.View.{see}
use Rattle.skeleton_graph.proofs.list.push_groups_of.Given as goal

abbrev pub invariant-loop-agg : goal.invariant-loop-agg
invariant-loop-agg l = l.out.items ++ map (group_on (see l.child) l.keys) (drop l.agg-index l.aggs) ≡ l.initial.out.items ++ map (group_on (see l.child) l.keys) l.aggs

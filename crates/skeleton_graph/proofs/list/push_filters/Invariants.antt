use Rattle.std.proofs.Common.{◌≡◌, ◌++◌, drop}
use Rattle.std.specs.List.{flat_map}
use Rattle.skeleton_graph.specs.Seen.{filter_on}
use Rattle.skeleton_graph.specs.View.{sees}
use Rattle.skeleton_graph.proofs.list.push_filters.Given as goal

abbrev pub invariant-loop-child : goal.invariant-loop-child
invariant-loop-child l = l.out.items ++ flat_map filter_on (sees (drop l.child-index l.last)) ≡ l.initial.out.items ++ flat_map filter_on (sees l.last)

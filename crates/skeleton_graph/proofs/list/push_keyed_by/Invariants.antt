use Rattle.std.proofs.Common.{◌≡◌, ◌++◌, drop}
use Rattle.std.specs.List.{flat_map}
use Rattle.skeleton_graph.specs.Seen.{keyed_on}
use Rattle.skeleton_graph.specs.View.{see}
use Rattle.skeleton_graph.proofs.list.push_keyed_by.Given as goal

abbrev pub invariant-loop-keys : goal.invariant-loop-keys
invariant-loop-keys l = l.out.items ++ flat_map (keyed_on l.ground.task.now (see l.child)) (drop l.keys-index l.lists) ≡ l.initial.out.items ++ flat_map (keyed_on l.ground.task.now (see l.child)) l.lists

use Rattle.std.proofs.Common.{◌≡◌, [], drop, length}
use Rattle.skeleton_graph.specs.Nodes.{marks_after}
use Rattle.skeleton_graph.proofs.above.marks.Given as goal

abbrev pub invariant-loop-node : goal.invariant-loop-node
invariant-loop-node l = (marks_after l.k l.marks.items (drop l.node-index l.nodes) ≡ marks_after l.k [] l.nodes) × (length l.marks.items ≡ l.node-index)

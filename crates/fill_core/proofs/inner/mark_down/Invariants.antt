use Rattle.std.proofs.Common.{◌≡◌, ◌≤◌, length}
use Rattle.fill_core.specs.Marks.{marked_down}
use Rattle.fill_core.proofs.inner.mark_down.Given as goal

abbrev pub invariant-loop-k : goal.invariant-loop-k
invariant-loop-k l = (marked_down l.graph.nodes l.k l.marks ≡ marked_down l.graph.nodes (length l.graph.nodes) l.initial.marks) × (l.k ≤ length l.graph.nodes)

abbrev pub decreases-loop-k : goal.decreases-loop-k
decreases-loop-k l = l.k

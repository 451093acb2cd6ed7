use Rattle.std.proofs.Common.{ℕ, ◌+◌, ◌*◌, Option, Some, None}
use Rattle.skeleton_graph.proofs.tree.+tree.Given as goal

-- how much is left of a child
abbrev pub child_left : Option ℕ → ℕ
child_left None = 0
child_left (Some k) = 2 * k + 2

abbrev pub decreases-child_at : goal.decreases-child_at
decreases-child_at l = child_left l.child

abbrev pub decreases-node_at : goal.decreases-node_at
decreases-node_at l = 2 * l.k + 1

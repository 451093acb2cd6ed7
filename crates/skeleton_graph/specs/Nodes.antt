-- The trees of the nodes of a graph, the uses of a node, and the nodes above it.
use Rattle.std.specs.Prelude.{ℕ, zero, suc, ◌+◌, ◌*◌, ◌/◌, ◌%◌, ◌==◌, Bool, false, not, ◌&&◌, ◌||◌, List, [], ◌∷◌, ◌++◌, length, slice_get, unwrap_or, Option, Some, None, option_and_then, if◌then◌else◌}
use Rattle.std.specs.List.{list_any}
use Rattle.predicate_core.specs.declared.pred.Pred.TheVariants.{Always}
use Rattle.query_core.specs.Tree.{Tree}
use Rattle.query_core.specs.Tree as t
use Rattle.query_core.specs.declared.kinds.Pairing.TheVariants.{Join, Left}
use Rattle.query_core.specs.declared.kinds.Uniting.TheVariants.{All, Firsts}
use Rattle.skeleton_graph.specs.declared.node.Kind.{Kind}
use Rattle.skeleton_graph.specs.declared.node.Kind.TheVariants as kind
use Rattle.skeleton_graph.specs.declared.node.SkelNode.{SkelNode}

-- the tree of a number, an input where there is none
abbrev pub tree_at : List Tree → ℕ → Tree
tree_at trees number = unwrap_or (slice_get trees number) (t.base 0)

-- the tree of a child, an input where there is none
abbrev pub child_tree : List Tree → Option ℕ → Tree
child_tree trees None = t.base 0
child_tree trees (Some number) = tree_at trees number

-- the tree of a kind over two trees, its predicate open; a kind with fewer parts leaves the others out
abbrev pub kind_tree : Kind → Tree → Tree → Tree
kind_tree (kind.Base table) a b = t.base table
kind_tree kind.Filter a b = t.filter a Always
kind_tree kind.Join a b = t.pair Join a b Always
kind_tree kind.Left a b = t.pair Left a b Always
kind_tree (kind.Group keys agg) a b = t.group a keys agg
kind_tree kind.UnionAll a b = t.unite All a b
kind_tree kind.Union a b = t.unite Firsts a b

-- the tree of a kind and two children, over the trees of those before it
abbrev pub made_tree : List Tree → Kind → Option ℕ → Option ℕ → Tree
made_tree trees kind left right = kind_tree kind (child_tree trees left) (child_tree trees right)

-- the tree of a node, its predicates open, over the trees of those before it
abbrev pub node_tree : List Tree → SkelNode → Tree
node_tree trees node = made_tree trees node.kind node.left node.right

-- these trees, and then those of some nodes, each over the trees of those before it
abbrev pub trees_after : List Tree → List SkelNode → List Tree
trees_after trees [] = trees
trees_after trees (node ∷ nodes) = trees_after (trees ++ node_tree trees node ∷ []) nodes

-- the trees of nodes
abbrev pub trees_of : List SkelNode → List Tree
trees_of nodes = trees_after [] nodes

-- what a node has, where there is one: the children, the newest use, and the next older use after one of its own
abbrev pub left_of : List SkelNode → ℕ → Option ℕ
left_of nodes k = option_and_then (λ node. node.left) (slice_get nodes k)

abbrev pub right_of : List SkelNode → ℕ → Option ℕ
right_of nodes k = option_and_then (λ node. node.right) (slice_get nodes k)

abbrev pub first_use_of : List SkelNode → ℕ → Option ℕ
first_use_of nodes k = option_and_then (λ node. node.first_use) (slice_get nodes k)

-- the use after this one in its chain: the user is half the number, and the side is what is left
abbrev pub next_use : List SkelNode → ℕ → Option ℕ
next_use nodes use_number = option_and_then (λ node. if use_number % 2 == 0 then node.next_left else node.next_right) (slice_get nodes (use_number / 2))

-- at most so many uses of a chain, from one on
abbrev pub follow : ℕ → List SkelNode → Option ℕ → List ℕ
follow zero nodes from = []
follow (suc most) nodes None = []
follow (suc most) nodes (Some use_number) = use_number ∷ follow most nodes (next_use nodes use_number)

-- the uses of a chain, from one on; where each is older than the one before it, there are no more than its number and one
abbrev pub chain_from : List SkelNode → Option ℕ → List ℕ
chain_from nodes None = []
chain_from nodes (Some use_number) = follow (suc use_number) nodes (Some use_number)

-- the user of a use, and the side
abbrev pub user_and_side : ℕ → ℕ × ℕ
user_and_side use_number = (use_number / 2, use_number % 2)

-- the use of this number, where this node is the child
abbrev pub use_as : ℕ → Option ℕ → ℕ → List ℕ
use_as number None k = []
use_as number (Some child) k = if child == k then number ∷ [] else []

-- the uses of a node by nodes that are numbered from `user`, newest first
abbrev pub uses_from : ℕ → List SkelNode → ℕ → List ℕ
uses_from user [] k = []
uses_from user (node ∷ nodes) k = uses_from (user + 1) nodes k ++ (use_as (2 * user + 1) node.right k ++ use_as (2 * user) node.left k)

-- the uses of a node, newest first
abbrev pub uses_of : List SkelNode → ℕ → List ℕ
uses_of nodes k = uses_from 0 nodes k

-- whether a child is marked
abbrev pub is_marked : List Bool → Option ℕ → Bool
is_marked marks None = false
is_marked marks (Some child) = unwrap_or (slice_get marks child) false

-- marks, and then of each of some nodes whether it is this one or has it below: whether a child of it is marked
abbrev pub marks_after : ℕ → List Bool → List SkelNode → List Bool
marks_after k marks [] = marks
marks_after k marks (node ∷ nodes) = marks_after k (marks ++ (length marks == k || (is_marked marks node.left || is_marked marks node.right)) ∷ []) nodes

-- the numbers of the marks that are set, counted from a number on, without this one
abbrev pub marked_but : ℕ → ℕ → List Bool → List ℕ
marked_but k number [] = []
marked_but k number (mark ∷ marks) = (if mark && not (number == k) then number ∷ [] else []) ++ marked_but k (number + 1) marks

-- the numbers of the nodes that have this one below them, ascending, without its own
abbrev pub above_of : List SkelNode → ℕ → List ℕ
above_of nodes k = marked_but k 0 (marks_after k [] nodes)

-- whether a number is one of these
abbrev pub is_among : List ℕ → ℕ → Bool
is_among numbers number = list_any (λ n. n == number) numbers

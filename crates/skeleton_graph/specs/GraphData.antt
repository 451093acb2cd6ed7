-- What a graph is: its nodes, and the types of the columns of each.
use Rattle.std.specs.Prelude.{◌≡◌, ℕ, ◌≤◌, ◌<◌, true, List, length, slice_get, is_some, Option, Some, None}
use Rattle.value_core.specs.declared.value.ColType.{ColType}
use Rattle.skeleton_graph.specs.declared.node.Kind.{Kind}
use Rattle.skeleton_graph.specs.declared.node.Kind.TheVariants as kind
use Rattle.skeleton_graph.specs.declared.node.SkelNode.{SkelNode}
use Rattle.skeleton_graph.specs.Nodes.{left_of, right_of, first_use_of, next_use, chain_from, uses_of}

pub record GraphData : Type 0 where
  pub nodes : List SkelNode
  pub types : List (List ColType)

-- whether each number that is told of another is below it
abbrev pub Descends : (ℕ → Option ℕ) → Type 0
Descends told = (number lower : ℕ) → told number ≡ Some lower → lower < number

-- whether a node of a kind has exactly the children that the kind has
abbrev pub HasItsChildren : Kind → Option ℕ → Option ℕ → Type 0
HasItsChildren (kind.Base table) left right = (left ≡ None) × (right ≡ None)
HasItsChildren kind.Filter left right = (is_some left ≡ true) × (right ≡ None)
HasItsChildren kind.Join left right = (is_some left ≡ true) × (is_some right ≡ true)
HasItsChildren kind.Left left right = (is_some left ≡ true) × (is_some right ≡ true)
HasItsChildren (kind.Group keys agg) left right = (is_some left ≡ true) × (right ≡ None)
HasItsChildren kind.UnionAll left right = (is_some left ≡ true) × (is_some right ≡ true)
HasItsChildren kind.Union left right = (is_some left ≡ true) × (is_some right ≡ true)

-- what holds of every graph: a child's number is below its user's, a use is older than the one before it in its chain, the chain of a node has its uses, and each node has the children of its kind
pub record IsGraph (nodes : List SkelNode) (types : List (List ColType)) : Type 0 where
  pub sizes : length types ≡ length nodes
  pub few : length nodes ≤ 100000
  pub lefts : Descends (left_of nodes)
  pub rights : Descends (right_of nodes)
  pub older : Descends (next_use nodes)
  pub chains : (k : ℕ) → chain_from nodes (first_use_of nodes k) ≡ uses_of nodes k
  pub shaped : (k : ℕ) (node : SkelNode) → slice_get nodes k ≡ Some node → HasItsChildren node.kind node.left node.right

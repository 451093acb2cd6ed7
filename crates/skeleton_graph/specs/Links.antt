-- Nodes, each linked into the chains of uses of its children.
use Rattle.std.specs.Prelude.{ℕ, ◌+◌, ◌*◌, List, [], ◌∷◌, ◌++◌, length, slice_get, slice_set, Option, Some, None}
use Rattle.skeleton_graph.specs.declared.node.SkelNode.{SkelNode}
use Rattle.skeleton_graph.specs.Nodes.{first_use_of}
use Rattle.skeleton_graph.specs.declared.part.Part.{Part}

-- nodes where a use is the newest of the node of this number, where there is one
abbrev pub with_use_at : List SkelNode → ℕ → ℕ → Option SkelNode → List SkelNode
with_use_at nodes k use_number None = nodes
with_use_at nodes k use_number (Some node) = slice_set nodes k (record node { first_use = Some use_number })

-- the newest use of a child
abbrev pub newest_use : List SkelNode → Option ℕ → Option ℕ
newest_use nodes None = None
newest_use nodes (Some k) = first_use_of nodes k

-- nodes where a use is the newest of a child
abbrev pub with_use : List SkelNode → Option ℕ → ℕ → List SkelNode
with_use nodes None use_number = nodes
with_use nodes (Some k) use_number = with_use_at nodes k use_number (slice_get nodes k)

-- nodes where the left child of the next one is used
abbrev pub left_used : List SkelNode → Part → List SkelNode
left_used nodes part = with_use nodes part.left (2 * length nodes)

-- nodes and one more
abbrev pub linked : List SkelNode → Part → List SkelNode
linked nodes part =
    with_use (left_used nodes part) part.right (2 * length nodes + 1)
    ++ record {
      kind = part.kind;
      left = part.left;
      right = part.right;
      first_use = None;
      next_left = newest_use nodes part.left;
      next_right = newest_use (left_used nodes part) part.right;
    } ∷ []

-- nodes and some more
abbrev pub linked_all : List SkelNode → List Part → List SkelNode
linked_all nodes [] = nodes
linked_all nodes (part ∷ parts) = linked_all (linked nodes part) parts

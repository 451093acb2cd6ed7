-- The tree of a node is made of the trees of its children.
use Rattle.std.proofs.Common.{◌≡◌, ℕ, zero, suc, ◌+◌, ◌<◌, List, [], ◌∷◌, ◌++◌, length, Option, Some, None, refl, sym, ap, ap₂, ◌∙◌, arith, length-append}
use Rattle.std.specs.Prelude.{slice_get, unwrap_or, option_and_then}
use Rattle.std.proofs.lemmas.Option.{slice_get-get_or, unwrap_or-slice_get}
use Rattle.query_core.specs.Tree.{Tree}
use Rattle.query_core.specs.Tree as t
use Rattle.skeleton_graph.specs.declared.node.SkelNode.{SkelNode}
use Rattle.skeleton_graph.specs.Nodes.{tree_at, child_tree, kind_tree, node_tree, trees_after, trees_of, left_of, right_of}
use Rattle.skeleton_graph.specs.GraphData.{Descends}
use Rattle.skeleton_graph.proofs.BoundLaws.{Below}
use Rattle.skeleton_graph.proofs.ChainLaws.{get_left, below_is}
use Rattle.skeleton_graph.proofs.SimLaws.{get_after}

-- how many trees there are
size_after : (trees : List Tree) (nodes : List SkelNode) → length (trees_after trees nodes) ≡ length trees + length nodes
size_after trees [] = omega arith
size_after trees (n ∷ nodes) =
    let rest = size_after (trees ++ node_tree trees n ∷ []) nodes in
    let one : length (trees ++ node_tree trees n ∷ []) ≡ length trees + 1 = length-append trees (node_tree trees n ∷ []) in
    omega (arith, rest, one)

pub trees_size : (nodes : List SkelNode) → length (trees_of nodes) ≡ length nodes
trees_size nodes = omega (arith, size_after [] nodes)

-- later trees leave the earlier ones as they are
earlier : (trees : List Tree) (nodes : List SkelNode) (i : ℕ) → i < length trees → tree_at (trees_after trees nodes) i ≡ tree_at trees i
earlier trees [] i below = refl
earlier trees (n ∷ nodes) i below =
    let one : length (trees ++ node_tree trees n ∷ []) ≡ length trees + 1 = length-append trees (node_tree trees n ∷ []) in
    earlier (trees ++ node_tree trees n ∷ []) nodes i (omega (arith, one, below))
    ∙ ap (λ o. unwrap_or o (t.base 0)) (get_left trees (node_tree trees n ∷ []) i below)

child_earlier : (trees : List Tree) (nodes : List SkelNode) (child : Option ℕ) → Below (length trees) child → child_tree (trees_after trees nodes) child ≡ child_tree trees child
child_earlier trees nodes None below = refl
child_earlier trees nodes (Some k) below = earlier trees nodes k below

node_made : (trees : List Tree) (nodes : List SkelNode) (k : ℕ) (node : SkelNode) → slice_get nodes k ≡ Some node → Below (length trees + k) node.left → Below (length trees + k) node.right
    → tree_at (trees_after trees nodes) (length trees + k) ≡ node_tree (trees_after trees nodes) node
node_made trees [] k node is a b = let same : ◌≡◌ {A = Option SkelNode} None (Some node) = is in cc
node_made trees (n ∷ nodes) zero node is a b =
    let same : ◌≡◌ {A = Option SkelNode} (Some n) (Some node) = is in
    let e : n ≡ node = cc in
    let made = node_tree trees n in
    let one : length (trees ++ made ∷ []) ≡ length trees + 1 = length-append trees (made ∷ []) in
    let here : length trees + 0 ≡ length trees = omega arith in
    let lefts : child_tree (trees_after trees (n ∷ nodes)) node.left ≡ child_tree trees node.left = child_earlier trees (n ∷ nodes) node.left (rw here at a) in
    let rights : child_tree (trees_after trees (n ∷ nodes)) node.right ≡ child_tree trees node.right = child_earlier trees (n ∷ nodes) node.right (rw here at b) in
    ap (tree_at (trees_after trees (n ∷ nodes))) here
    ∙ earlier (trees ++ made ∷ []) nodes (length trees) (omega (arith, one))
    ∙ get_after trees [] made (length trees) refl
    ∙ ap (node_tree trees) e
    ∙ sym (ap₂ (kind_tree node.kind) lefts rights)
node_made trees (n ∷ nodes) (suc k) node is a b =
    let made = node_tree trees n in
    let one : length (trees ++ made ∷ []) ≡ length trees + 1 = length-append trees (made ∷ []) in
    let place : length (trees ++ made ∷ []) + k ≡ length trees + suc k = omega (arith, one) in
    ap (tree_at (trees_after trees (n ∷ nodes))) (sym place)
    ∙ node_made (trees ++ made ∷ []) nodes k node is (rw place a) (rw place b)

-- a fact of a side of a node, from the same of its number
pub side_below : (side : SkelNode → Option ℕ) (nodes : List SkelNode) (k : ℕ) (node : SkelNode) → Descends (λ n. option_and_then side (slice_get nodes n)) → slice_get nodes k ≡ Some node → Below k (side node)
side_below side nodes k node down is = rw (ap (option_and_then side) is) at (below_is (λ n. option_and_then side (slice_get nodes n)) down k)

-- the tree of a node
pub tree_made : (nodes : List SkelNode) (k : ℕ) (node : SkelNode) → Descends (left_of nodes) → Descends (right_of nodes) → slice_get nodes k ≡ Some node
    → tree_at (trees_of nodes) k ≡ kind_tree node.kind (child_tree (trees_of nodes) node.left) (child_tree (trees_of nodes) node.right)
tree_made nodes k node lefts rights is =
    let place : 0 + k ≡ k = omega arith in
    ap (tree_at (trees_of nodes)) (sym place)
    ∙ node_made [] nodes k node is (rw place (side_below (λ n. n.left) nodes k node lefts is)) (rw place (side_below (λ n. n.right) nodes k node rights is))

-- a child of a node is below it
pub child_below : (side : SkelNode → Option ℕ) (nodes : List SkelNode) (k child : ℕ) (node : SkelNode) → Descends (λ n. option_and_then side (slice_get nodes n)) → slice_get nodes k ≡ Some node → side node ≡ Some child → child < k
child_below side nodes k child node down is told = down k child (ap (option_and_then side) is ∙ told)

-- the tree of a node that is there
pub tree_there : (nodes : List SkelNode) (k : ℕ) (tree : Tree) → k < length nodes → tree ≡ tree_at (trees_of nodes) k → slice_get (trees_of nodes) k ≡ Some tree
tree_there nodes k tree below is =
    let size = size_after [] nodes in
    slice_get-get_or (trees_of nodes) k (t.base 0) (omega (arith, size, below)) ∙ ap Some (sym (unwrap_or-slice_get (trees_of nodes) k (t.base 0)) ∙ sym is)

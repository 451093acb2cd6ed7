use Rattle.std.proofs.Common.{◌≡◌, ℕ, ◌+◌, ◌*◌, ◌<◌, List, length, get_or, Option, Some, None, refl, sym, ap, ap₂, ◌∙◌, subst, IfOk, arith}
use Rattle.std.specs.Prelude.{slice_get}
use Rattle.std.proofs.lemmas.Option.{slice_get-get_or}
use Rattle.query_core.specs.View.{tree}
use Rattle.query_core.specs.Tree.{Tree}
use Rattle.skeleton_graph.specs.declared.node.SkelNode.{SkelNode}
use Rattle.skeleton_graph.specs.Nodes.{kind_tree, tree_at, trees_of}
use Rattle.skeleton_graph.proofs.TreeLaws.{tree_made, child_below}
use Rattle.skeleton_graph.proofs.tree.+tree.Invariants.{child_left}
use Rattle.skeleton_graph.proofs.tree.+tree.Goals as goal

there : (nodes : List SkelNode) (k : ℕ) (node : SkelNode) → k < length nodes → node ≡ get_or nodes k node → slice_get nodes k ≡ Some node
there nodes k node below is = slice_get-get_or nodes k node below ∙ ap Some (sym is)

less_left : (child : Option ℕ) (k : ℕ) → ((c : ℕ) → child ≡ Some c → c < k) → child_left child < 2 * k + 1
less_left None k low = omega arith
less_left (Some c) k low = let under = low c refl in omega (arith, under)

lower : (a b : ℕ) → a < b → (n : ℕ) → b < n → a < n
lower a b p n q = omega (arith, p, q)

pub node_at-child_at-requires : goal.node_at-child_at-requires
node_at-child_at-requires t c =
    let nodes = c.args.nodes.now in
    let is = there nodes c.args.k c.index-nodes-k.result c.requires.below c.index-nodes-k.is in
    let low : (k : ℕ) → c.index-nodes-k.result.left ≡ Some k → k < c.args.k = λ k e. child_below (λ n. n.left) nodes c.args.k k c.index-nodes-k.result c.requires.lefts is e in
    let less = less_left c.index-nodes-k.result.left c.args.k low in
    let d = c.decreases in
    (omega (arith, less, d), ((λ k e. lower k c.args.k (low k e) (length nodes) c.requires.below), (c.requires.lefts, c.requires.rights)))

pub node_at-child_at-requires-2 : goal.node_at-child_at-requires-2
node_at-child_at-requires-2 t c =
    let nodes = c.args.nodes.now in
    let is = there nodes c.args.k c.index-nodes-k.result c.requires.below c.index-nodes-k.is in
    let low : (k : ℕ) → c.index-nodes-k.result.right ≡ Some k → k < c.args.k = λ k e. child_below (λ n. n.right) nodes c.args.k k c.index-nodes-k.result c.requires.rights is e in
    let less = less_left c.index-nodes-k.result.right c.args.k low in
    let d = c.decreases in
    (omega (arith, less, d), ((λ k e. lower k c.args.k (low k e) (length nodes) c.requires.below), (c.requires.lefts, c.requires.rights)))

pub node_at-returns : goal.node_at-returns
node_at-returns t c =
    let nodes = c.args.nodes.now in
    let node = c.index-nodes-k.result in
    let is = there nodes c.args.k node c.requires.below c.index-nodes-k.is in
    let whole = tree_made nodes c.args.k node c.requires.lefts c.requires.rights is in
    let Made : Tree → Type 0 = λ x. IfOk c.made.result (λ n. tree n ≡ x) in
    let same : kind_tree node.kind (tree c.in_ok-left.left) (tree c.in_ok-right.right) ≡ tree_at (trees_of nodes) c.args.k = ap₂ (kind_tree node.kind) c.in_ok-left.ensures c.in_ok-right.ensures ∙ sym whole in
    subst Made same c.made.ensures

use Rattle.std.proofs.Common.{◌≡◌, ℕ, sym, ap, ◌∙◌, ◌<◌, length, Option, Some, arith, rules}
use Rattle.std.specs.Prelude.{option_and_then, slice_get}
use Rattle.query_core.specs.View.{tree}
use Rattle.skeleton_graph.specs.Below.{same_tree}
use Rattle.skeleton_graph.specs.GraphData.{Descends}
use Rattle.skeleton_graph.specs.Nodes.{child_tree, trees_of}
use Rattle.skeleton_graph.specs.declared.node.SkelNode.{SkelNode}
use Rattle.skeleton_graph.proofs.TreeLaws.{child_below, tree_made}
use Rattle.fill_core.proofs.same.+same.Goals as goal

pub same_child-same_made-requires : goal.same_child-same_made-requires
same_child-same_made-requires t c = (search rules, (below (λ n. n.left) c.is_ordered.ensures.lefts, below (λ n. n.right) c.is_ordered.ensures.rights))
  where
    below : (side : SkelNode → Option ℕ) → Descends (λ n. option_and_then side (slice_get c.args.graph.now.nodes n)) → (child : ℕ) → side c.node.result.now ≡ Some child → child < length c.args.graph.now.nodes
    below side down child told =
        let here = c.requires c.in-Some.k c.in-Some.is in
        let less = child_below side c.args.graph.now.nodes c.in-Some.k child c.node.result.now down c.node.ensures told in
        omega (arith, here, less)

pub same_child-returns-in-Some : goal.same_child-returns-in-Some
same_child-returns-in-Some t c =
    let nodes = c.args.graph.now.nodes in
    let made = tree_made nodes c.in-Some.k c.node.result.now c.is_ordered.ensures.lefts c.is_ordered.ensures.rights c.node.ensures in
    c.same_made.ensures ∙ ap (same_tree (tree c.args.skeleton.now)) (sym made ∙ ap (child_tree (trees_of nodes)) (sym c.in-Some.is))

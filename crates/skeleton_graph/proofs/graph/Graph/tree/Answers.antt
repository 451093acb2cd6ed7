use Rattle.std.proofs.lemmas.Result.{IfOk-weaker}
use Rattle.std.proofs.Common.{◌≡◌, ap, ◌∙◌}
use Rattle.query_core.specs.View.{tree}
use Rattle.query_core.specs.declared.node.Node.{Node}
use Rattle.skeleton_graph.specs.GraphData.{GraphData}
use Rattle.skeleton_graph.specs.Nodes.{tree_at, trees_of}
use Rattle.skeleton_graph.proofs.TreeLaws.{tree_there}
use Rattle.skeleton_graph.proofs.graph.Graph.tree.Goals as goal

pub returns : goal.returns
returns c =
    let same : tree_at (trees_of c.as_slice.result.now) c.args.k ≡ tree_at (trees_of c.args.self.now.nodes) c.args.k = ap (λ nodes. tree_at (trees_of nodes) c.args.k) (c.as_slice.ensures.value ∙ ap (λ (g : GraphData). g.nodes) c.self.view_is) in
    IfOk-weaker _ _ _ (λ (n : Node) e. tree_there c.args.self.now.nodes c.args.k (tree n) c.requires (e ∙ same)) c.node_at.ensures

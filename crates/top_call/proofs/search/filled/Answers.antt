use Rattle.std.proofs.Common.{◌≡◌}
use Rattle.skeleton_graph.specs.Nodes.{tree_at, trees_of}
use Rattle.fill_core.specs.View.{AreFillingsOf, weight, weight_of}
use Rattle.fill_core.proofs.WeightLaws.{weight_is}
use Rattle.top_call.proofs.NeedLaws.{ok_more}
use Rattle.top_call.proofs.search.filled.Goals as goal

pub returns-clause-weighs : goal.returns-clause-weighs
returns-clause-weighs g c =
    let task = c.args.plan.now.task in
    let tree = tree_at (trees_of c.args.plan.now.graph.nodes) c.args.number in
    ok_more c.fill_node.result (λ row. AreFillingsOf task tree row.fillings) (λ row. weight row.fillings ≡ weight_of task tree) (λ row is. weight_is task tree row.fillings is) c.fill_node.ensures.filled

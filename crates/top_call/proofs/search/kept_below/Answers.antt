use Rattle.std.proofs.Common.{◌≡◌, subst}
use Rattle.std.specs.Prelude.{slice_get, Some}
use Rattle.skeleton_graph.specs.GraphData.{GraphData}
use Rattle.top_call.proofs.SearchLaws.{below_kept}
use Rattle.top_call.proofs.search.kept_below.Goals as goal

pub returns : goal.returns
returns c =
    let There : GraphData → Type 0 = λ g. slice_get g.nodes c.args.number ≡ Some c.node.result.now in
    below_kept c.args.plan.now c.args.rows.now c.args.number c.node.result.now _ _ c.requires.kept c.requires.children (subst There c.graph.ensures c.node.ensures) c.kept_of.ensures.left c.kept_of.ensures.right

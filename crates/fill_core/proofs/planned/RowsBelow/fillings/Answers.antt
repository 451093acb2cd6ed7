use Rattle.std.proofs.Common.{◌≡◌, subst, option_copied}
use Rattle.std.specs.Prelude.{slice_get, Some}
use Rattle.skeleton_graph.specs.GraphData.{GraphData, IsGraph}
use Rattle.fill_core.proofs.FitLaws.{parts_fit}
use Rattle.fill_core.proofs.planned.RowsBelow.fillings.Goals as goal

pub returns : goal.returns
returns c =
    let plan = c.args.plan.now in
    let here = c.graph-graph.ensures in
    let Ordered : GraphData → Type 0 = λ graph. IsGraph graph.nodes graph.types in
    let There : GraphData → Type 0 = λ graph. slice_get graph.nodes c.args.node ≡ Some c.node.result.now in
    parts_fit plan c.args.node c.node.result.now (option_copied c.args.self.now.left) (option_copied c.args.self.now.right) (option_copied c.fillings_of.result) (option_copied c.fillings_of-2.result) (subst Ordered here c.is_ordered.ensures) (subst There here c.node.ensures)
    c.requires.below (λ child fit. c.fillings_of.ensures plan child fit) (λ child fit. c.fillings_of-2.ensures plan child fit)

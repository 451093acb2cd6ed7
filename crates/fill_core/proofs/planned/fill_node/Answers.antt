use Rattle.std.proofs.Common.{◌≡◌, true, sym, ap, subst, unwrap_or, arith}
use Rattle.std.specs.Prelude.{slice_get, Some}
use Rattle.query_core.specs.Tree as t
use Rattle.query_core.specs.View.{tree}
use Rattle.fill_core.proofs.BudgetLaws.{budget_within}
use Rattle.skeleton_graph.specs.GraphData.{GraphData}
use Rattle.skeleton_graph.specs.Nodes.{trees_of}
use Rattle.fill_core.specs.Fits.{fits}
use Rattle.fill_core.proofs.FitLaws.{made_fits}
use Rattle.fill_core.proofs.planned.fill_node.Goals as goal

pub new-requires-clause-light : goal.new-requires-clause-light
new-requires-clause-light g c =
    let most = budget_within c.parts.result.now c.parts.ensures.within in
    let within = c.in_ok-fillings.ensures.within in
    omega (arith, most, within)

pub returns-clause-fits : goal.returns-clause-fits
returns-clause-fits g c =
    let plan = c.args.plan.now in
    let Made : GraphData → Type 0 = λ graph. slice_get (trees_of graph.nodes) c.args.node ≡ Some (tree c.in_ok-skeleton.skeleton) in
    let made = ap (λ o. unwrap_or o (t.base 0)) (sym (subst Made c.graph.ensures c.in_ok-skeleton.ensures)) in
    subst (λ row. fits row plan c.args.node ≡ true) (sym c.new.ensures) (made_fits plan c.args.node c.in_ok-skeleton.skeleton _ c.in_ok-fillings.fillings c.requires.node made c.in_ok-source.ensures)

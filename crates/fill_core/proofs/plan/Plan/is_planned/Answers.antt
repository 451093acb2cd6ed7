use Rattle.std.proofs.Common.{sym, subst, ◌<◌, length}
use Rattle.std.specs.Prelude.{All}
use Rattle.fill_core.specs.Plans.{PlanData, ChildrenAreInner, PartsComeFirst, node_of}
use Rattle.fill_core.proofs.PlanLaws.{children_inner}
use Rattle.skeleton_graph.proofs.AboveLaws.{falls_of}
use Rattle.fill_core.proofs.JobLaws.{parts_first, jobs_within}
use Rattle.fill_core.proofs.plan.Plan.is_planned.Goals as goal

pub returns-clause-inner : goal.returns-clause-inner
returns-clause-inner c =
    let graph = c.self.inside.graph in
    let Inner : PlanData → Type 0 = λ p. ChildrenAreInner p.graph.nodes p.roots in
    subst Inner c.self.view_is (children_inner graph.nodes c.self.inside.roots.items (falls_of graph.nodes graph.types c.self.invariant.0.ordered))

pub returns-clause-first : goal.returns-clause-first
returns-clause-first c =
    let graph = c.self.inside.graph in
    let First : PlanData → Type 0 = λ p. PartsComeFirst p.graph.nodes p.jobs in
    let first = parts_first graph.nodes c.self.inside.roots.items (falls_of graph.nodes graph.types c.self.invariant.0.ordered) in
    subst First c.self.view_is (subst (PartsComeFirst graph.nodes) (sym c.self.invariant.0.listed) first)

pub returns-clause-nodes : goal.returns-clause-nodes
returns-clause-nodes c =
    let graph = c.self.inside.graph in
    let Within : PlanData → Type 0 = λ p. All (λ job. node_of job < length p.graph.nodes) p.jobs in
    subst Within c.self.view_is (subst (All (λ job. node_of job < length graph.nodes)) (sym c.self.invariant.0.listed) (jobs_within graph.nodes c.self.inside.roots.items c.self.invariant.0.within))

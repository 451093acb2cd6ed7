use Rattle.std.proofs.Common.{◌≡◌, length, get_or, sym, ap, ◌∙◌, arith}
use Rattle.std.specs.Prelude.{slice_get, Err}
use Rattle.std.proofs.lemmas.Option.{slice_get-get_or}
use Rattle.skeleton_graph.specs.Nodes.{trees_of}
use Rattle.fill_core.specs.declared.job.Job.TheVariants.{Inner}
use Rattle.top_call.proofs.SearchLaws.{children_kept, filled_none, filled_more, cost_more, cost_over}
use Rattle.top_call.specs.declared.search.SearchEnd.TheVariants.{OverBudget}
use Rattle.top_call.proofs.search.fill_parts.Goals as goal

pub loop-job-init : goal.loop-job-init
loop-job-init g c =
    let budget = ap (λ t. t.budget) (c.parts.ensures.parts ∙ c.task.ensures) in (
      (λ number row there. absurd (c.in_ok-rows.ensures.none number row there)),
      c.in_ok-rows.ensures.size ∙ c.len.ensures ∙ ap (λ g. length g.nodes) c.graph.ensures,
      filled_none c.in_ok-rows.rows.items,
      omega (arith, budget),
    )

pub fill-requires-clause-children : goal.fill-requires-clause-children
fill-requires-clause-children g c =
    let p = c.args.plan.now in
    let i = c.loop-job.job-index in
    let is = ap (λ js. slice_get js i) (sym c.jobs-job-items.ensures) ∙ slice_get-get_or c.jobs-job-items.result.now i (Inner 0) c.loop-job-test.true in
    children_kept p.graph.nodes p.jobs c.loop-job.parts.rows.items i _ c.is_planned.ensures.first is c.loop-job.invariant.2

pub fill-requires-clause-left : goal.fill-requires-clause-left
fill-requires-clause-left g c = let spent = c.loop-job.invariant.3 in omega (arith, spent)

pub returns-in_err-fill-clause-over : goal.returns-in_err-fill-clause-over
returns-in_err-fill-clause-over g c =
    let p = c.args.plan.now in
    let i = c.loop-job.job-index in
    let job = get_or c.jobs-job-items.result.now i (Inner 0) in
    let is = ap (λ js. slice_get js i) (sym c.jobs-job-items.ensures) ∙ slice_get-get_or c.jobs-job-items.result.now i (Inner 0) c.loop-job-test.true in
    λ e.
    let given = rw e at c.from_residual-in_err-fill.ensures in
    let told = given.1 in
    let same : c.in_err-fill.field-0.0 ≡ OverBudget = cc in
    cost_over p.task (trees_of p.graph.nodes) p.jobs i job p.task.budget c.loop-job.parts.left is c.loop-job.invariant.3 (c.in_err-fill.ensures.over (ap Err same))

pub loop-job-preserved : goal.loop-job-preserved
loop-job-preserved g c =
    let p = c.args.plan.now in
    let i = c.loop-job.job-index in
    let job = get_or c.jobs-job-items.result.now i (Inner 0) in
    let is = ap (λ js. slice_get js i) (sym c.jobs-job-items.ensures) ∙ slice_get-get_or c.jobs-job-items.result.now i (Inner 0) c.loop-job-test.true in
    let h = c.in_ok-fill.ensures in (
      h.kept,
      h.size ∙ c.loop-job.invariant.1,
      filled_more p.jobs c.loop-job.parts.rows.items c.fill.new.parts.rows.items i job is c.loop-job.invariant.2 h.still h.filled,
      cost_more p.task (trees_of p.graph.nodes) p.jobs i job p.task.budget c.loop-job.parts.left c.fill.new.parts.left is c.loop-job.invariant.3 h.left,
    )

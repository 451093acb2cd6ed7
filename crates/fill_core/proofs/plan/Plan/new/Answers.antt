use Rattle.std.proofs.Common.{◌≡◌, ap, ◌∙◌, length, arith}
use Rattle.fill_core.specs.Plans.{jobs_of, IsPlan}
use Rattle.fill_core.proofs.PlanLaws.{jobs_few}
use Rattle.fill_core.proofs.plan.Plan.new.Goals as goal

pub invariant_of-result : goal.invariant_of-result
invariant_of-result c =
    let nodes = c.args.graph.nodes in
    let roots = c.args.roots.items in
    let listed : c.in_ok-jobs.jobs.items ≡ jobs_of nodes roots = c.in_ok-jobs.ensures ∙ ap (jobs_of nodes) c.as_slice.ensures.value in
    let size = ap length listed in
    let most = jobs_few nodes roots c.is_ordered.ensures.few c.requires.ascend c.requires.within in
    let planned : IsPlan c.args.task.now c.args.graph roots c.in_ok-jobs.jobs.items = record {
      trees = c.requires.graph;
      ordered = c.is_ordered.ensures;
      ascend = c.requires.ascend;
      within = c.requires.within;
      listed = listed;
      few = omega (arith, size, most);
    } in (planned, c.in_ok-source.ensures.ok ∙ c.in_ok-copy.ensures ∙ c.parts.ensures.parts)

use Rattle.std.proofs.Common.{◌≡◌, ◌++◌, length, map, ap, ◌∙◌, arith}
use Rattle.fill_core.specs.Marks.{inner_jobs, marks_below}
use Rattle.fill_core.specs.declared.job.Job.TheVariants.{Root}
use Rattle.skeleton_graph.proofs.AboveLaws.{falls_of}
use Rattle.fill_core.proofs.PlanLaws.{marks_size, inner_listed}
use Rattle.fill_core.proofs.inner.jobs_of.Goals as goal

pub inner_jobs-requires : goal.inner_jobs-requires
inner_jobs-requires c =
    let nodes = c.args.graph.now.nodes in
    let marks : length c.as_slice.result.now ≡ length nodes = ap length (c.as_slice.ensures.value ∙ c.in_ok-marks.ensures) ∙ marks_size nodes c.args.roots.now in
    let few = c.is_ordered.ensures.few in
    omega (arith, marks, few)

pub returns : goal.returns
returns c =
    let nodes = c.args.graph.now.nodes in
    let roots = c.args.roots.now in
    let marks : c.as_slice.result.now ≡ marks_below nodes roots = c.as_slice.ensures.value ∙ c.in_ok-marks.ensures in
    c.in_ok-push_roots.ensures
    ∙ ap (λ jobs. jobs ++ map Root roots) (c.in_ok-jobs.ensures ∙ ap (inner_jobs 0) marks ∙ inner_listed nodes roots (falls_of nodes c.args.graph.now.types c.is_ordered.ensures))

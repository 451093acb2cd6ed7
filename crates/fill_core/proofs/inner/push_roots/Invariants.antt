use Rattle.std.proofs.Common.{◌≡◌, ◌++◌, map, drop}
use Rattle.fill_core.specs.declared.job.Job.TheVariants.{Root}
use Rattle.fill_core.proofs.inner.push_roots.Given as goal

abbrev pub invariant-loop-root : goal.invariant-loop-root
invariant-loop-root l = l.jobs.items ++ map Root (drop l.root-index l.roots) ≡ l.initial.jobs.items ++ map Root l.roots

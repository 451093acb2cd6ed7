use Rattle.std.proofs.Common.{◌≡◌, ◌++◌, drop}
use Rattle.fill_core.specs.Marks.{inner_jobs}
use Rattle.fill_core.proofs.inner.inner_jobs.Given as goal

abbrev pub invariant-loop-k : goal.invariant-loop-k
invariant-loop-k l = l.jobs.items ++ inner_jobs l.k (drop l.k l.marks) ≡ inner_jobs 0 l.marks

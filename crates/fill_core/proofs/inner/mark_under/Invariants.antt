use Rattle.std.proofs.Common.{◌≡◌, drop}
use Rattle.fill_core.specs.Marks.{marked_under}
use Rattle.fill_core.proofs.inner.mark_under.Given as goal

abbrev pub invariant-loop-k : goal.invariant-loop-k
invariant-loop-k l = marked_under l.graph.nodes l.marks (drop l.k-index l.numbers) ≡ marked_under l.graph.nodes l.initial.marks l.numbers

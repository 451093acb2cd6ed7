use Rattle.std.proofs.Common.{◌≡◌, ◌+◌, ◌≤◌, length, drop}
use Rattle.predicate_core.specs.Atoms.{column_with_constants}
use Rattle.predicate_core.specs.Search.{searched}
use Rattle.predicate_core.proofs.search.pass_constants.Given as goal

abbrev pub invariant-loop-k : goal.invariant-loop-k
invariant-loop-k l =
    (searched l.search (column_with_constants l.i l.t l.k (drop l.k l.constants)) ≡ searched l.fn.s (column_with_constants l.i l.t 0 l.constants))
    × (l.search.count + length (column_with_constants l.i l.t l.k (drop l.k l.constants)) ≤ 100000)

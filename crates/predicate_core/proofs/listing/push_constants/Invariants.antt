use Rattle.std.proofs.Common.{◌≡◌, ◌++◌, drop}
use Rattle.predicate_core.specs.Atoms.{column_with_constants}
use Rattle.predicate_core.proofs.listing.push_constants.Given as goal

abbrev pub invariant-loop-k : goal.invariant-loop-k
invariant-loop-k l = l.atoms ++ column_with_constants l.i l.t l.k (drop l.k l.constants) ≡ l.initial.atoms ++ column_with_constants l.i l.t 0 l.constants

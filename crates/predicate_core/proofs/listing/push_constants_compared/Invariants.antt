use Rattle.std.proofs.Common.{◌≡◌, ◌++◌, drop}
use Rattle.predicate_core.specs.Atoms.{constants_compared}
use Rattle.predicate_core.proofs.listing.push_constants_compared.Given as goal

abbrev pub invariant-loop-i : goal.invariant-loop-i
invariant-loop-i l = l.atoms ++ constants_compared l.i l.constants (drop l.i l.types) ≡ l.initial.atoms ++ constants_compared 0 l.constants l.types

use Rattle.std.proofs.Common.{◌≡◌, ◌++◌, drop}
use Rattle.predicate_core.specs.Atoms.{columns_compared}
use Rattle.predicate_core.proofs.listing.push_columns_compared.Given as goal

abbrev pub invariant-loop-i : goal.invariant-loop-i
invariant-loop-i l = l.atoms ++ columns_compared l.i (drop l.i l.types) ≡ l.initial.atoms ++ columns_compared 0 l.types

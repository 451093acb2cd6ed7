use Rattle.std.proofs.Common.{◌≡◌, ◌++◌, drop}
use Rattle.predicate_core.specs.Atoms.{null_tests}
use Rattle.predicate_core.proofs.listing.push_null_tests.Given as goal

abbrev pub invariant-loop-i : goal.invariant-loop-i
invariant-loop-i l = l.atoms ++ null_tests l.i (drop l.i l.types) ≡ l.initial.atoms ++ null_tests 0 l.types

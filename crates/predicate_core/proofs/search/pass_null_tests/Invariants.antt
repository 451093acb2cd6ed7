use Rattle.std.proofs.Common.{◌≡◌, ◌+◌, ◌≤◌, length, drop}
use Rattle.predicate_core.specs.Atoms.{null_tests}
use Rattle.predicate_core.specs.Search.{searched}
use Rattle.predicate_core.proofs.search.pass_null_tests.Given as goal

abbrev pub invariant-loop-i : goal.invariant-loop-i
invariant-loop-i l =
    (searched l.search (null_tests l.i (drop l.i l.types)) ≡ searched l.fn.s (null_tests 0 l.types))
    × (l.search.count + length (null_tests l.i (drop l.i l.types)) ≤ 100000)

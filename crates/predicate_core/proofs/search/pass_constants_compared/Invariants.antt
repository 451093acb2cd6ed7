use Rattle.std.proofs.Common.{◌≡◌, ◌+◌, ◌≤◌, length, drop}
use Rattle.predicate_core.specs.Atoms.{constants_compared}
use Rattle.predicate_core.specs.Search.{searched}
use Rattle.predicate_core.proofs.search.pass_constants_compared.Given as goal

abbrev pub invariant-loop-i : goal.invariant-loop-i
invariant-loop-i l =
    (searched l.search (constants_compared l.i l.constants (drop l.i l.types)) ≡ searched l.fn.s (constants_compared 0 l.constants l.types))
    × (l.search.count + length (constants_compared l.i l.constants (drop l.i l.types)) ≤ 100000)

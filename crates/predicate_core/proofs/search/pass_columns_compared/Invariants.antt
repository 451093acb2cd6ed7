use Rattle.std.proofs.Common.{◌≡◌, ◌+◌, ◌≤◌, length, drop}
use Rattle.predicate_core.specs.Atoms.{columns_compared}
use Rattle.predicate_core.specs.Search.{searched}
use Rattle.predicate_core.proofs.search.pass_columns_compared.Given as goal

abbrev pub invariant-loop-i : goal.invariant-loop-i
invariant-loop-i l =
    (searched l.search (columns_compared l.i (drop l.i l.types)) ≡ searched l.fn.s (columns_compared 0 l.types))
    × (l.search.count + length (columns_compared l.i (drop l.i l.types)) ≤ 100000)

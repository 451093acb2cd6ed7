use Rattle.std.proofs.Common.{◌≡◌, ◌+◌, ◌≤◌, length, drop}
use Rattle.predicate_core.specs.Atoms.{column_with_columns}
use Rattle.predicate_core.specs.Search.{searched}
use Rattle.predicate_core.proofs.search.pass_later_columns.Given as goal

abbrev pub invariant-loop-j : goal.invariant-loop-j
invariant-loop-j l =
    (searched l.search (column_with_columns l.i l.t l.j (drop l.j l.types)) ≡ searched l.fn.s (column_with_columns l.i l.t (l.i + 1) (drop (l.i + 1) l.types)))
    × (l.search.count + length (column_with_columns l.i l.t l.j (drop l.j l.types)) ≤ 100000)

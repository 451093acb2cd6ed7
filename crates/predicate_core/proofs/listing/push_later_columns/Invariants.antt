use Rattle.std.proofs.Common.{◌≡◌, ◌+◌, ◌++◌, drop}
use Rattle.predicate_core.specs.Atoms.{column_with_columns}
use Rattle.predicate_core.proofs.listing.push_later_columns.Given as goal

abbrev pub invariant-loop-j : goal.invariant-loop-j
invariant-loop-j l = l.atoms ++ column_with_columns l.i l.t l.j (drop l.j l.types) ≡ l.initial.atoms ++ column_with_columns l.i l.t (l.i + 1) (drop (l.i + 1) l.types)

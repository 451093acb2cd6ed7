use Rattle.std.proofs.Common.{◌≡◌, drop}
use Rattle.std.specs.List.{slice_get}
use Rattle.predicate_core.specs.Atoms.{triples}
use Rattle.predicate_core.proofs.numbers.triple_at.Given as goal

abbrev pub invariant-loop-i : goal.invariant-loop-i
invariant-loop-i l = slice_get (triples (drop l.i l.atoms)) l.k ≡ slice_get (triples l.atoms) l.fn.number

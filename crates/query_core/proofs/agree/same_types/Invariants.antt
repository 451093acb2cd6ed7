use Rattle.std.proofs.Common.{◌≡◌, length, drop}
use Rattle.std.specs.Cmp.Lexicographic.{pointwise}
use Rattle.value_core.specs.Value.{same_type}
use Rattle.query_core.proofs.agree.same_types.Given as goal

abbrev pub invariant-loop-i : goal.invariant-loop-i
invariant-loop-i l = (length l.a ≡ length l.b) × (pointwise same_type l.a l.b ≡ pointwise same_type (drop l.i l.a) (drop l.i l.b))

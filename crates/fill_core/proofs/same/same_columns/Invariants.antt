use Rattle.std.proofs.Common.{◌≡◌, length, drop}
use Rattle.std.specs.Cmp.Lexicographic.{pointwise}
use Rattle.fill_core.specs.Fits.{same_column}
use Rattle.fill_core.proofs.same.same_columns.Given as goal

abbrev pub invariant-loop-i : goal.invariant-loop-i
invariant-loop-i l = (length l.a ≡ length l.b) × (pointwise same_column l.a l.b ≡ pointwise same_column (drop l.i l.a) (drop l.i l.b))

use Rattle.std.proofs.Common.{◌≡◌, ◌++◌, drop}
use Rattle.bit_rows.specs.Masked.{masked}
use Rattle.fill_core.proofs.bits.masked_rows.Given as goal

abbrev pub invariant-loop-i : goal.invariant-loop-i
invariant-loop-i l = l.out ++ masked (drop l.i l.bits) (drop l.i l.rows) ≡ masked l.bits l.rows

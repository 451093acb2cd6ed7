use Rattle.std.proofs.Common.{◌≡◌, take}
use Rattle.bit_classes.specs.Walk.{sifted}
use Rattle.bit_classes.proofs.sift.sift_rows.Given as goal

abbrev pub invariant-loop-row : goal.invariant-loop-row
invariant-loop-row g l = l.copies.items ≡ sifted (g.S.Sieve.may l.sieve l.join) (take l.row-index l.rows)

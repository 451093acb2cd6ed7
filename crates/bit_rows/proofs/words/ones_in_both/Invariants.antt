use Rattle.std.proofs.Common.{◌≡◌, take}
use Rattle.std.specs.Prelude.{bit_and, count_ones}
use Rattle.std.specs.List.{sum_by}
use lib.Lanes.{zip2}
use Rattle.bit_rows.proofs.words.ones_in_both.Given as goal

abbrev pub invariant-loop-k : goal.invariant-loop-k
invariant-loop-k l = l.total ≡ sum_by count_ones (take l.k (zip2 (λ x y. bit_and x y) l.a l.b))

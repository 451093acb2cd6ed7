use Rattle.std.proofs.Common.{◌≡◌, ◌++◌, drop}
use Rattle.std.specs.Prelude.{bit_and}
use lib.Lanes.{zip2}
use Rattle.bit_rows.proofs.words.and_words.Given as goal

abbrev pub invariant-loop-k : goal.invariant-loop-k
invariant-loop-k l = l.words.items ++ zip2 (λ x y. bit_and x y) (drop l.k l.a) (drop l.k l.b) ≡ zip2 (λ x y. bit_and x y) l.a l.b

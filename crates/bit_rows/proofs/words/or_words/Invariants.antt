use Rattle.std.proofs.Common.{◌≡◌, ◌++◌, drop}
use Rattle.std.specs.Prelude.{bit_or}
use lib.Lanes.{zip2}
use Rattle.bit_rows.proofs.words.or_words.Given as goal

abbrev pub invariant-loop-k : goal.invariant-loop-k
invariant-loop-k l = l.words.items ++ zip2 (λ x y. bit_or x y) (drop l.k l.a) (drop l.k l.b) ≡ zip2 (λ x y. bit_or x y) l.a l.b

use Rattle.std.proofs.Common.{arith}
use Rattle.std.specs.Prelude.{bit_or}
use Rattle.bit_rows.proofs.PackLaws.{joined_by_places}
use Rattle.bit_rows.proofs.words.set_or_words.Goals as goal

pub returns : goal.returns
returns c = joined_by_places (λ x y. bit_or x y) c.args.a.now c.args.b.now c.loop-k.out c.requires.right (omega arith) (λ k below. c.loop-k.invariant k (omega arith))

use Rattle.std.proofs.Common.{refl, ap, ◌∙◌, arith}
use Rattle.std.specs.Prelude.{bit_and, count_ones}
use Rattle.std.specs.List.{sum_by}
use Rattle.std.proofs.lemmas.List.{take_all}
use Rattle.std.proofs.lemmas.Simd.{length-zip2}
use lib.Lanes.{zip2}
use Rattle.bit_rows.proofs.PackLaws.{ones_both_more, ones_both_within}
use Rattle.bit_rows.proofs.words.ones_in_both.Goals as goal

pub overflow_add-total : goal.overflow_add-total
overflow_add-total c = omega (arith, ones_both_within c.args.a.now c.args.b.now c.loop-k.k c.requires.lengths c.loop-k-test.true)

pub loop-k-preserved : goal.loop-k-preserved
loop-k-preserved c = rw (ones_both_more c.args.a.now c.args.b.now c.loop-k.k c.requires.lengths c.loop-k-test.true, ← c.loop-k.invariant) refl

pub returns : goal.returns
returns c =
    let all = zip2 (λ x y. bit_and x y) c.args.a.now c.args.b.now in
    c.loop-k.invariant ∙ ap (sum_by count_ones) (take_all c.loop-k.k all (omega (arith, length-zip2 (λ x y. bit_and x y) c.args.a.now c.args.b.now c.requires.lengths)))

use Rattle.std.proofs.Common.{arith}
use Rattle.std.proofs.lemmas.Int.{ints}
use Rattle.bag_eval.proofs.ValueLaws.{exact_sum_next}
use Rattle.bag_eval.proofs.values.exact_sum.Goals as goal

pub loop-value-preserved : goal.loop-value-preserved
loop-value-preserved c =
    let next = rw (← c.value-item.is) at (exact_sum_next c.args.values.now c.loop-value.value-index c.value-item.result (omega arith)) in
    (omega (arith, ints), omega (arith, ints), omega (arith, ints))

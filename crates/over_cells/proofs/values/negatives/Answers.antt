use Rattle.std.proofs.Common.{arith}
use Rattle.std.proofs.lemmas.Int.{ints}
use Rattle.over_cells.proofs.SumLaws.{negatives_next}
use Rattle.over_cells.proofs.values.negatives.Goals as goal

pub loop-value-preserved : goal.loop-value-preserved
loop-value-preserved c =
    let next = rw (← c.value-item.is) at (negatives_next c.args.values.now c.loop-value.value-index c.value-item.result (omega arith)) in
    (omega (arith, ints), omega (arith, ints), omega (arith, ints))

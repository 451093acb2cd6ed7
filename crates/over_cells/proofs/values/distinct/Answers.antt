use Rattle.std.proofs.Common.{arith}
use Rattle.over_cells.proofs.DistinctLaws.{distinct_step}
use Rattle.over_cells.proofs.values.distinct.Goals as goal

pub loop-value-preserved : goal.loop-value-preserved
loop-value-preserved c = distinct_step c.args.values.now c.loop-value.out _ c.loop-value.value-index c.value-item.result (omega arith) c.value-item.is c.in_ok-push_distinct.ensures c.loop-value.invariant

use Rattle.std.proofs.Common.{arith, ◌+◌}
use Rattle.fill_core.proofs.MaskLaws.{next_part}
use Rattle.root_search.proofs.PairLaws.{paired_loop}
use Rattle.root_search.proofs.paired.paired_bits.Goals as goal

pub loop-left-preserved : goal.loop-left-preserved
loop-left-preserved c = (
  next_part c.loop-left._left (c.args.rights + 1) c.loop-left.from _ c.loop-left.invariant.0 (omega arith),
  paired_loop c.loop-left.out.items c.push_bits.new.out.items _ c.args.bits.now c.loop-left._left c.args.lefts c.args.rights c.loop-left.from c.loop-left-test.true c.in_ok-push_bits.ensures c.loop-left.invariant.1,
)

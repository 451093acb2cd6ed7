use Rattle.std.proofs.Common.{arith, refl}
use Rattle.fill_core.proofs.MaskLaws.{part_within, next_part, alone_loop}
use Rattle.fill_core.proofs.bits.with_alone.Goals as goal

pub overflow_add-from : goal.overflow_add-from
overflow_add-from c = search (arith, part_within c.loop-left._left c.args.lefts c.args.rights c.loop-left-test.true, c.loop-left.invariant.0, c.requires, c.len-len.ensures)

pub loop-left-preserved : goal.loop-left-preserved
loop-left-preserved c = (
  next_part c.loop-left._left c.args.rights c.loop-left.from _ c.loop-left.invariant.0 refl,
  alone_loop c.loop-left.out.items c.push_left.new.out.items _ c.args.bits.now c.loop-left._left c.args.lefts c.args.rights c.loop-left.from c.loop-left-test.true c.in_ok-push_left.ensures c.loop-left.invariant.1,
)

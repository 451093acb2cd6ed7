use Rattle.map_walk.proofs.NarrowLaws.{fitting_at, fitting_below, push_more}
use Rattle.map_walk.specs.Narrow.{narrowed}
use Rattle.map_walk.proofs.target.narrowed.Goals as goal

pub bounds-masks-i : goal.bounds-masks-i
bounds-masks-i c = fitting_below c.args.targets.now c.args.masks.now c.loop-i.i c.requires c.loop-i-test.true

pub narrow-requires : goal.narrow-requires
narrow-requires c = fitting_at c.args.targets.now c.args.masks.now c.loop-i.i c.index-targets-i.result c.index-masks-i.result c.requires c.loop-i-test.true c.index-targets-i.is c.index-masks-i.is

pub loop-i-preserved : goal.loop-i-preserved
loop-i-preserved c =
    let ts = c.args.targets.now in
    let ms = c.args.masks.now in
    push_more ts ms c.loop-i.i c.index-targets-i.result c.index-masks-i.result c.loop-i.out c.push.new.self (narrowed ts ms) c.in_ok-narrow.field-0 c.requires c.loop-i-test.true c.index-targets-i.is c.index-masks-i.is c.loop-i.invariant c.in_ok-narrow.ensures c.in_ok-push.ensures.ok

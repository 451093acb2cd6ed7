use Rattle.std.proofs.Common.{◌≡◌, sym, ◌∙◌, true, false, rules}
use Rattle.map_walk.proofs.NarrowLaws.{fitting_at, fitting_below, enough_more}
use Rattle.map_walk.specs.Narrow.{narrowed}
use Rattle.map_walk.specs.Targets.{are_enough}
use Rattle.map_walk.proofs.target.stay_enough.Goals as goal

pub bounds-masks-i : goal.bounds-masks-i
bounds-masks-i c = fitting_below c.args.targets.now c.args.masks.now c.loop-i.i c.requires c.loop-i-test.true

pub stays_enough-requires : goal.stays_enough-requires
stays_enough-requires c = fitting_at c.args.targets.now c.args.masks.now c.loop-i.i c.index-targets-i.result c.index-masks-i.result c.requires c.loop-i-test.true c.index-targets-i.is c.index-masks-i.is

pub returns-then-not-stays_enough : goal.returns-then-not-stays_enough
returns-then-not-stays_enough c =
    let ts = c.args.targets.now in
    let ms = c.args.masks.now in
    let few : c.stays_enough.result ≡ false = search rules in
    sym (enough_more ts ms c.loop-i.i c.index-targets-i.result c.index-masks-i.result (are_enough (narrowed ts ms)) false c.requires c.loop-i-test.true c.index-targets-i.is c.index-masks-i.is c.loop-i.invariant (sym c.stays_enough.ensures ∙ few))

pub loop-i-preserved : goal.loop-i-preserved
loop-i-preserved c =
    let ts = c.args.targets.now in
    let ms = c.args.masks.now in
    let enough : c.stays_enough.result ≡ true = search rules in
    enough_more ts ms c.loop-i.i c.index-targets-i.result c.index-masks-i.result (are_enough (narrowed ts ms)) true c.requires c.loop-i-test.true c.index-targets-i.is c.index-masks-i.is c.loop-i.invariant (sym c.stays_enough.ensures ∙ enough)

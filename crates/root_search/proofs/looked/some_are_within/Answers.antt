use Rattle.std.proofs.Common.{◌≡◌, true, false, sym, ◌∙◌, rules}
use Rattle.root_search.proofs.WantedLaws.{within_next}
use Rattle.root_search.proofs.looked.some_are_within.Goals as goal

pub returns-then-keep_no_others : goal.returns-then-keep_no_others
returns-then-keep_no_others c =
    sym (within_next c.args.bits.now c.args.readings.now c.loop-i.i c.index-readings-i.result c.as_slice.result.now true _ c.loop-i-test.true c.as_slice.ensures (sym c.if-keep_no_others.true ∙ c.keep_no_others.ensures) c.loop-i.invariant)

pub loop-i-preserved : goal.loop-i-preserved
loop-i-preserved c =
    let others : c.keep_no_others.result ≡ false = search (rules, c.if-keep_no_others.false) in
    within_next c.args.bits.now c.args.readings.now c.loop-i.i c.index-readings-i.result c.as_slice.result.now false _ c.loop-i-test.true c.as_slice.ensures (sym others ∙ c.keep_no_others.ensures) c.loop-i.invariant

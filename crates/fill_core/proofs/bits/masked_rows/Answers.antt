use Rattle.std.proofs.Common.{◌∙◌, ap, sym, arith}
use Rattle.std.specs.Prelude.{unwrap_or, false, Some}
use Rattle.std.proofs.lemmas.Option.{slice_get-get_or}
use Rattle.fill_core.proofs.MaskLaws.{masked_loop, masked_end}
use Rattle.fill_core.proofs.bits.masked_rows.Goals as goal

pub loop-i-preserved : goal.loop-i-preserved
loop-i-preserved c =
    masked_loop c.loop-i.out c.push_kept.new.out _ c.args.bits.now c.args.rows.now c.loop-i.i c.index-rows-i.result c.unwrap_or.result
    (slice_get-get_or c.args.rows.now c.loop-i.i c.index-rows-i.result c.loop-i-test.true ∙ ap Some (sym c.index-rows-i.is)) (c.unwrap_or.ensures ∙ ap (λ o. unwrap_or o false) c.bit.ensures) c.in_ok-push_kept.ensures c.loop-i.invariant

pub returns : goal.returns
returns c = masked_end c.loop-i.out _ c.args.bits.now c.args.rows.now c.loop-i.i (omega (arith, c.loop-i-test.false)) c.loop-i.invariant

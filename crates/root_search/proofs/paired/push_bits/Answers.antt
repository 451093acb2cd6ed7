use Rattle.std.proofs.Common.{◌≡◌, ◌∙◌, ◌+◌, ◌++◌, ◌∷◌, [], ap, sym, arith, append_assoc, take, drop, length, ◌<◌}
use Rattle.std.specs.Prelude.{unwrap_or, slice_get, false}
use Rattle.fill_core.proofs.MaskLaws.{take_bit}
use Rattle.root_search.proofs.paired.push_bits.Goals as goal

pub loop-k-preserved : goal.loop-k-preserved
loop-k-preserved c =
    let bits = c.args.bits.now in
    let from = c.args.from in
    let k = c.loop-k.k in
    let within : from + k < length bits = omega (arith, c.requires, c.loop-k-test.true) in
    let kept : c.unwrap_or.result ≡ unwrap_or (slice_get bits (from + k)) false = c.unwrap_or.ensures ∙ ap (λ o. unwrap_or o false) c.bit.ensures in
    c.in_ok-push.ensures.items
    ∙ ap (λ t. t ++ c.unwrap_or.result ∷ []) c.loop-k.invariant
    ∙ append_assoc c.args.out.now.items (take k (drop from bits)) (c.unwrap_or.result ∷ [])
    ∙ ap (λ b. c.args.out.now.items ++ (take k (drop from bits) ++ b ∷ [])) kept
    ∙ ap (λ t. c.args.out.now.items ++ t) (sym (take_bit bits from k within))

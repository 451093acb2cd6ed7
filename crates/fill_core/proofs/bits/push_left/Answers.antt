use Rattle.std.proofs.Common.{◌∙◌, ◌+◌, ◌++◌, ◌∷◌, [], Bool, ◌&&◌, ◌≡◌, ap, sym, arith, append_assoc, not, take, drop, length, ◌<◌}
use Rattle.std.specs.Prelude.{unwrap_or, slice_get, false}
use Rattle.std.specs.List.{list_any}
use Rattle.fill_core.proofs.MaskLaws.{take_bit, none_more, and_then, and_else}
use Rattle.fill_core.proofs.bits.push_left.Goals.{then-alone, else-alone}
use Rattle.fill_core.proofs.bits.push_left.Goals as goal

pub loop-k-preserved : goal.loop-k-preserved
loop-k-preserved c =
    let bits = c.args.bits.now in
    let from = c.args.from in
    let k = c.loop-k.k in
    let within : from + k < length bits = omega (arith, c.requires, c.loop-k-test.true) in
    let bit : Bool = unwrap_or (slice_get bits (from + k)) false in
    let so_far : Bool = not (list_any (λ x. x) (take k (drop from bits))) in
    let kept : c.unwrap_or-kept.result ≡ bit = c.unwrap_or-kept.ensures ∙ ap (λ o. unwrap_or o false) c.bit.ensures in
    let none : (so_far && not bit) ≡ not (list_any (λ x. x) (take (k + 1) (drop from bits))) = sym (none_more bits from k within) in (
      c.in_ok-push.ensures.items
          ∙ ap (λ t. t ++ c.unwrap_or-kept.result ∷ []) c.loop-k.invariant.0
          ∙ append_assoc c.args.out.now.items (take k (drop from bits)) (c.unwrap_or-kept.result ∷ [])
          ∙ ap (λ b. c.args.out.now.items ++ (take k (drop from bits) ++ b ∷ [])) kept
          ∙ ap (λ t. c.args.out.now.items ++ t) (sym (take_bit bits from k within)),
      elim c.if-alone.branch [
        | then-alone w ↦ and_then c.loop-k.alone so_far (not bit) c.if-alone.alone c.loop-k.invariant.1 w.if-alone.true (w.alone-is ∙ ap not kept) ∙ none
        | else-alone w ↦ and_else c.loop-k.alone so_far (not bit) c.if-alone.alone c.loop-k.invariant.1 w.if-alone.false (w.alone-is ∙ w.if-alone.false) ∙ none
      ],
    )

use Rattle.std.proofs.Common.{◌≡◌, sym, ap, ◌∙◌, [], ◌∷◌, ◌++◌, ◌*◌, take, drop, arith}
use Rattle.std.proofs.lemmas.List.{take_rest}
use Rattle.std.proofs.lemmas.Grind.{common_steps}
use lib.Lanes.{mask_l}
use Rattle.bit_rows.proofs.PackLaws.{packed_more}
use Rattle.bit_rows.proofs.words.pack.Goals as goal

pub loop-k-preserved : goal.loop-k-preserved
loop-k-preserved c =
    let words = c.loop-k.words.items in
    let word = c.first_word-word.result in
    let pushed : c.push.new.self.items ≡ words ++ word ∷ [] = grind (arith, common_steps) in
    pushed ∙ ap (λ w. words ++ w ∷ []) (c.first_word-word.ensures ∙ ap (λ bs. mask_l (take 64 bs)) (take_rest c.args.bits.now (c.loop-k.k * 64))) ∙ ap (λ ws. ws ++ mask_l (take 64 (drop (c.loop-k.k * 64) c.args.bits.now)) ∷ []) c.loop-k.invariant ∙ sym (packed_more c.args.bits.now c.loop-k.k)

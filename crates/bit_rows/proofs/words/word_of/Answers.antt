use Rattle.std.proofs.Common.{◌≡◌, ◌+◌, ◌-◌, drop, get_or, false, arith}
use lib.Lanes.{mask_l}
use Rattle.bit_rows.proofs.PackLaws.{next_word, from_bool_is}
use Rattle.bit_rows.proofs.words.word_of.Goals as goal

pub overflow_mul-word : goal.overflow_mul-word
overflow_mul-word c =
    let i = c.loop-i.i - 1 in
    let place : c.loop-i.i ≡ i + 1 = omega arith in
    let word : c.loop-i.word ≡ mask_l (drop (i + 1) c.args.bits.now) = rw (← place) c.loop-i.invariant in
    omega (arith, next_word c.args.bits.now i c.loop-i.word word (omega arith) c.requires)

pub overflow_add-word : goal.overflow_add-word
overflow_add-word c =
    let i = c.loop-i.i - 1 in
    let place : c.loop-i.i ≡ i + 1 = omega arith in
    let word : c.loop-i.word ≡ mask_l (drop (i + 1) c.args.bits.now) = rw (← place) c.loop-i.invariant in
    omega (arith, next_word c.args.bits.now i c.loop-i.word word (omega arith) c.requires, c.from.ensures, from_bool_is (get_or c.args.bits.now i false))

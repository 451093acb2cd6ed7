use Rattle.std.proofs.Common.{ap, sym, ◌∙◌, ◌/◌, ◌%◌, arith}
use Rattle.std.specs.List.{slice_get}
use Rattle.std.proofs.lemmas.List.{get_or_read}
use Rattle.std.proofs.lemmas.Nat.Bits.{shr_and_one}
use Rattle.bit_rows.proofs.PackLaws.{word_there, bit_found, bit_missing}
use Rattle.bit_rows.proofs.bit_row.BitRow.bit.Goals as goal

pub index-word-requires : goal.index-word-requires
index-word-requires c =
    let row = c.self.inside in
    omega (arith, word_there row.len row.words.items c.args.i c.self.invariant c.if-i-self.true, row.words.ok.0)

pub returns-then-i-self : goal.returns-then-i-self
returns-then-i-self c =
    let row = c.self.inside in
    let i = c.args.i in
    let within = word_there row.len row.words.items i c.self.invariant c.if-i-self.true in
    let word = get_or_read row.words.items (i / 64) c.index-word.result.now within c.index-word.ensures 0 in
    rw (shr_and_one c.index-word.result.now (i % 64), word)
    (sym (bit_found row.len row.words.items i c.if-i-self.true) ∙ ap (λ bits. slice_get bits i) c.self.view_is)

pub returns-else-i-self : goal.returns-else-i-self
returns-else-i-self c =
    let row = c.self.inside in
    sym (bit_missing row.len row.words.items c.args.i c.if-i-self.false) ∙ ap (λ bits. slice_get bits c.args.i) c.self.view_is

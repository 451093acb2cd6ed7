use Rattle.std.proofs.Common.{◌≡◌, sym, subst, ◌∙◌, ℕ, List, length, arith}
use Rattle.std.specs.Prelude.{bit_or}
use Rattle.std.specs.Vec.{with_items}
use Rattle.std.proofs.lemmas.List.{with_items_is}
use lib.Lanes.{zip2}
use Rattle.bit_rows.specs.Bits.{or_bits}
use Rattle.bit_rows.specs.Packing.{packed, unpacked}
use Rattle.bit_rows.proofs.PackLaws.{length_of, or_row}
use Rattle.bit_rows.proofs.bit_row.BitRow.set_or.Goals as goal

pub invariant_of-self : goal.invariant_of-self
invariant_of-self c =
    let row = c.self.inside in
    let a = c.a.inside in
    let b = c.b.inside in
    let words = c.set_or_words.new.out in
    let joined : words ≡ zip2 (λ x y. bit_or x y) a.words.items b.words.items = cc (c.set_or_words.ensures, c.as_slice.ensures.value, c.as_slice-2.ensures.value) in
    let long : row.len ≡ length c.args.a.now = length_of row.len row.words.items c.args.self.now c.self.view_is ∙ c.requires.left in
    let row_is = or_row row.len a.len b.len a.words.items b.words.items words c.args.a.now c.args.b.now c.a.invariant c.b.invariant c.a.view_is c.b.view_is c.requires.right long joined in
    let whole : (with_items row.words words).items ≡ words = with_items_is row.words words (omega arith) in
    let P : List ℕ → Type 0 = λ ws. ws ≡ packed (unpacked row.len ws) in
    subst P (sym whole) row_is.0

pub returns : goal.returns
returns c =
    let row = c.self.inside in
    let a = c.a.inside in
    let b = c.b.inside in
    let words = c.set_or_words.new.out in
    let joined : words ≡ zip2 (λ x y. bit_or x y) a.words.items b.words.items = cc (c.set_or_words.ensures, c.as_slice.ensures.value, c.as_slice-2.ensures.value) in
    let long : row.len ≡ length c.args.a.now = length_of row.len row.words.items c.args.self.now c.self.view_is ∙ c.requires.left in
    let row_is = or_row row.len a.len b.len a.words.items b.words.items words c.args.a.now c.args.b.now c.a.invariant c.b.invariant c.a.view_is c.b.view_is c.requires.right long joined in
    let whole : (with_items row.words words).items ≡ words = with_items_is row.words words (omega arith) in
    let P : List ℕ → Type 0 = λ ws. unpacked row.len ws ≡ or_bits c.args.a.now c.args.b.now in
    subst P (sym whole) row_is.1

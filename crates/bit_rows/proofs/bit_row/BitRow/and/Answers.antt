use Rattle.std.proofs.Common.{◌≡◌}
use Rattle.std.specs.Prelude.{bit_and}
use lib.Lanes.{zip2}
use Rattle.bit_rows.proofs.PackLaws.{length_of, and_row}
use Rattle.bit_rows.proofs.bit_row.BitRow.and.Goals as goal

pub invariant_of-result : goal.invariant_of-result
invariant_of-result c =
    let a = c.self.inside in
    let b = c.other.inside in
    let words = c.in_ok-words.words.items in
    let joined : words ≡ zip2 (λ x y. bit_and x y) a.words.items b.words.items = cc (c.in_ok-words.ensures, c.as_slice.ensures.value, c.as_slice-2.ensures.value) in
    let long = length_of a.len a.words.items c.args.self.now c.self.view_is in
    (and_row a.len a.len b.len a.words.items b.words.items words c.args.self.now c.args.other.now c.self.invariant c.other.invariant c.self.view_is c.other.view_is c.requires long joined).0

pub returns : goal.returns
returns c =
    let a = c.self.inside in
    let b = c.other.inside in
    let words = c.in_ok-words.words.items in
    let joined : words ≡ zip2 (λ x y. bit_and x y) a.words.items b.words.items = cc (c.in_ok-words.ensures, c.as_slice.ensures.value, c.as_slice-2.ensures.value) in
    let long = length_of a.len a.words.items c.args.self.now c.self.view_is in
    (and_row a.len a.len b.len a.words.items b.words.items words c.args.self.now c.args.other.now c.self.invariant c.other.invariant c.self.view_is c.other.view_is c.requires long joined).1

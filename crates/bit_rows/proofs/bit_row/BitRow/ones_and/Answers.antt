use Rattle.std.proofs.Common.{arith}
use Rattle.bit_rows.proofs.PackLaws.{ones_and_row, ones_and_fit}
use Rattle.bit_rows.proofs.bit_row.BitRow.ones_and.Goals as goal

pub ones_in_both-requires-clause-fits : goal.ones_in_both-requires-clause-fits
ones_in_both-requires-clause-fits c =
    let a = c.self.inside in
    let b = c.other.inside in
    rw (c.as_slice.ensures.value, c.as_slice-2.ensures.value)
    (ones_and_fit a.len b.len a.words.items b.words.items c.args.self.now c.args.other.now c.self.invariant c.other.invariant c.self.view_is c.other.view_is c.requires (omega arith))

pub returns : goal.returns
returns c =
    let a = c.self.inside in
    let b = c.other.inside in
    rw (c.ones_in_both.ensures, c.as_slice.ensures.value, c.as_slice-2.ensures.value)
    (ones_and_row a.len b.len a.words.items b.words.items c.args.self.now c.args.other.now c.self.invariant c.other.invariant c.self.view_is c.other.view_is c.requires)

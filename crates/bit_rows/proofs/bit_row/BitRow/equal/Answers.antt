use Rattle.bit_rows.proofs.PackLaws.{same_words, other_lengths}
use Rattle.bit_rows.proofs.bit_row.BitRow.equal.Goals as goal

pub returns-then-self-other : goal.returns-then-self-other
returns-then-self-other c =
    let a = c.self.inside in
    let b = c.other.inside in
    rw (c.eq.ensures, c.as_slice.ensures.value, c.as_slice-then-self-other.ensures.value)
    (same_words a.len b.len a.words.items b.words.items c.args.self.now c.args.other.now c.self.invariant c.other.invariant c.self.view_is c.other.view_is c.if-self-other.true)

pub returns-else-self-other : goal.returns-else-self-other
returns-else-self-other c =
    let a = c.self.inside in
    let b = c.other.inside in
    other_lengths a.len b.len a.words.items b.words.items c.args.self.now c.args.other.now c.self.view_is c.other.view_is c.if-self-other.false

use Rattle.std.proofs.lemmas.Bool.Decides.{same_from_decides}
use Rattle.bit_rows.specs.Bits.{same_bits}
use Rattle.bit_rows.proofs.PackLaws.{same_bits_decides}
use Rattle.bit_rows.proofs.bit_row.BitRowPartialEq.eq.Goals as goal

pub returns : goal.returns
returns c =
    let a = c.args.self.now in
    let b = c.args.other.now in
    same_from_decides c.equal.result (same_bits a b) c.equal.ensures (same_bits_decides a b)

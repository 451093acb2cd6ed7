use Rattle.std.proofs.Common.{◌≡◌, sym, ap, ◌∙◌, length}
use Rattle.bit_rows.proofs.PackLaws.{length-unpacked, all_by_ones}
use Rattle.bit_rows.proofs.bit_row.BitRow.all.Goals as goal

pub returns : goal.returns
returns c =
    let row = c.self.inside in
    let long : row.len ≡ length c.args.self.now = sym (length-unpacked row.len row.words.items) ∙ ap length c.self.view_is in
    rw (c.ones.ensures, long) (all_by_ones c.args.self.now)

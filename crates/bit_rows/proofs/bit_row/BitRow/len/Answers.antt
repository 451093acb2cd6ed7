use Rattle.std.proofs.Common.{sym, ap, ◌∙◌, length}
use Rattle.bit_rows.proofs.PackLaws.{length-unpacked}
use Rattle.bit_rows.proofs.bit_row.BitRow.len.Goals as goal

pub returns : goal.returns
returns c = sym (length-unpacked c.self.inside.len c.self.inside.words.items) ∙ ap length c.self.view_is

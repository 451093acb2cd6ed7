use Rattle.std.proofs.Common.{ap, ◌∙◌, arith}
use Rattle.std.specs.Prelude.{count_ones}
use Rattle.std.specs.List.{sum_by}
use Rattle.bit_rows.proofs.PackLaws.{ones_row, ones_fit}
use Rattle.bit_rows.proofs.bit_row.BitRow.ones.Goals as goal

pub ones_in-requires : goal.ones_in-requires
ones_in-requires c =
    let row = c.self.inside in
    rw (c.as_slice.ensures.value) (ones_fit row.len row.words.items c.args.self.now c.self.invariant c.self.view_is (omega arith))

pub returns : goal.returns
returns c =
    let row = c.self.inside in
    c.ones_in.ensures ∙ ap (sum_by count_ones) c.as_slice.ensures.value ∙ ones_row row.len row.words.items c.args.self.now c.self.invariant c.self.view_is

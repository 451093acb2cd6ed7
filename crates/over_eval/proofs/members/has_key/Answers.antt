use Rattle.std.proofs.Common.{◌∙◌, sym, ap}
use Rattle.table_core.specs.Rows.{Row}
use Rattle.table_core.specs.Bag.{same_cells}
use Rattle.over_eval.proofs.RowLaws.{projected_plain}
use Rattle.over_eval.proofs.members.has_key.Goals as goal

pub returns : goal.returns
returns c = c.have_values.ensures ∙ ap (λ (row : Row). same_cells row c.args.key.now) (sym (projected_plain c.args.keys.now c.args.cells.now))

use Rattle.std.proofs.Common.{◌≡◌, replicate}
use Rattle.value_core.specs.declared.value.Value.TheVariants.{Null}
use Rattle.over_cells.specs.declared.cell.AbsCell.TheVariants.{Known}
use Rattle.over_eval.proofs.pairs.null_row.Given as goal

abbrev pub invariant-loop : goal.invariant-loop
invariant-loop l = l.cells.items ≡ replicate l.counter (Known Null)

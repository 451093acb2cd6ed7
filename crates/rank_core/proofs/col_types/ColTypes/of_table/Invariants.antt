use Rattle.std.proofs.Common.{◌≡◌, map, take}
use Rattle.rank_core.proofs.col_types.ColTypes.of_table.Given as goal

abbrev pub invariant-loop-column : goal.invariant-loop-column
invariant-loop-column l = l.types ≡ map (λ c. c.kind) (take l.column-index l.column-items)

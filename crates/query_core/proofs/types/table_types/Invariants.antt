use Rattle.std.proofs.Common.{◌≡◌, map, take}
use Rattle.query_core.proofs.types.table_types.Given as goal

abbrev pub invariant-loop-column : goal.invariant-loop-column
invariant-loop-column l = l.out ≡ map (λ c. c.kind) (take l.column-index l.column-items)

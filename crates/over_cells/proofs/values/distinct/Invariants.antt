use Rattle.std.proofs.Common.{◌≡◌, ◌++◌, not, drop}
use Rattle.std.specs.Prelude.{filter}
use Rattle.value_core.specs.Value.{is_null}
use Rattle.over_cells.specs.Aggregates.{distinct_after, distinct}
use Rattle.over_cells.proofs.values.distinct.Given as goal

abbrev pub invariant-loop-value : goal.invariant-loop-value
invariant-loop-value l = l.out ++ distinct_after l.out (filter (λ v. not (is_null v)) (drop l.value-index l.values)) ≡ distinct l.values

use Rattle.std.proofs.Common.{◌≡◌, ◌*◌, ◌^◌, pos, neg_ℤ, ◌+ℤ◌, ◌≤ℤ◌, drop}
use Rattle.over_cells.specs.Aggregates.{positives}
use Rattle.over_cells.proofs.values.positives.Given as goal

abbrev pub invariant-loop-value : goal.invariant-loop-value
invariant-loop-value l =
    (l.total +ℤ positives (drop l.value-index l.values) ≡ positives l.values)
    × (neg_ℤ (pos (2 ^ 63 * l.value-index)) ≤ℤ l.total)
    × (l.total ≤ℤ pos (2 ^ 63 * l.value-index))

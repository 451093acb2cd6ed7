use Rattle.std.proofs.Common.{◌≡◌, ◌*◌, ◌^◌, pos, neg_ℤ, ◌+ℤ◌, ◌≤ℤ◌, drop}
use Rattle.over_cells.specs.Aggregates.{negatives}
use Rattle.over_cells.proofs.values.negatives.Given as goal

abbrev pub invariant-loop-value : goal.invariant-loop-value
invariant-loop-value l =
    (l.total +ℤ negatives (drop l.value-index l.values) ≡ negatives l.values)
    × (neg_ℤ (pos (2 ^ 63 * l.value-index)) ≤ℤ l.total)
    × (l.total ≤ℤ pos (2 ^ 63 * l.value-index))

use Rattle.std.proofs.Common.{◌≡◌, ◌*◌, ◌^◌, pos, neg_ℤ, ◌+ℤ◌, ◌≤ℤ◌, drop}
use Rattle.query_core.specs.Groups.{exact_sum}
use Rattle.bag_eval.proofs.values.exact_sum.Given as goal

abbrev pub invariant-loop-value : goal.invariant-loop-value
invariant-loop-value l =
    (l.total +ℤ exact_sum (drop l.value-index l.values) ≡ exact_sum l.values)
    × (neg_ℤ (pos (2 ^ 63 * l.value-index)) ≤ℤ l.total)
    × (l.total ≤ℤ pos (2 ^ 63 * l.value-index))

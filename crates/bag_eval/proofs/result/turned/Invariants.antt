use Rattle.std.proofs.Common.{◌≡◌, ◌+◌, ◌++◌, length, reverse}
use Rattle.bag_eval.proofs.result.turned.Given as goal

abbrev pub invariant-loop : goal.invariant-loop
invariant-loop l = (l.rows ++ reverse l.out.items ≡ l.fn.rows) × (length l.rows + l.counter ≡ length l.fn.rows)

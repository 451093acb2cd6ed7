use Rattle.std.proofs.Common.{◌≡◌, drop}
use Rattle.std.specs.List.{fold}
use Rattle.query_core.specs.Groups.{smaller, smallest}
use Rattle.bag_eval.proofs.values.smallest.Given as goal

abbrev pub invariant-loop-value : goal.invariant-loop-value
invariant-loop-value l = fold smaller l.best (drop l.value-index l.value-items) ≡ smallest l.values

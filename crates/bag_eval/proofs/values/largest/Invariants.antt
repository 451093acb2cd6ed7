use Rattle.std.proofs.Common.{◌≡◌, drop}
use Rattle.std.specs.List.{fold}
use Rattle.query_core.specs.Groups.{larger, largest}
use Rattle.bag_eval.proofs.values.largest.Given as goal

abbrev pub invariant-loop-value : goal.invariant-loop-value
invariant-loop-value l = fold larger l.best (drop l.value-index l.value-items) ≡ largest l.values

use Rattle.std.proofs.Common.{◌≡◌, ◌+◌, ◌++◌, drop}
use Rattle.bag_eval.specs.Results.{named_columns}
use Rattle.bag_eval.proofs.result.named_columns.Given as goal

abbrev pub invariant-loop-at : goal.invariant-loop-at
invariant-loop-at l = l.columns.items ++ named_columns (l.at + 1) (drop l.at l.types) ≡ named_columns 1 l.types

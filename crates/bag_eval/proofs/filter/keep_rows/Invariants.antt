use Rattle.std.proofs.Common.{◌≡◌, ◌++◌, drop}
use Rattle.std.specs.Prelude.{filter}
use Rattle.predicate_core.specs.Truth.{keeps}
use Rattle.bag_eval.proofs.filter.keep_rows.Given as goal

abbrev pub invariant-loop-row : goal.invariant-loop-row
invariant-loop-row l = l.kept ++ filter (keeps l.constants l.pred) (drop l.row-index l.rows) ≡ filter (keeps l.constants l.pred) l.rows

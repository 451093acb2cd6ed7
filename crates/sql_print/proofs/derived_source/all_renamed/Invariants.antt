use Rattle.std.proofs.Common.{◌≡◌, map}
use Rattle.std.specs.List.{range_with_len}
use Rattle.sql_print.specs.Sql.{renamed}
use Rattle.sql_print.proofs.derived_source.all_renamed.Given as goal

abbrev pub invariant-loop-at : goal.invariant-loop-at
invariant-loop-at l = l.texts ≡ map (renamed l.columns) (range_with_len 0 l.at)

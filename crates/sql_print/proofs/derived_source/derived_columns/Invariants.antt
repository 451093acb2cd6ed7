use Rattle.std.proofs.Common.{◌≡◌, map}
use Rattle.std.specs.List.{range_with_len}
use Rattle.sql_print.specs.Sql.{derived_column}
use Rattle.sql_print.proofs.derived_source.derived_columns.Given as goal

abbrev pub invariant-loop-at : goal.invariant-loop-at
invariant-loop-at l = l.texts ≡ map (derived_column l.number) (range_with_len 0 l.at)

use Rattle.std.proofs.Common.{◌≡◌, map, take}
use Rattle.sql_print.specs.Sql.{input_column}
use Rattle.sql_print.proofs.input.input_texts.Given as goal

abbrev pub invariant-loop-column : goal.invariant-loop-column
invariant-loop-column l = l.texts ≡ map (input_column l.number) (take l.column-index l.columns)

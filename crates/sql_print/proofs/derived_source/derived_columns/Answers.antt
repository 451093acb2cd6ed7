use Rattle.std.proofs.Common.{arith}
use Rattle.std.proofs.lemmas.Grind.{common_steps}
use Rattle.std.proofs.lemmas.List.FromFn.{map-range_with_len_more}
use Rattle.sql_print.specs.Sql.{derived_column}
use Rattle.sql_print.proofs.derived_source.derived_columns.Goals as goal

pub loop-at-preserved : goal.loop-at-preserved
loop-at-preserved c =
    let next = map-range_with_len_more (derived_column c.args.number) 0 c.loop-at.at c.loop-at.at (omega arith) in
    grind (arith, common_steps)

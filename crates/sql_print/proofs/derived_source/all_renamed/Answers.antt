use Rattle.std.proofs.Common.{arith}
use Rattle.std.proofs.lemmas.Grind.{common_steps}
use Rattle.std.proofs.lemmas.List.FromFn.{map-range_with_len_more}
use Rattle.sql_print.specs.Sql.{renamed}
use Rattle.sql_print.proofs.derived_source.all_renamed.Goals as goal

pub loop-at-preserved : goal.loop-at-preserved
loop-at-preserved c =
    let next = map-range_with_len_more (renamed c.args.columns.now) 0 c.loop-at.at c.loop-at.at (omega arith) in
    grind (arith, common_steps)

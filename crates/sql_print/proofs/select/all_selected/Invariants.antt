use Rattle.std.proofs.Common.{◌≡◌, ◌++◌, map, drop, length}
use Rattle.std.specs.List.{zip}
use Rattle.sql_print.specs.Sql.{selected}
use Rattle.sql_print.proofs.select.all_selected.Given as goal

abbrev pub invariant-loop-pick : goal.invariant-loop-pick
invariant-loop-pick l =
    l.texts ++ map (selected l.columns) (zip (drop (length l.yielded) l.picks) (drop (length l.yielded) l.output))
    ≡ map (selected l.columns) (zip l.picks l.output)

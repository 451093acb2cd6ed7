use Rattle.std.proofs.Common.{◌≡◌, ◌++◌, ◌+◌, map, drop}
use Rattle.std.specs.List.{flat_map, enumerate_from}
use Rattle.rank_core.specs.View.{ranked_query}
use Rattle.sql_print.specs.Text.{answer_line}
use Rattle.sql_print.proofs.run.push_answer_lines.Given as goal

abbrev pub invariant-loop-at : goal.invariant-loop-at
invariant-loop-at l =
    l.out.items ++ flat_map (answer_line l.task) (enumerate_from (l.at + 1) (map ranked_query (drop l.at l.list)))
    ≡ l.initial.out.items ++ flat_map (answer_line l.task) (enumerate_from 1 (map ranked_query l.list))

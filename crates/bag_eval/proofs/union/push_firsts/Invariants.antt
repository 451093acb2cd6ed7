use Rattle.std.proofs.Common.{◌≡◌, ◌++◌, List, take}
use Rattle.table_core.specs.Rows.{Row}
use Rattle.query_core.specs.Firsts.{firsts}
use Rattle.bag_eval.proofs.union.push_firsts.Given as goal

abbrev pub invariant-loop-row : goal.invariant-loop-row
invariant-loop-row l = (seen : List Row) → l.initial.out ≡ firsts seen → l.out ≡ firsts (seen ++ take l.row-index l.rows)

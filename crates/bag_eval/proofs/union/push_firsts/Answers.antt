use Rattle.std.proofs.Common.{arith, take, ◌++◌, ◌∷◌, [], append_assoc}
use Rattle.std.proofs.lemmas.List.{take_more}
use Rattle.bag_eval.proofs.FirstLaws.{firsts_push}
use Rattle.bag_eval.proofs.union.push_firsts.Goals as goal

pub loop-row-preserved : goal.loop-row-preserved
loop-row-preserved c seen start =
    let rows = c.args.rows.now in
    let row = c.row-item.result in
    let before = take c.loop-row.row-index rows in
    let more = take_more rows c.loop-row.row-index row (omega arith) in
    let push = firsts_push (seen ++ before) row in
    let so_far = c.loop-row.invariant seen start in
    rw (more, ← c.row-item.is, ← append_assoc seen before (row ∷ []), push, ← so_far) (c.in_ok-push_first.ensures)

use Rattle.std.proofs.Common.{arith, take}
use Rattle.std.proofs.lemmas.List.{take_more}
use Rattle.bag_eval.proofs.FirstLaws.{firsts_push}
use Rattle.bag_eval.proofs.select.first_rows.Goals as goal

pub loop-row-preserved : goal.loop-row-preserved
loop-row-preserved c =
    let rows = c.args.rows.now in
    let more = take_more rows c.loop-row.row-index c.row-item.result (omega arith) in
    let push = firsts_push (take c.loop-row.row-index rows) c.row-item.result in
    let kept = c.in_ok-push_first.ensures in
    rw (more, ← c.row-item.is, push, ← c.loop-row.invariant) kept

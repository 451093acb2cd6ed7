use Rattle.std.proofs.Common.{[], ◌∷◌, arith, take, map}
use Rattle.std.proofs.lemmas.List.{take_more}
use Rattle.std.proofs.lemmas.List.{map-append}
use Rattle.query_core.specs.Firsts.{projected}
use Rattle.bag_eval.proofs.FirstLaws.{firsts_push}
use Rattle.bag_eval.proofs.group.distinct_keys.Goals as goal

pub loop-row-preserved : goal.loop-row-preserved
loop-row-preserved c =
    let keys = c.args.keys.now in
    let rows = c.args.rows.now in
    let row = c.row-item.result in
    let before = take c.loop-row.row-index rows in
    let more = take_more rows c.loop-row.row-index row (omega arith) in
    let split = map-append (projected keys) before (row ∷ []) in
    let push = firsts_push (map (projected keys) before) (projected keys row) in
    let kept = c.in_ok-push_key.ensures in
    rw (more, ← c.row-item.is, split, push, ← c.loop-row.invariant, ← c.cells.ensures) kept

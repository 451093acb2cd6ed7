use Rattle.std.proofs.Common.{◌+◌, ◌-◌, ◌<◌, length, arith}
use Rattle.std.specs.List.{flat_map, range_with_len}
use Rattle.std.proofs.lemmas.Result.{err_from_is_err_and}
use Rattle.skeleton_graph.specs.Seen.{pairs_at, pairs_on}
use Rattle.skeleton_graph.specs.View.{see_levels}
use Rattle.skeleton_graph.proofs.ListLaws.{stops, range_loop_part, range_loop_more}
use Rattle.skeleton_graph.proofs.list.push_pairs.Goals as goal

pub loop-number-preserved : goal.loop-number-preserved
loop-number-preserved c =
    let part = pairs_at c.args.ground.now.task.now c.args.how (see_levels c.args.levels.now) in
    let below : c.loop-number.number < length c.args.levels.now = omega arith in
    range_loop_more part c.loop-number.out.items c.push_pairs_at.new.out.items _ c.loop-number.number (length c.args.levels.now) below c.in_ok-push_pairs_at.ensures c.loop-number.invariant

pub returns-in_err-push_pairs_at : goal.returns-in_err-push_pairs_at
returns-in_err-push_pairs_at c =
    let p = err_from_is_err_and c.from_residual.result c.from_residual.ensures.1 in
    let part = pairs_at c.args.ground.now.task.now c.args.how (see_levels c.args.levels.now) in
    let n = length c.args.levels.now in
    let i = c.loop-number.number in
    let below : i < n = omega arith in
    let out = c.loop-number.out.items in
    let whole = pairs_on c.args.ground.now.task.now c.args.how (see_levels c.args.levels.now) in
    let rest = flat_map part (range_with_len (i + 1) (n - (i + 1))) in
    let same = range_loop_part part out _ i n below c.loop-number.invariant in
    rw (p.1, p.2) (stops c.args.ground.now.room c.args.out.now.items whole out c.push_pairs_at.new.out.items (part i) rest c.in_err-push_pairs_at.field-0.0 same c.in_err-push_pairs_at.ensures)

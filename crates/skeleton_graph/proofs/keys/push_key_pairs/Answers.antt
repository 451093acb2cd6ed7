use Rattle.std.proofs.Common.{◌<◌, length, arith}
use Rattle.skeleton_graph.proofs.RangeLaws.{pairs_more}
use Rattle.skeleton_graph.proofs.keys.push_key_pairs.Goals as goal

pub loop-place-preserved : goal.loop-place-preserved
loop-place-preserved c =
    let below : c.loop-place.place < length c.args.columns.now = omega arith in
    pairs_more c.loop-place.out c.push_pairs_from.new.out _ c.args.columns.now c.loop-place.place below c.in_ok-push_pairs_from.ensures c.loop-place.invariant

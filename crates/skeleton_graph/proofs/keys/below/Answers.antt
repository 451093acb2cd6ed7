use Rattle.std.proofs.Common.{◌≡◌, ◌∷◌, ◌++◌, [], ◌<◌, arith}
use Rattle.skeleton_graph.proofs.RangeLaws.{range_more}
use Rattle.skeleton_graph.proofs.keys.below.Goals as goal

pub loop-i-preserved : goal.loop-i-preserved
loop-i-preserved c =
    let more : c.push.new.self ≡ c.loop-i.out ++ c.loop-i.i ∷ [] = c.in_ok-push.ensures.ok in
    let below : c.loop-i.i < c.args.width = omega arith in
    range_more c.loop-i.out c.push.new.self _ c.loop-i.i c.args.width below more c.loop-i.invariant

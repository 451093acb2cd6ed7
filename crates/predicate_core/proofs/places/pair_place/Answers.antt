use Rattle.std.proofs.Common.{arith}
use Rattle.predicate_core.proofs.PlaceLaws.{pair_closed}
use Rattle.predicate_core.proofs.places.pair_place.Goals as goal

pub overflow_sub-result : goal.overflow_sub-result
overflow_sub-result c =
    let closed = pair_closed c.args.n c.args.i c.args.j c.requires.first c.requires.second in
    omega (arith, closed, c.pair_count.ensures.count, c.pair_count-2.ensures.count)

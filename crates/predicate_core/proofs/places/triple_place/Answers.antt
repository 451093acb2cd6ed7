use Rattle.std.proofs.Common.{arith}
use Rattle.predicate_core.proofs.PlaceLaws.{triple_closed}
use Rattle.predicate_core.proofs.places.triple_place.Goals as goal

pub overflow_sub-result : goal.overflow_sub-result
overflow_sub-result c =
    let closed = triple_closed c.args.n c.args.i c.args.j c.args.k c.requires.first c.requires.second c.requires.third in
    omega (arith, closed, c.triple_count.ensures.count, c.triple_count-2.ensures.count, c.pair_place.ensures.place)

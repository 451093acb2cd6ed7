use Rattle.std.proofs.Common.{◌≡◌, ◌++◌, ◌+◌, ◌*◌, length, take}
use Rattle.std.specs.List.{flat_map}
use Rattle.map_walk.specs.Narrow.{next}
use Rattle.map_walk.specs.Walk.{walked}
use Rattle.map_walk.proofs.walk.+walk.Given as goal

abbrev pub decreases-walk : goal.decreases-walk
decreases-walk l = 3 * length l.columns.now

abbrev pub decreases-walk_each : goal.decreases-walk_each
decreases-walk_each l = 3 * length l.rest.now + 2

abbrev pub decreases-walk_on : goal.decreases-walk_on
decreases-walk_on l = 3 * length l.rest.now + 1

abbrev pub invariant-walk_each-loop-offer : goal.invariant-walk_each-loop-offer
invariant-walk_each-loop-offer l = l.out ≡ l.initial.out ++ flat_map (λ o. walked (next l.begun o) l.rest) (take l.offer-index l.offers)

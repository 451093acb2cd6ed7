use Rattle.std.proofs.Common.{◌≡◌, ◌+◌, ◌*◌, length, drop}
use Rattle.std.specs.List.{list_any}
use Rattle.map_walk.specs.Narrow.{narrowed}
use Rattle.map_walk.specs.Walk.{goes_on}
use Rattle.map_walk.proofs.walk.+goes_on.Given as goal

abbrev pub decreases-goes_on : goal.decreases-goes_on
decreases-goes_on l = 3 * length l.columns.now

abbrev pub decreases-some_goes_on : goal.decreases-some_goes_on
decreases-some_goes_on l = 3 * length l.rest.now + 2

abbrev pub decreases-goes_on_by : goal.decreases-goes_on_by
decreases-goes_on_by l = 3 * length l.rest.now + 1

abbrev pub invariant-some_goes_on-loop-offer : goal.invariant-some_goes_on-loop-offer
invariant-some_goes_on-loop-offer l =
    list_any (λ o. goes_on (narrowed l.targets o.masks) l.rest) l.offers ≡ list_any (λ o. goes_on (narrowed l.targets o.masks) l.rest) (drop l.offer-index l.offers)

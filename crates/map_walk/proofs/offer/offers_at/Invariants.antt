use Rattle.std.proofs.Common.{◌≡◌, map, take}
use Rattle.map_walk.specs.Walk.{offer_of}
use Rattle.map_walk.proofs.offer.offers_at.Given as goal

abbrev pub invariant-loop-at : goal.invariant-loop-at
invariant-loop-at g l = l.offers ≡ map (offer_of g.C.Candidate.has l.candidates l.rows l.place) (take l.at-index l.places)

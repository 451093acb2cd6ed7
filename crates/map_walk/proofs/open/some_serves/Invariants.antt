use Rattle.std.proofs.Common.{◌≡◌, drop}
use Rattle.std.specs.List.{list_any}
use Rattle.query_core.specs.Grammar.{places_of}
use Rattle.map_walk.specs.Open.{serves, some_serves}
use Rattle.map_walk.proofs.open.some_serves.Given as goal

abbrev pub invariant-loop-at : goal.invariant-loop-at
invariant-loop-at g l =
    list_any (serves g.C.Candidate.has l.candidates l.output l.place) (places_of l.kind l.at (drop l.at l.types)) ≡ some_serves g.C.Candidate.has l.types l.candidates l.output l.place l.kind

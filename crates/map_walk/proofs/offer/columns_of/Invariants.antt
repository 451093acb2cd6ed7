use Rattle.std.proofs.Common.{◌≡◌, ◌++◌, drop}
use Rattle.map_walk.specs.Walk.{columns_of}
use Rattle.map_walk.proofs.offer.columns_of.Given as goal

abbrev pub invariant-loop-place : goal.invariant-loop-place
invariant-loop-place g l = l.columns ++ columns_of g.C.Candidate.has l.types l.candidates l.rows l.place (drop l.place l.wanted) ≡ columns_of g.C.Candidate.has l.types l.candidates l.rows 0 l.wanted

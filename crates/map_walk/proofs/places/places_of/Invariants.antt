use Rattle.std.proofs.Common.{◌≡◌, ◌++◌, drop}
use Rattle.query_core.specs.Grammar.{places_of}
use Rattle.map_walk.proofs.places.places_of.Given as goal

abbrev pub invariant-loop-at : goal.invariant-loop-at
invariant-loop-at l = l.places ++ places_of l.t l.at (drop l.at l.types) ≡ places_of l.t 0 l.types

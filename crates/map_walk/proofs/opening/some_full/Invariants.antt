use Rattle.std.proofs.Common.{◌≡◌, drop}
use Rattle.std.specs.List.{list_any}
use Rattle.query_core.specs.Grammar.{places_of}
use Rattle.map_walk.specs.Supply.{is_full, supply_at, some_full}
use Rattle.map_walk.proofs.opening.some_full.Given as goal

abbrev pub invariant-loop-at : goal.invariant-loop-at
invariant-loop-at g l =
    list_any (λ at. is_full (supply_at (g.S.Source.listed l.source) at l.place)) (places_of l.kind l.at (drop l.at l.types)) ≡ some_full l.types (g.S.Source.listed l.source) l.place l.kind

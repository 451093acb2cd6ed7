-- The plain data that numbered skeletons stand for.
use Rattle.std.specs.Prelude.{ℕ, ◌+◌, List, [], ◌∷◌, map}
use Rattle.skeleton_graph.specs.Seen.{Seen, kind_takes_filter}
use Rattle.skeleton_graph.specs.declared.part.Part.{Part}
use Rattle.skeleton_graph.specs.declared.part.Placed.{Placed}

-- what is asked of a skeleton
abbrev pub see : Placed → Seen
see p = record { number = p.number; takes_filter = kind_takes_filter p.part.kind; leaves = p.part.leaves; types = p.part.types }

-- what is asked of those of a level
abbrev pub sees : List Placed → List Seen
sees level = map see level

-- what is asked of those of some levels
abbrev pub see_levels : List (List Placed) → List (List Seen)
see_levels levels = map sees levels

-- skeletons numbered from a number on
abbrev pub placed : ℕ → List Part → List Placed
placed number [] = []
placed number (part ∷ parts) = record { number = number; part = part } ∷ placed (number + 1) parts

-- the skeletons without their numbers
abbrev pub parts_of : List Placed → List Part
parts_of level = map (λ p. p.part) level

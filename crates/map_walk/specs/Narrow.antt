-- Targets of which fewer candidates are left.
use Rattle.std.specs.Prelude.{◌≡◌, Bool, List, [], ◌∷◌, ◌++◌, length}
use Rattle.std.specs.List.{AllZip}
use lib.Lanes.{zip2}
use Rattle.bit_rows.specs.Bits.{and_bits}
use Rattle.map_walk.specs.declared.offer.Offer.{Offer}
use Rattle.map_walk.specs.declared.target.Reading.{Reading}
use Rattle.map_walk.specs.declared.target.Target.{Target}

-- a target of which only these candidates are left
abbrev pub narrow : Target → List Bool → Target
narrow target mask = record { mask = and_bits target.mask mask; copies = target.copies }

-- each target with only its own of these masks left
abbrev pub narrowed : List Target → List (List Bool) → List Target
narrowed targets masks = zip2 narrow targets masks

-- each target's mask has the length of its own of these masks
abbrev pub Fitting : List Target → List (List Bool) → Type 0
Fitting targets masks = AllZip (λ t m. length t.mask ≡ length m) targets masks

-- a map with one column more, and what that leaves of its targets
abbrev pub next : Reading → Offer → Reading
next r offer = record { picks = r.picks ++ offer.at ∷ []; targets = narrowed r.targets offer.masks }

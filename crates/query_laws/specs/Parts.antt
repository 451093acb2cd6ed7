-- Parts of lists.
use Rattle.std.specs.Prelude.{◌≡◌, ◌⊎◌, List, [], ◌∷◌}

-- a list is a part of another: what is left of it where some of its elements are left out
abbrev pub IsPart : {X : Type 0} → List X → List X → Type 0
IsPart {X} part [] = part ≡ []
IsPart {X} part (x ∷ xs) = IsPart part xs ⊎ ((rest : List X) × (part ≡ x ∷ rest) × IsPart rest xs)

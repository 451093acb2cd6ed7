-- Elements of a list, each of which has an element of another list, of its own.
use Rattle.std.specs.Prelude.{List, [], ◌∷◌}

-- an element is taken out of a list, and the rest is left
pub data Takes {X : Type 0} : X → List X → List X → Type 0 where
  here : {x : X} {xs : List X} → Takes x (x ∷ xs) xs
  later : {x y : X} {xs rest : List X} → Takes x xs rest → Takes x (y ∷ xs) (y ∷ rest)

-- each element of a list has an element of another, of its own, to which it is related; the order doesn't matter
abbrev pub Placed : {X Y : Type 0} → (X → Y → Type 0) → List X → List Y → Type 0
Placed R [] ys = Unit {0}
Placed {X} {Y} R (x ∷ xs) ys = (y : Y) × (rest : List Y) × Takes y ys rest × R x y × Placed R xs rest

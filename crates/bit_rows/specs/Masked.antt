-- What a row of bits keeps of a list.
use Rattle.std.specs.Prelude.{Bool, List, [], ◌∷◌, if◌then◌else◌}

-- the elements at whose places a bit is set
abbrev pub masked : {A : Type 0} → List Bool → List A → List A
masked [] xs = []
masked (b ∷ bits) [] = []
masked (b ∷ bits) (x ∷ xs) = if b then x ∷ masked bits xs else masked bits xs

-- What steps gave that came to a value.
use Rattle.std.proofs.Common.{◌≡◌, ◌+◌, ℕ, Bool, true, false, List, [], ◌∷◌, length, Option, Some, None, Result, Ok, Err, refl}
use Rattle.first_fault.specs.Reading.{◌>>=◌, each, found_or, kept_or}

-- what a step gave, and what the next one made of it
pub binds : {A B F : Type 0} (r : Result A F) (f : A → Result B F) (y : B) → (r >>= f) ≡ Ok y → (x : A) × (r ≡ Ok x) × (f x ≡ Ok y)
binds (Ok x) f y e = (x, refl, e)
binds (Err fault) f y e = cc

pub found : {A F : Type 0} (fault : F) (o : Option A) (x : A) → found_or fault o ≡ Ok x → o ≡ Some x
found fault None x e = cc
found fault (Some a) x e = cc

-- a rule that was kept, and the value that kept it
pub kept : {A F : Type 0} (fault : F) (b : Bool) (a x : A) → kept_or fault b a ≡ Ok x → (b ≡ true) × (a ≡ x)
kept fault true a x e = (refl, cc)
kept fault false a x e = cc

-- each element gives one
pub each_length : {A B F : Type 0} (read : ℕ → A → Result B F) (number : ℕ) (xs : List A) (ys : List B) → each read number xs ≡ Ok ys → length ys ≡ length xs
each_length read number [] ys e = let none : ys ≡ [] = cc in rw none refl
each_length read number (x ∷ xs) ys e =
    let first = binds (read number x) _ ys e in
    let rest = binds (each read (number + 1) xs) _ ys first.2 in
    let more = each_length read (number + 1) xs rest.0 rest.1 in
    let whole : first.0 ∷ rest.0 ≡ ys = cc rest.2 in
    rw (← whole, more) refl

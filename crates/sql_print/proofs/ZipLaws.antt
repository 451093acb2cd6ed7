-- Nothing is left of a zip after its shorter list.
use Rattle.std.proofs.Common.{◌≡◌, refl, ℕ, zero, suc, List, [], ◌∷◌, length, drop, arith, min}
use Rattle.std.specs.List.{zip}

pub zip_over : {X Y : Type 0} (xs : List X) (ys : List Y) (n : ℕ) → n ≡ min (length xs) (length ys) → zip (drop n xs) (drop n ys) ≡ []
zip_over [] ys zero e = refl
zip_over [] ys (suc n) e = refl
zip_over (x ∷ xs) [] zero e = refl
zip_over (x ∷ xs) [] (suc n) e = absurd (omega (arith, e))
zip_over (x ∷ xs) (y ∷ ys) zero e = absurd (omega (arith, e))
zip_over (x ∷ xs) (y ∷ ys) (suc n) e = zip_over xs ys n (omega (arith, e))

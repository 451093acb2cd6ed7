-- AND and OR of vectors: their order and grouping don't matter, and a vector with itself, or with the full one, gives nothing new.
use Rattle.std.proofs.Common.{◌≡◌, refl, sym, ap, ◌∙◌, ℕ, Bool, true, false, ◌&&◌, ◌||◌, List, [], ◌∷◌, length, replicate}
use lib.Lanes.{zip2}
use Rattle.bit_classes.specs.declared.join.Join.{Join}
use Rattle.bit_classes.specs.declared.join.Join.TheVariants.{And, Or}
use Rattle.bit_classes.specs.Vectors.{combined}

module _ {X : Type 0} (f : X → X → X) where
  turned-zip2 : ((x y : X) → f x y ≡ f y x) → (xs ys : List X) → zip2 f xs ys ≡ zip2 f ys xs
  turned-zip2 each [] [] = refl
  turned-zip2 each [] (y ∷ ys) = refl
  turned-zip2 each (x ∷ xs) [] = refl
  turned-zip2 each (x ∷ xs) (y ∷ ys) = λ i. each x y i ∷ turned-zip2 each xs ys i

  grouped-zip2 : ((x y z : X) → f (f x y) z ≡ f x (f y z)) → (xs ys zs : List X) → zip2 f (zip2 f xs ys) zs ≡ zip2 f xs (zip2 f ys zs)
  grouped-zip2 each [] ys zs = refl
  grouped-zip2 each (x ∷ xs) [] zs = refl
  grouped-zip2 each (x ∷ xs) (y ∷ ys) [] = refl
  grouped-zip2 each (x ∷ xs) (y ∷ ys) (z ∷ zs) = λ i. each x y z i ∷ grouped-zip2 each xs ys zs i

  own-zip2 : ((x : X) → f x x ≡ x) → (xs : List X) → zip2 f xs xs ≡ xs
  own-zip2 each [] = refl
  own-zip2 each (x ∷ xs) = λ i. each x i ∷ own-zip2 each xs i

and_turned : (x y : Bool) → (x && y) ≡ (y && x)
and_turned true true = refl
and_turned true false = refl
and_turned false true = refl
and_turned false false = refl

or_turned : (x y : Bool) → (x || y) ≡ (y || x)
or_turned true true = refl
or_turned true false = refl
or_turned false true = refl
or_turned false false = refl

and_grouped : (x y z : Bool) → ((x && y) && z) ≡ (x && (y && z))
and_grouped true y z = refl
and_grouped false y z = refl

or_grouped : (x y z : Bool) → ((x || y) || z) ≡ (x || (y || z))
or_grouped true y z = refl
or_grouped false y z = refl

and_own : (x : Bool) → (x && x) ≡ x
and_own true = refl
and_own false = refl

or_own : (x : Bool) → (x || x) ≡ x
or_own true = refl
or_own false = refl

pub joined_turned : (join : Join) (xs ys : List Bool) → combined join xs ys ≡ combined join ys xs
joined_turned And xs ys = turned-zip2 (λ x y. x && y) and_turned xs ys
joined_turned Or xs ys = turned-zip2 (λ x y. x || y) or_turned xs ys

pub joined_grouped : (join : Join) (xs ys zs : List Bool) → combined join (combined join xs ys) zs ≡ combined join xs (combined join ys zs)
joined_grouped And xs ys zs = grouped-zip2 (λ x y. x && y) and_grouped xs ys zs
joined_grouped Or xs ys zs = grouped-zip2 (λ x y. x || y) or_grouped xs ys zs

pub joined_own : (join : Join) (xs : List Bool) → combined join xs xs ≡ xs
joined_own And xs = own-zip2 (λ x y. x && y) and_own xs
joined_own Or xs = own-zip2 (λ x y. x || y) or_own xs

-- the full vector with another
full_and : (xs : List Bool) → combined And (replicate (length xs) true) xs ≡ xs
full_and [] = refl
full_and (x ∷ xs) = ap (λ t. x ∷ t) (full_and xs)

full_or : (xs : List Bool) → combined Or (replicate (length xs) true) xs ≡ replicate (length xs) true
full_or [] = refl
full_or (x ∷ xs) = ap (λ t. true ∷ t) (full_or xs)

pub full_and_is : (width : ℕ) (xs : List Bool) → length xs ≡ width → combined And (replicate width true) xs ≡ xs
full_and_is width xs wide = ap (λ w. combined And (replicate w true) xs) (sym wide) ∙ full_and xs

pub full_or_is : (width : ℕ) (xs : List Bool) → length xs ≡ width → combined Or (replicate width true) xs ≡ replicate width true
full_or_is width xs wide = ap (λ w. combined Or (replicate w true) xs) (sym wide) ∙ full_or xs ∙ ap (λ w. replicate w true) wide

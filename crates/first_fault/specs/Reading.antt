-- Reading one thing after another: each step gives a value or a fault, and the first fault is that of the whole.
use Rattle.std.specs.Prelude.{ℕ, ◌+◌, Bool, List, [], ◌∷◌, Option, Some, None, Result, Ok, Err, if◌then◌else◌}

infixl 10 ◌>>=◌
-- the next step, of what the step before gave
abbrev pub ◌>>=◌ : {A B F : Type 0} → Result A F → (A → Result B F) → Result B F
(Ok x) >>= next = next x
(Err fault) >>= next = Err fault

-- what was found, and a fault where there is nothing
abbrev pub found_or : {A F : Type 0} → F → Option A → Result A F
found_or fault None = Err fault
found_or fault (Some x) = Ok x

-- a value that keeps a rule, and a fault where it doesn't
abbrev pub kept_or : {A F : Type 0} → F → Bool → A → Result A F
kept_or fault kept x = if kept then Ok x else Err fault

-- the same reading, with its fault under another name
abbrev pub renamed : {A F G : Type 0} → (F → G) → Result A F → Result A G
renamed name (Ok x) = Ok x
renamed name (Err fault) = Err (name fault)

-- each element in turn, with its number, of which the first is this
abbrev pub each : {A B F : Type 0} → (ℕ → A → Result B F) → ℕ → List A → Result (List B) F
each read number [] = Ok []
each read number (x ∷ xs) = do
  y ← read number x
  ys ← each read (number + 1) xs
  Ok (y ∷ ys)

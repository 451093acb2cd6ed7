-- What a sink that tells its bytes has more of after a write.
use Rattle.std.specs.Prelude.{◌≡◌, ℕ, ◌++◌, List, take, Option, option_map}

-- the bytes that were told have this piece after them; a sink that tells nothing goes on telling nothing
abbrev pub Gained : Option (List ℕ) → Option (List ℕ) → List ℕ → Type 0
Gained old new piece = new ≡ option_map (λ bytes. bytes ++ piece) old

-- some bytes from the front of a piece were gained
abbrev pub GainedFront : Option (List ℕ) → Option (List ℕ) → List ℕ → Type 0
GainedFront old new piece = (n : ℕ) × Gained old new (take n piece)

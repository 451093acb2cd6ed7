-- What is told of something that is read: nothing, the first thing that is wrong with it, or the thing itself.
use Rattle.std.specs.Prelude.{Result, Ok, Err}

pub data Told (A F : Type 0) : Type 0 where
  untold : Told A F
  faulty : F → Told A F
  ready : A → Told A F

infixl 10 ◌>>=◌
-- the next step, of what the step before gave
abbrev pub ◌>>=◌ : {A B F : Type 0} → Told A F → (A → Told B F) → Told B F
untold >>= next = untold
(faulty fault) >>= next = faulty fault
(ready x) >>= next = next x

-- what was read of something told, with its fault under another name
abbrev pub answered : {A F G : Type 0} → (F → G) → Result A F → Told A G
answered name (Ok x) = ready x
answered name (Err fault) = faulty (name fault)

-- a fact of the thing that is told; nothing is claimed where nothing is told
abbrev pub WhenReady : {A F : Type 0} → Told A F → (A → Type 0) → Type 0
WhenReady untold P = Unit {0}
WhenReady (faulty fault) P = ⊥
WhenReady (ready x) P = P x

-- a fact of what is wrong; nothing is claimed where nothing is told
abbrev pub WhenFaulty : {A F : Type 0} → Told A F → (F → Type 0) → Type 0
WhenFaulty untold P = Unit {0}
WhenFaulty (faulty fault) P = P fault
WhenFaulty (ready x) P = ⊥

-- The search for an atom among some atoms, and for the place of a pair or a triple.
use Rattle.std.specs.Prelude.{◌≡◌, ℕ, zero, suc, ◌+◌, ◌-◌, nat_lt, Bool, true, false, ◌&&◌, if◌then◌else◌, List, [], ◌∷◌, Option, Some, None, slice_get}
use Rattle.predicate_core.specs.declared.atom.Atom.{Atom}
use Rattle.predicate_core.specs.declared.search.Search.{Search}
use Rattle.predicate_core.specs.Counts.{pair_count}
use Rattle.predicate_core.specs.Equal.{same_atom}

-- the place found first: the one that was found before, or else this one where the test passes
abbrev pub first_place : Option ℕ → Bool → ℕ → Option ℕ
first_place (Some k) met n = Some k
first_place None true n = Some n
first_place None false n = None

-- a search that has passed one atom more
abbrev pub passed : Search → Atom → Search
passed s x = record { atom = s.atom; count = s.count + 1; place = first_place s.place (same_atom s.atom x) s.count }

-- a search that has passed these atoms too
abbrev pub searched : Search → List Atom → Search
searched s [] = s
searched s (x ∷ xs) = searched (passed s x) xs

-- a search that has passed nothing
abbrev pub started : Atom → Search
started a = record { atom = a; count = 0; place = None }

-- the place of the pair of two places, the earlier first, among the pairs of n elements
abbrev pub pair_place : ℕ → ℕ → ℕ → ℕ
pair_place zero i j = 0
pair_place (suc n) zero j = j - 1
pair_place (suc n) (suc i) j = n + pair_place n i (j - 1)

-- the place of the triple of three places, in order, among the triples of n elements
abbrev pub triple_place : ℕ → ℕ → ℕ → ℕ → ℕ
triple_place zero i j k = 0
triple_place (suc n) zero j k = pair_place n (j - 1) (k - 1)
triple_place (suc n) (suc i) j k = pair_count n + triple_place n i (j - 1) (k - 1)

-- the place of the pair of what stands at two places, if at all
abbrev pub pair_spot : ℕ → Option ℕ → Option ℕ → Option ℕ
pair_spot n (Some i) (Some j) = if nat_lt i j then Some (pair_place n i j) else None
pair_spot n _ _ = None

-- the place of the triple of what stands at three places, if at all
abbrev pub triple_spot : ℕ → Option ℕ → Option ℕ → Option ℕ → Option ℕ
triple_spot n (Some i) (Some j) (Some k) = if nat_lt i j && nat_lt j k then Some (triple_place n i j k) else None
triple_spot n _ _ _ = None

-- where an element stands in a list, if at all
abbrev pub IsPlace : {X : Type 0} → X → List X → Option ℕ → Type 0
IsPlace x xs (Some k) = slice_get xs k ≡ Some x
IsPlace x xs None = (k : ℕ) → slice_get xs k ≡ Some x → ⊥

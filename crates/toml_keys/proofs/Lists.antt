-- Arrays, keys and names as lists.
use Rattle.std.proofs.Common.{◌≡◌, ℕ, Bool, ◌||◌, List, [], ◌∷◌, map, length, suc, Bor, refl, ap}
use Rattle.std.specs.List.{list_any}
use Rattle.toml.specs.View.{view, items_view}
use Rattle.toml.specs.declared.value.Value.{Value}
use Rattle.toml_keys.specs.Keys.{list_of}

-- the items of an array, and how many there are
pub list_of_items : (values : List Value) → (list_of (items_view values) ≡ map view values) × (length (map view values) ≡ length values)
list_of_items [] = (refl, refl)
list_of_items (v ∷ vs) = (ap (λ rest. view v ∷ rest) (list_of_items vs).0, ap suc (list_of_items vs).1)

-- a test of the names behind references
pub list_any_of_names : (test : List ℕ → Bool) (names : List (Bor (List ℕ))) → list_any (λ name. test name.now) names ≡ list_any test (map (λ name. name.now) names)
list_any_of_names test [] = refl
list_any_of_names test (name ∷ names) = ap (λ rest. test name.now || rest) (list_any_of_names test names)

-- Values and what they are viewed as.
use Rattle.std.proofs.Common.{◌≡◌, Bool, ◌&&◌, List, [], ◌∷◌, map, refl, ap}
use Rattle.std.specs.List.{list_all}
use Rattle.toml.specs.Data.{Data}
use Rattle.toml.specs.View.{view}
use Rattle.toml.specs.declared.value.Value.{Value}

-- a test of what the values are viewed as
pub all_of_views : (test : Data → Bool) (values : List Value) → list_all test (map view values) ≡ list_all (λ value. test (view value)) values
all_of_views test [] = refl
all_of_views test (value ∷ values) = ap (λ rest. test (view value) && rest) (all_of_views test values)

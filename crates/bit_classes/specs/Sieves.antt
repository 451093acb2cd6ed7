-- Which vectors may be wanted of predicates that AND joins, and of those that OR joins.
use Rattle.std.specs.Prelude.{◌≡◌, ℕ, Bool, true, ◌&&◌, List, length}
use Rattle.bit_classes.specs.declared.class.Class.{Class}
use Rattle.bit_classes.specs.declared.join.Join.{Join}
use Rattle.bit_classes.specs.declared.join.Join.TheVariants.{And, Or}
use Rattle.bit_classes.specs.Vectors.{combined}

-- where two vectors of a width may be wanted combined, so may each of them
abbrev pub IsSieve : ℕ → (Join → List Bool → Bool) → Type 0
IsSieve width may =
    (join : Join) (a b : List Bool) → length a ≡ width → length b ≡ width → may join (combined join a b) ≡ true → (may join a ≡ true) × (may join b ≡ true)

-- whether a class may be wanted, by AND as by OR
abbrev pub is_wanted : (Join → List Bool → Bool) → Class → Bool
is_wanted may class = may And class.bits && may Or class.bits

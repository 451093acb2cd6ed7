-- What a predicate says of a row.
use Rattle.std.specs.Prelude.{ℕ, Bool, true, false, not, List, slice_get, unwrap_or}
use Rattle.value_core.specs.Value.{compare, is_null}
use Rattle.value_core.specs.declared.value.Value.{Value}
use Rattle.value_core.specs.declared.value.Value.TheVariants.{Null}
use Rattle.value_core.specs.declared.comparison.Truth.{Truth}
use Rattle.value_core.specs.declared.comparison.Truth.TheVariants.{Yes, No, Unknown}
use Rattle.predicate_core.specs.declared.atom.Atom.{Atom}
use Rattle.predicate_core.specs.declared.atom.Atom.TheVariants.{Cols, Const, IsNull, NotNull}
use Rattle.predicate_core.specs.declared.pred.Pred.{Pred}
use Rattle.predicate_core.specs.declared.pred.Pred.TheVariants.{Always, One, And2, Or2, And3, Or3}

-- the value at a place, NULL where there is none
abbrev pub value_at : List Value → ℕ → Value
value_at values at = unwrap_or (slice_get values at) Null

-- the truth of what is never unknown
abbrev pub truth_of : Bool → Truth
truth_of true = Yes
truth_of false = No

-- AND: no where a side is no, else unknown where a side is unknown
abbrev pub both : Truth → Truth → Truth
both Yes t = t
both No t = No
both Unknown No = No
both Unknown Yes = Unknown
both Unknown Unknown = Unknown

-- OR: yes where a side is yes, else unknown where a side is unknown
abbrev pub either : Truth → Truth → Truth
either Yes t = Yes
either No t = t
either Unknown Yes = Yes
either Unknown No = Unknown
either Unknown Unknown = Unknown

-- the truth of an atom on a row
abbrev pub atom_truth : List Value → List Value → Atom → Truth
atom_truth constants row (Cols i op j) = compare op (value_at row i) (value_at row j)
atom_truth constants row (Const i op k) = compare op (value_at row i) (value_at constants k)
atom_truth constants row (IsNull i) = truth_of (is_null (value_at row i))
atom_truth constants row (NotNull i) = truth_of (not (is_null (value_at row i)))

-- the truth of a predicate on a row
abbrev pub truth : List Value → Pred → List Value → Truth
truth constants Always row = Yes
truth constants (One a) row = atom_truth constants row a
truth constants (And2 a b) row = both (atom_truth constants row a) (atom_truth constants row b)
truth constants (Or2 a b) row = either (atom_truth constants row a) (atom_truth constants row b)
truth constants (And3 a b c) row = both (atom_truth constants row a) (both (atom_truth constants row b) (atom_truth constants row c))
truth constants (Or3 a b c) row = either (atom_truth constants row a) (either (atom_truth constants row b) (atom_truth constants row c))

-- whether a truth is yes
abbrev pub is_yes : Truth → Bool
is_yes Yes = true
is_yes No = false
is_yes Unknown = false

-- a predicate keeps a row exactly where its truth is yes
abbrev pub keeps : List Value → Pred → List Value → Bool
keeps constants p row = is_yes (truth constants p row)

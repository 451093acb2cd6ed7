-- Values, their order, and SQL's comparison of them.
use Rattle.std.specs.Prelude.{Bool, true, false, ◌||◌, Option, Some, None, if◌then◌else◌}
use Rattle.std.specs.declared.cmp.Ordering.{Ordering}
use Rattle.std.specs.declared.cmp.Ordering.TheVariants.{Less, Equal, Greater}
use Rattle.std.specs.Ordering.{nat_cmp, int_cmp, is_eq, is_ne, is_lt, is_le, is_gt, is_ge}
use Rattle.std.specs.Cmp.Lexicographic.{slice_cmp}
use Rattle.value_core.specs.declared.value.Value.{Value}
use Rattle.value_core.specs.declared.value.Value.TheVariants.{Null, Int, Text}
use Rattle.value_core.specs.declared.value.ColType.{ColType}
use Rattle.value_core.specs.declared.value.ColType.TheVariants as kind
use Rattle.value_core.specs.declared.comparison.Truth.{Truth}
use Rattle.value_core.specs.declared.comparison.Truth.TheVariants.{Yes, No, Unknown}
use Rattle.value_core.specs.declared.comparison.CmpOp.{CmpOp}
use Rattle.value_core.specs.declared.comparison.CmpOp.TheVariants.{Eq, Ne, Lt, Le, Gt, Ge}

-- the total order of values: NULL, then numbers by size, then texts by their bytes
abbrev pub order : Value → Value → Ordering
order Null Null = Equal
order Null (Int m) = Less
order Null (Text t) = Less
order (Int n) Null = Greater
order (Int n) (Int m) = int_cmp n m
order (Int n) (Text t) = Less
order (Text s) Null = Greater
order (Text s) (Int m) = Greater
order (Text s) (Text t) = slice_cmp nat_cmp s t

-- equality in which NULL is the same as NULL
abbrev pub same : Value → Value → Bool
same a b = is_eq (order a b)

-- whether a comparison holds of two values that stand in this order
abbrev pub holds : CmpOp → Ordering → Bool
holds Eq o = is_eq o
holds Ne o = is_ne o
holds Lt o = is_lt o
holds Le o = is_le o
holds Gt o = is_gt o
holds Ge o = is_ge o

-- whether a value is NULL
abbrev pub is_null : Value → Bool
is_null Null = true
is_null (Int n) = false
is_null (Text s) = false

-- SQL's comparison: unknown where a side is NULL, else by the order
abbrev pub compare : CmpOp → Value → Value → Truth
compare op a b = if is_null a || is_null b then Unknown else (if holds op (order a b) then Yes else No)

-- whether two types are the same
abbrev pub same_type : ColType → ColType → Bool
same_type kind.Int kind.Int = true
same_type kind.Int kind.Text = false
same_type kind.Text kind.Int = false
same_type kind.Text kind.Text = true

-- the type of a value; NULL has none
abbrev pub type_of : Value → Option ColType
type_of Null = None
type_of (Int n) = Some kind.Int
type_of (Text s) = Some kind.Text

-- whether these two are the same, where there is a second
abbrev pub is_type : ColType → Option ColType → Bool
is_type t None = false
is_type t (Some u) = same_type t u

-- whether a value is of a type; NULL is of none
abbrev pub is_of_type : ColType → Value → Bool
is_of_type t v = is_type t (type_of v)

-- whether a value may stand in a column of this type: NULL may stand in each
abbrev pub fits : ColType → Value → Bool
fits t v = is_null v || is_of_type t v

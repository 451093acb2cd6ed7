-- Abstract cells, and the values that they cover.
use Rattle.std.specs.Prelude.{ℤ, int_le, Bool, true, false, ◌&&◌, List, if◌then◌else◌}
use Rattle.std.specs.List.{list_all, list_any}
use Rattle.value_core.specs.Value.{same, is_null}
use Rattle.value_core.specs.declared.value.Value.{Value}
use Rattle.value_core.specs.declared.value.Value.TheVariants.{Null, Int, Text}
use Rattle.over_cells.specs.declared.cell.AbsCell.{AbsCell}
use Rattle.over_cells.specs.declared.cell.AbsCell.TheVariants.{Known, From, Within, Any}

-- whether a value is NULL where it may be, or one of these
abbrev pub is_from : List Value → Bool → Value → Bool
is_from values null v = if is_null v then null else list_any (same v) values

-- whether a value is NULL where it may be, or a number within these bounds
abbrev pub is_within : ℤ → ℤ → Bool → Value → Bool
is_within lo hi null Null = null
is_within lo hi null (Int n) = int_le lo n && int_le n hi
is_within lo hi null (Text s) = false

-- whether a cell covers a value
abbrev pub covers : AbsCell → Value → Bool
covers (Known known) v = same known v
covers (From values null) v = is_from values null v
covers (Within lo hi null) v = is_within lo hi null v
covers Any v = true

-- the value of a cell, NULL where it isn't known
abbrev pub value_of : AbsCell → Value
value_of (Known known) = known
value_of (From values null) = Null
value_of (Within lo hi null) = Null
value_of Any = Null

-- whether a cell's value is known
abbrev pub is_known : AbsCell → Bool
is_known (Known known) = true
is_known (From values null) = false
is_known (Within lo hi null) = false
is_known Any = false

-- whether the values of all of some cells are known
abbrev pub are_known : List AbsCell → Bool
are_known cells = list_all is_known cells

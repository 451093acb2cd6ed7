-- The abstract cell of an aggregate, over the cells of its column in the rows of a group of which any part may be left.
use Rattle.std.specs.Prelude.{ℕ, ℤ, pos, neg_ℤ, ◌+ℤ◌, ◌-◌, ◌^◌, int_lt, Bool, not, ◌||◌, false, List, [], ◌∷◌, map, if◌then◌else◌}
use Rattle.std.specs.Prelude.{filter as list_filter}
use Rattle.std.specs.List.{list_any}
use Rattle.value_core.specs.Value.{same, is_null}
use Rattle.value_core.specs.declared.value.Value.{Value}
use Rattle.query_core.specs.Groups.{number_of}
use Rattle.over_cells.specs.Cells.{value_of, are_known}
use Rattle.over_cells.specs.declared.cell.AbsCell.{AbsCell}
use Rattle.over_cells.specs.declared.cell.AbsCell.TheVariants.{From, Within, Any}
use Rattle.over_cells.specs.declared.cell.AggKind.{AggKind}
use Rattle.over_cells.specs.declared.cell.AggKind.TheVariants.{CountAll, Count, CountDistinct, Sum, Min, Max}

-- of some values those that aren't among these, each once, in order of their first places
abbrev pub distinct_after : List Value → List Value → List Value
distinct_after seen [] = []
distinct_after seen (v ∷ vs) = if list_any (same v) seen then distinct_after seen vs else v ∷ distinct_after (v ∷ seen) vs

-- the values that aren't NULL, each once, in order of their first places
abbrev pub distinct : List Value → List Value
distinct values = distinct_after [] (list_filter (λ v. not (is_null v)) values)

-- a number where it is below 0, and where it is above 0; else 0
abbrev pub below_0 : ℤ → ℤ
below_0 n = if int_lt n (pos 0) then n else pos 0

abbrev pub above_0 : ℤ → ℤ
above_0 n = if int_lt (pos 0) n then n else pos 0

-- the sum of the negative numbers of some values, and of the positive ones
abbrev pub negatives : List Value → ℤ
negatives [] = pos 0
negatives (v ∷ vs) = below_0 (number_of v) +ℤ negatives vs

abbrev pub positives : List Value → ℤ
positives [] = pos 0
positives (v ∷ vs) = above_0 (number_of v) +ℤ positives vs

-- the least and the greatest number of 64 bits
abbrev pub least : ℤ
least = neg_ℤ (pos (2 ^ 63))

abbrev pub greatest : ℤ
greatest = pos (2 ^ 63 - 1)

-- a number cut to 64 bits
abbrev pub cut : ℤ → ℤ
cut n = if int_lt n least then least else if int_lt greatest n then greatest else n

-- whether an aggregate of some part of these values may be NULL: one of them is, or all rows may be left out
abbrev pub may_be_null : Bool → List Value → Bool
may_be_null keyed values = not keyed || list_any is_null values

-- the cell of a smallest or largest value, over known cells with these values
abbrev pub one_of : Bool → List Value → AbsCell
one_of keyed values = From (distinct values) (may_be_null keyed values)

-- the cell of a sum, over known cells with these values
abbrev pub sum_within : Bool → List Value → AbsCell
sum_within keyed values = Within (cut (negatives values)) (cut (positives values)) (may_be_null keyed values)

-- the cell of an aggregate over so many rows with these cells in its column; a group with keys has at least one row
abbrev pub agg_cell : AggKind → Bool → List AbsCell → ℕ → AbsCell
agg_cell CountAll keyed cells n = Within (if keyed then pos 1 else pos 0) (pos n) false
agg_cell Count keyed cells n = Within (pos 0) (pos n) false
agg_cell CountDistinct keyed cells n = Within (pos 0) (pos n) false
agg_cell Sum keyed cells n = if are_known cells then sum_within keyed (map value_of cells) else Any
agg_cell Min keyed cells n = if are_known cells then one_of keyed (map value_of cells) else Any
agg_cell Max keyed cells n = if are_known cells then one_of keyed (map value_of cells) else Any

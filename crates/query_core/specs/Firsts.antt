-- Rows projected to some columns, first copies, and unions.
use Rattle.std.specs.Prelude.{ℕ, not, List, [], ◌∷◌, ◌++◌, map}
use Rattle.std.specs.Prelude.{filter as list_filter}
use Rattle.predicate_core.specs.Truth.{value_at}
use Rattle.table_core.specs.Rows.{Row}
use Rattle.table_core.specs.Bag.{same_cells}
use Rattle.query_core.specs.declared.kinds.Uniting.{Uniting}
use Rattle.query_core.specs.declared.kinds.Uniting.TheVariants.{All, Firsts}

-- the row of these columns of a row
abbrev pub projected : List ℕ → Row → Row
projected picks row = map (value_at row) picks

-- each row once, at its first place
abbrev pub firsts : List Row → List Row
firsts [] = []
firsts (row ∷ others) = row ∷ list_filter (λ r. not (same_cells r row)) (firsts others)

-- the rows of two parts together: every copy, or each row once
abbrev pub united : Uniting → List Row → List Row → List Row
united All xs ys = xs ++ ys
united Firsts xs ys = firsts (xs ++ ys)

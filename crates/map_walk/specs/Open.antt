-- Whether candidates can give an output at all, told column by column.
use Rattle.std.specs.Prelude.{ℕ, ◌+◌, Bool, true, ◌&&◌, List, [], ◌∷◌}
use Rattle.std.specs.List.{list_all, list_any}
use Rattle.value_core.specs.declared.value.ColType.{ColType}
use Rattle.value_core.specs.declared.value.Value.{Value}
use Rattle.predicate_core.specs.Truth.{value_at}
use Rattle.table_core.specs.Rows.{Row, TableData, types_of}
use Rattle.query_core.specs.Grammar.{places_of}

-- whether some candidate may have at a place the value that a row has at another
abbrev pub some_has : {X : Type 0} → (X → ℕ → Value → Bool) → List X → ℕ → Row → ℕ → Bool
some_has has candidates at row place = list_any (λ c. has c at (value_at row place)) candidates

-- whether a body column may have all values of the output column of the number `place`
abbrev pub serves : {X : Type 0} → (X → ℕ → Value → Bool) → List X → List Row → ℕ → ℕ → Bool
serves has candidates output place at = list_all (λ row. some_has has candidates at row place) output

-- whether some body column of a type may have them
abbrev pub some_serves : {X : Type 0} → (X → ℕ → Value → Bool) → List ColType → List X → List Row → ℕ → ColType → Bool
some_serves has types candidates output place t = list_any (serves has candidates output place) (places_of t 0 types)

-- whether each output column has such a body column; these are numbered from `place`
abbrev pub all_served : {X : Type 0} → (X → ℕ → Value → Bool) → List ColType → List X → List Row → ℕ → List ColType → Bool
all_served has types candidates output place [] = true
all_served has types candidates output place (t ∷ ts) = some_serves has types candidates output place t && all_served has types candidates output (place + 1) ts

-- whether each column of a table has a body column of its type that may have all of its values
abbrev pub is_open_by : {X : Type 0} → (X → ℕ → Value → Bool) → List ColType → List X → TableData → Bool
is_open_by has types candidates table = all_served has types candidates table.rows 0 (types_of table)

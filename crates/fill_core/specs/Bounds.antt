-- Bounds of what is filled and found, and how many combinations of its parts' fillings a node has.
use Rattle.std.specs.Prelude.{◌≡◌, ℕ, ◌+◌, ◌*◌, ◌<◌, ◌≤◌, length, Option, Some, None}
use Rattle.table_core.specs.declared.task.TaskParts.{TaskParts}
use Rattle.query_core.specs.Filled.{standard_fillings}
use Rattle.query_core.specs.Tree.{Tree}
use Rattle.query_core.specs.Tree as t

-- a number is more than a bound, where there is one
abbrev pub Passes : Option ℕ → ℕ → Type 0
Passes None n = ⊥
Passes (Some bound) n = bound < n

-- a number is at most a bound, where there is one
abbrev pub IsWithin : Option ℕ → ℕ → Type 0
IsWithin None n = Unit
IsWithin (Some bound) n = n ≤ bound

-- what is left of a bound, where there is one, and a number are together the bound
abbrev pub Leaves : Option ℕ → Option ℕ → ℕ → Type 0
Leaves None None n = Unit
Leaves None (Some left) n = ⊥
Leaves (Some bound) None n = ⊥
Leaves (Some bound) (Some left) n = left + n ≡ bound

-- how many standard fillings a skeleton has
abbrev pub fillings_in : TaskParts → Tree → ℕ
fillings_in task skeleton = length (standard_fillings task skeleton)

-- how many combinations of its parts' standard fillings a skeleton has: one where it has no part
abbrev pub combos_of : TaskParts → Tree → ℕ
combos_of task (t.base table) = 1
combos_of task (t.filter child p) = fillings_in task child
combos_of task (t.pair kind a b p) = fillings_in task a * fillings_in task b
combos_of task (t.group child keys agg) = fillings_in task child
combos_of task (t.unite kind a b) = fillings_in task a * fillings_in task b

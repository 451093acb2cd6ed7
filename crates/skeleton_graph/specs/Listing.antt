-- The levels of numbered skeletons of a task.
use Rattle.std.specs.Prelude.{ℕ, zero, suc, ◌+◌, List, [], ◌∷◌, ◌++◌, length}
use Rattle.table_core.specs.declared.task.TaskParts.{TaskParts}
use Rattle.skeleton_graph.specs.Seen.{base_parts, next_parts}
use Rattle.skeleton_graph.specs.View.{placed, see_levels}
use Rattle.skeleton_graph.specs.declared.part.Part.{Part}
use Rattle.skeleton_graph.specs.declared.levels.Levels.{Levels}

-- some levels and one more, numbered from where they end
abbrev pub with_level : Levels → List Part → Levels
with_level l parts = record { levels = l.levels ++ placed l.count parts ∷ []; count = l.count + length parts }

-- some levels and the next one
abbrev pub with_next : TaskParts → Levels → Levels
with_next task l = with_level l (next_parts task (see_levels l.levels))

-- no level
abbrev pub no_levels : Levels
no_levels = record { levels = []; count = 0 }

-- the levels of the skeletons with at most so many operators
abbrev pub placed_levels : TaskParts → ℕ → Levels
placed_levels task zero = with_level no_levels (base_parts task)
placed_levels task (suc n) = with_next task (placed_levels task n)

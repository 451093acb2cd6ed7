-- Laws of levels of numbered skeletons.
use Rattle.std.proofs.Common.{◌≡◌, ℕ, zero, suc, ◌+◌, ◌-◌, List, [], ◌∷◌, ◌++◌, length, refl, ap, ◌∙◌, arith, length-append}
use Rattle.std.proofs.lemmas.List.{append-nil}
use Rattle.std.proofs.lemmas.Grind.{flat_map-append}
use Rattle.table_core.specs.declared.task.TaskParts.{TaskParts}
use Rattle.skeleton_graph.specs.declared.part.Part.{Part}
use Rattle.skeleton_graph.specs.declared.levels.Levels.{Levels}
use Rattle.skeleton_graph.specs.Seen.{all_of, base_parts, next_parts}
use Rattle.skeleton_graph.specs.View.{placed, see_levels}
use Rattle.skeleton_graph.specs.Listing.{with_level, with_next, no_levels, placed_levels}

-- a level more
pub level_up : (task : TaskParts) (ops : ℕ) (below : Levels) → (ops ≡ 0 → ⊥) → below ≡ placed_levels task (ops - 1) → with_next task below ≡ placed_levels task ops
level_up task ops below some is =
    let e : ops ≡ suc (ops - 1) = omega (arith, some) in
    rw e (ap (with_next task) is)

length-placed : (n : ℕ) (parts : List Part) → length (placed n parts) ≡ length parts
length-placed n [] = refl
length-placed n (p ∷ parts) = ap suc (length-placed (n + 1) parts)

-- all skeletons of some levels and one more
pub all_with : {A : Type 0} (levels : List (List A)) (level : List A) → all_of (levels ++ level ∷ []) ≡ all_of levels ++ level
all_with levels level = flat_map-append (λ l. l) levels (level ∷ []) ∙ ap (λ l. all_of levels ++ l) (append-nil level)

counted : (l : Levels) (parts : List Part) → l.count ≡ length (all_of l.levels) → (with_level l parts).count ≡ length (all_of (with_level l parts).levels)
counted l parts is =
    let size : length (all_of (l.levels ++ placed l.count parts ∷ [])) ≡ length (all_of l.levels) + length (placed l.count parts) = ap length (all_with l.levels (placed l.count parts)) ∙ length-append (all_of l.levels) (placed l.count parts) in
    let one : length (placed l.count parts) ≡ length parts = length-placed l.count parts in
    omega (arith, size, one, is)

-- how many the skeletons are
pub count_is : (task : TaskParts) (ops : ℕ) → (placed_levels task ops).count ≡ length (all_of (placed_levels task ops).levels)
count_is task zero = counted no_levels (base_parts task) refl
count_is task (suc ops) = counted (placed_levels task ops) (next_parts task (see_levels (placed_levels task ops).levels)) (count_is task ops)

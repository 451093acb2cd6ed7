-- The answers of some skeletons, one after the other.
use Rattle.std.proofs.Common.{◌≡◌, ◌+◌, ◌≤◌, ℕ, drop, append_assoc, List, ◌∷◌, ◌++◌, length, Some, sym, ap, ◌∙◌}
use Rattle.std.specs.List.{flat_map, enumerate_from, slice_get}
use Rattle.std.proofs.lemmas.List.{append-nil, at_drop_more, drop_all}
use Rattle.std.proofs.lemmas.Option.{get_or_from_slice_get, slice_get_within}
use Rattle.table_core.specs.declared.task.TaskParts.{TaskParts}
use Rattle.query_core.specs.Tree.{Tree}
use Rattle.query_core.specs.Answers.{RankedQuery}
use Rattle.root_search.specs.Answers.{root_answers}

-- the elements from a place on, where one is there
from_place : {X : Type 0} (xs : List X) (i : ℕ) (x : X) → slice_get xs i ≡ Some x → drop i xs ≡ x ∷ drop (i + 1) xs
from_place xs i x there =
    let within = slice_get_within xs i x there in
    at_drop_more (λ (ys : List _). ys) xs i x within ∙ ap (λ y. y ∷ drop (i + 1) xs) (get_or_from_slice_get xs i x x there)

-- the answers of one skeleton more
pub found_more : (task : TaskParts) (trees : List Tree) (i : ℕ) (t : Tree) (front more whole : List RankedQuery)
    → slice_get trees i ≡ Some t → front ++ flat_map (root_answers task) (enumerate_from i (drop i trees)) ≡ whole → more ≡ front ++ root_answers task (i, t)
    → more ++ flat_map (root_answers task) (enumerate_from (i + 1) (drop (i + 1) trees)) ≡ whole
found_more task trees i t front more whole there so_far pushed =
    let rest = flat_map (root_answers task) (enumerate_from (i + 1) (drop (i + 1) trees)) in
    ap (λ (out : List RankedQuery). out ++ rest) pushed
    ∙ append_assoc front (root_answers task (i, t)) rest
    ∙ ap (λ (ts : List Tree). front ++ flat_map (root_answers task) (enumerate_from i ts)) (sym (from_place trees i t there))
    ∙ so_far

-- the answers of all skeletons, where none is left
pub found_all : (task : TaskParts) (trees : List Tree) (i : ℕ) (front whole : List RankedQuery)
    → length trees ≤ i → front ++ flat_map (root_answers task) (enumerate_from i (drop i trees)) ≡ whole → front ≡ whole
found_all task trees i front whole past so_far =
    sym (append-nil front) ∙ ap (λ (ts : List Tree). front ++ flat_map (root_answers task) (enumerate_from i ts)) (sym (drop_all i trees past)) ∙ so_far

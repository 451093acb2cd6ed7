-- The levels of skeletons by their numbers, and the pairs of trees of two levels.
use Rattle.std.proofs.Common.{◌≡◌, refl, sym, ap, ◌∙◌, ℕ, zero, suc, ◌+◌, ◌-◌, ◌<◌, ◌≤◌, inl, inr, List, [], ◌∷◌, ◌++◌, map, length, length-append, arith}
use Rattle.std.specs.List.{range_with_len}
use Rattle.std.proofs.lemmas.Bool.{cases_eq}
use Rattle.predicate_core.proofs.OnceLists.{In, in_same, in_map}
use Rattle.table_core.specs.declared.task.TaskParts.{TaskParts}
use Rattle.query_core.specs.Tree.{Tree}
use Rattle.query_core.specs.Grammar.{level_at, products, level_pairs, last_level, next_level, levels}
use Rattle.query_laws.proofs.MemberLaws.{in_equal, map_in, in_flat_map, flat_map_in, in_range, range_in}

-- the level of a number, as the levels up to it have it
abbrev pub level : TaskParts → ℕ → List Tree
level task k = level_at (levels task k) k

-- a level more keeps those below it, and has the next one last
level_kept : (ls : List (List Tree)) (next : List Tree) (k : ℕ) → k < length ls → level_at (ls ++ next ∷ []) k ≡ level_at ls k
level_kept [] next k below = absurd (omega arith)
level_kept (l ∷ ls) next zero below = refl
level_kept (l ∷ ls) next (suc k) below = level_kept ls next k (omega arith)

level_last : (ls : List (List Tree)) (next : List Tree) (k : ℕ) → k ≡ length ls → level_at (ls ++ next ∷ []) k ≡ next
level_last [] next zero is = refl
level_last [] next (suc k) is = absurd (omega arith)
level_last (l ∷ ls) next zero is = absurd (omega arith)
level_last (l ∷ ls) next (suc k) is = level_last ls next k (omega arith)

pub levels_length : (task : TaskParts) (n : ℕ) → length (levels task n) ≡ n + 1
levels_length task zero = refl
levels_length task (suc n) = let rest = levels_length task n in omega (arith, length-append (levels task n) (next_level task (levels task n) ∷ []))

pub level_next : (task : TaskParts) (n : ℕ) → level task (suc n) ≡ next_level task (levels task n)
level_next task n = level_last (levels task n) (next_level task (levels task n)) (suc n) (omega (arith, levels_length task n))

pub level_within : (task : TaskParts) (n k : ℕ) → k ≤ n → level_at (levels task n) k ≡ level task k
level_within task zero zero within = refl
level_within task zero (suc k) within = absurd (omega arith)
level_within task (suc n) k within =
    elim (cases_eq k (suc n)) [
      | inl e ↦ rw e refl
      | inr apart ↦ level_kept (levels task n) (next_level task (levels task n)) k (omega (arith, levels_length task n)) ∙ level_within task n k (omega arith)
    ]

pub level_before : (task : TaskParts) (n : ℕ) → last_level (levels task n) ≡ level task n
level_before task n = let e : length (levels task n) - 1 ≡ n = omega (arith, levels_length task n) in ap (level_at (levels task n)) e

-- a tree with each of a list, the products of two lists, and the pairs of levels
abbrev pub pair_with : List Tree → Tree → List (Tree × Tree)
pair_with rights a = map (λ b. (a, b)) rights

pub in_products : (lefts rights : List Tree) (p : Tree × Tree) → In p (products lefts rights) → In p.0 lefts × In p.1 rights
in_products lefts rights p i =
    let h = in_flat_map (pair_with rights) p lefts i in
    let k = in_map (λ b. (h.0, b)) p rights h.2 in
    (in_same p.0 h.0 lefts (ap (λ q. q.0) k.2) h.1, in_same p.1 k.0 rights (ap (λ q. q.1) k.2) k.1)

products_in : (lefts rights : List Tree) (a b : Tree) → In a lefts → In b rights → In (a, b) (products lefts rights)
products_in lefts rights a b left right = flat_map_in (pair_with rights) (a, b) a lefts left (map_in (λ b. (a, b)) b rights right)

abbrev pub pairs_from : List (List Tree) → ℕ → List (Tree × Tree)
pairs_from ls i = products (level_at ls i) (level_at ls (length ls - 1 - i))

-- the pairs of levels are of the level of a number and of the one that makes it up to the next level
pub in_pairs_of_levels : (ls : List (List Tree)) (p : Tree × Tree) → In p (level_pairs ls) → (i : ℕ) × (i < length ls) × In p.0 (level_at ls i) × In p.1 (level_at ls (length ls - 1 - i))
in_pairs_of_levels ls p here =
    let h = in_flat_map (pairs_from ls) p (range_with_len 0 (length ls)) here in
    let within = in_range 0 (length ls) h.0 h.1 in
    let both = in_products (level_at ls h.0) (level_at ls (length ls - 1 - h.0)) p h.2 in
    (h.0, omega (arith, within.1), both.0, both.1)

-- the pairs of the levels are of two levels whose numbers are together that of the last
abbrev pub PairOf : TaskParts → ℕ → Tree × Tree → Type 0
PairOf task n p = (i j : ℕ) × (i + j ≡ n) × In p.0 (level task i) × In p.1 (level task j)

pub in_level_pairs : (task : TaskParts) (n : ℕ) (p : Tree × Tree) → In p (level_pairs (levels task n)) → PairOf task n p
in_level_pairs task n p here =
    let ls = levels task n in
    let h = in_pairs_of_levels ls p here in
    let size = levels_length task n in
    let e : length ls - 1 - h.0 ≡ n - h.0 = omega (arith, size) in
    let left = in_equal p.0 _ _ (level_within task n h.0 (omega (arith, size, h.1))) h.2 in
    let right = in_equal p.1 _ _ (ap (level_at ls) e ∙ level_within task n (n - h.0) (omega arith)) h.3 in
    (h.0, n - h.0, omega (arith, size, h.1), left, right)

pub level_pairs_in : (task : TaskParts) (n i j : ℕ) (a b : Tree) → i + j ≡ n → In a (level task i) → In b (level task j) → In (a, b) (level_pairs (levels task n))
level_pairs_in task n i j a b is left right =
    let ls = levels task n in
    let size = levels_length task n in
    let e : length ls - 1 - i ≡ j = omega (arith, size) in
    let left_here = in_equal a _ _ (sym (level_within task n i (omega arith))) left in
    let right_here = in_equal b _ _ (sym (ap (level_at ls) e ∙ level_within task n j (omega arith))) right in
    flat_map_in (pairs_from ls) (a, b) i (range_with_len 0 (length ls)) (range_in 0 (length ls) i (omega arith) (omega (arith, size)))
    (products_in (level_at ls i) (level_at ls (length ls - 1 - i)) a b left_here right_here)

-- The states and the rows that draws give in turn.
use Rattle.std.proofs.Common.{◌≡◌, refl, sym, ap, ◌∙◌, ℕ, ◌+◌, ◌-◌, ◌*◌, List, [], ◌∷◌, ◌++◌, map, codes, add-one, arith}
use Rattle.std.specs.List.{range_with_len}
use Rattle.std.proofs.lemmas.List.FromFn.{map-range_with_len_more}
use Rattle.value_core.specs.declared.value.Value.TheVariants.{Text}
use Rattle.table_core.specs.Rows.{Row}
use Rattle.gen_task.specs.Draws.{next_state, read_off, state_after}
use Rattle.gen_task.specs.Made.{whole, row_a, row_b}

pub state_after_none : (x : ℕ) → state_after x 0 ≡ x
unfolding state_after
state_after_none x = refl

-- one draw more
pub state_after_more : (x n m : ℕ) → m ≡ n + 1 → state_after x m ≡ next_state (state_after x n)
unfolding state_after
state_after_more x n m e = ap (state_after x) (e ∙ add-one n)

-- the two draws of a row of table `a`
pub state_after_row : (x i s : ℕ) → s ≡ state_after x (2 * i) → next_state (next_state s) ≡ state_after x (2 * (i + 1))
state_after_row x i s e =
    let one = state_after_more x (2 * i) (2 * i + 1) refl in
    let two = state_after_more x (2 * i + 1) (2 * (i + 1)) (omega arith) in
    rw (two, one, e) refl

drawn_row_a : (x i s : ℕ) → s ≡ state_after x (2 * i) → whole (i + 1) ∷ whole (read_off (next_state s) 16) ∷ whole (read_off (next_state (next_state s)) 100) ∷ [] ≡ row_a x (i + 1)
unfolding row_a
drawn_row_a x i s e =
    let one = state_after_more x (2 * i) (2 * (i + 1) - 1) (omega arith) in
    let two = state_after_row x i s e in
    rw (← two, one, e) refl

-- a row more of table `a`
pub rows_a_more : (x i s : ℕ) (rows : List Row) (row : Row) → s ≡ state_after x (2 * i) → rows ≡ map (row_a x) (range_with_len 1 i) → row ≡ whole (i + 1) ∷ whole (read_off (next_state s) 16) ∷ whole (read_off (next_state (next_state s)) 100) ∷ [] → rows ++ row ∷ [] ≡ map (row_a x) (range_with_len 1 (i + 1))
rows_a_more x i s rows row e f g = rw (f, g, drawn_row_a x i s e) (sym (map-range_with_len_more (row_a x) 1 i (i + 1) (omega arith)))

drawn_row_b : (x j s : ℕ) → s ≡ state_after x j → whole j ∷ Text (codes "t" ++ (48 + read_off (next_state s) 3) ∷ []) ∷ [] ≡ row_b x j
unfolding row_b
drawn_row_b x j s e = rw (state_after_more x j (j + 1) refl, e) refl

-- a row more of table `b`
pub rows_b_more : (x j s : ℕ) (rows : List Row) (row : Row) → s ≡ state_after x j → rows ≡ map (row_b x) (range_with_len 0 j) → row ≡ whole j ∷ Text (codes "t" ++ (48 + read_off (next_state s) 3) ∷ []) ∷ [] → rows ++ row ∷ [] ≡ map (row_b x) (range_with_len 0 (j + 1))
rows_b_more x j s rows row e f g = rw (f, g, drawn_row_b x j s e) (sym (map-range_with_len_more (row_b x) 0 j j (omega arith)))

-- The rows of groups are covered.
use Rattle.std.proofs.Common.{◌≡◌, refl, sym, ap₂, ◌∙◌, subst, ℕ, zero, suc, ◌≤◌, true, false, inl, inr, List, [], ◌∷◌, map, length, Option, Some, None, option_map, arith}
use Rattle.std.specs.List.{list_all}
use Rattle.std.proofs.lemmas.Bool.{cases_Bool, and_parts, and_from, false≢true}
use Rattle.std.proofs.lemmas.Option.{same_Some, none-some}
use Rattle.predicate_core.specs.Truth.{value_at}
use Rattle.predicate_core.proofs.OnceLists.{In}
use Rattle.table_core.specs.Rows.{Row}
use Rattle.table_core.specs.Bag.{same_cells}
use Rattle.query_core.specs.Firsts.{projected, firsts}
use Rattle.query_core.specs.Groups.{group_keys, members, group_row, all_some, grouped}
use Rattle.query_core.specs.declared.agg.Agg.{Agg}
use Rattle.query_laws.proofs.FirstCopyLaws.{once_firsts, in_firsts}
use Rattle.query_laws.proofs.GroupLaws.{row_of_key, in_members, group_row_is}
use Rattle.over_cells.specs.Cells.{covers, value_of, is_known, are_known}
use Rattle.over_cells.specs.declared.cell.AbsCell.TheVariants.{Any}
use Rattle.over_eval.specs.Over.{AbsRow, exact_row, cell_at, cells_at, plain, members_over, has_keys, cell_of, group_over, knows, any_group, groups_over}
use Rattle.over_eval.specs.Placed.{Takes, Placed}
use Rattle.over_eval.specs.Laws.{IsCovered, AreCovered}
use Rattle.over_eval.proofs.PlacedLaws.{PartOf, part_whole, part_places, once_part, in_whole, placed_all, placed_weaker, placed_onto, placed_from, placed_map, placed_filter, takes_map}
use Rattle.over_eval.proofs.StepLaws.{covered_exact, covered_append, covered_cell, covered_picks, firsts_placed}
use Rattle.over_eval.proofs.AggregateLaws.{known_value, aggregate_covered}

-- a row is covered, and the cells of these columns are known
abbrev IsKnown : List ℕ → Row → AbsRow → Type 0
IsKnown keys row cells = IsCovered row cells × (knows keys cells ≡ true)

-- the plain value of a column is its cell's
plain_at : (cells : AbsRow) (at : ℕ) → value_at (plain cells) at ≡ value_of (cell_at cells at)
plain_at [] at = refl
plain_at (c ∷ cs) zero = refl
plain_at (c ∷ cs) (suc at) = plain_at cs at

-- where the key cells are known, a row's key is that of the plain values
keys_known : (keys : List ℕ) (row : Row) (cells : AbsRow) → IsCovered row cells → knows keys cells ≡ true → projected keys row ≡ projected keys (plain cells)
keys_known [] row cells h known = refl
keys_known (k ∷ ks) row cells h known =
    let both = and_parts (is_known (cell_at cells k)) (are_known (cells_at ks cells)) known in
    ap₂ (λ v vs. v ∷ vs) (known_value (cell_at cells k) (value_at row k) (covered_cell cells row k h) both.0 ∙ sym (plain_at cells k)) (keys_known ks row cells h both.1)

-- the first copies of a part are a part of the first copies
firsts_part : (xs ys : List Row) → PartOf xs ys → PartOf (firsts xs) (firsts ys)
firsts_part xs ys h =
    once_part (firsts xs) (firsts ys) (once_firsts xs) (λ z i. in_firsts z ys (in_whole z xs ys h (in_whole z (firsts xs) xs (firsts_placed xs) i)))

module _ (keys : List ℕ) (rows : List Row) (over : List AbsRow) (known : Placed (IsKnown keys) rows over) where
  known_keys : PartOf (map (projected keys) rows) (map (projected keys) (map plain over))
  known_keys =
      let same_keys : Row → Row → Type 0 = λ row plain_row. projected keys row ≡ projected keys plain_row in
      placed_map same_keys (λ (x y : Row). x ≡ y) (projected keys) (projected keys) (λ row plain_row e. e) rows (map plain over)
      (placed_onto (IsKnown keys) same_keys plain (λ row cells e. keys_known keys row cells e.0 e.1) rows over known)

  -- the members of a key are covered
  known_members : (key : Row) → AreCovered (members keys rows key) (members_over keys over key)
  known_members key =
      placed_weaker (IsKnown keys) IsCovered (λ row cells e. e.0) (members keys rows key) (members_over keys over key)
      (placed_filter (IsKnown keys) (λ row. same_cells (projected keys row) key) (λ cells. same_cells (projected keys (plain cells)) key)
      (λ row cells e is. subst (λ (z : Row). same_cells z key ≡ true) (keys_known keys row cells e.0 e.1) is) rows over known)

-- the keys of the groups are a part of those of the plain values
group_keys_part : (keys : List ℕ) (rows : List Row) (over : List AbsRow) → Placed (IsKnown keys) rows over → PartOf (group_keys keys rows) (group_keys keys (map plain over))
group_keys_part [] rows over known = part_whole ([] ∷ [])
group_keys_part (k ∷ ks) rows over known = firsts_part (map (projected (k ∷ ks)) rows) (map (projected (k ∷ ks)) (map plain over)) (known_keys (k ∷ ks) rows over known)

-- a group with key columns has a member
one_in : {X : Type 0} (x : X) (xs : List X) → In x xs → 1 ≤ length xs
one_in x [] i = absurd i
one_in x (y ∷ ys) i = omega arith

some_members : (keys : List ℕ) (rows : List Row) (key : Row) → In key (group_keys keys rows) → has_keys keys ≡ true → 1 ≤ length (members keys rows key)
some_members [] rows key i is = absurd (false≢true is)
some_members (k ∷ ks) rows key i is =
    let row = row_of_key k ks rows key i in
    one_in row.0 (members (k ∷ ks) rows key) (in_members (k ∷ ks) rows row.0 key row.1 (sym row.2))

-- what is made of a value that is there is made of some value
pub from_map : {X Y : Type 0} (f : X → Y) (o : Option X) (y : Y) → option_map f o ≡ Some y → (x : X) × (o ≡ Some x) × (y ≡ f x)
from_map f None y e = absurd (none-some y e)
from_map f (Some x) y e = (x, refl, sym (same_Some (f x) y e))

-- what a function makes of each of some placed elements, where it makes something of each
made_next : {B X C : Type 0} (R : X → C → Type 0) (g : B → C) (b : B) (bs rest : List B) → Takes b bs rest → (o : Option X) → ((x : X) → o ≡ Some x → R x (g b))
    → (os : List (Option X)) → ((xs : List X) → all_some os ≡ Some xs → Placed R xs (map g rest)) → (out : List X) → all_some (o ∷ os) ≡ Some out → Placed R out (map g bs)
made_next R g b bs rest t None makes os more out e = absurd (none-some out e)
made_next {B} {X} R g b bs rest t (Some x) makes os more out e =
    let h = from_map (λ xs. x ∷ xs) (all_some os) out e in
    subst (λ (xs : List X). Placed R xs (map g bs)) (sym h.2) (g b, map g rest, takes_map g t, makes x refl, more h.0 h.1)

placed_made : {K B X C : Type 0} (Q : K → B → Type 0) (R : X → C → Type 0) (make : K → Option X) (g : B → C)
    → (ks : List K) → ((k : K) → In k ks → (b : B) → Q k b → (x : X) → make k ≡ Some x → R x (g b))
    → (bs : List B) → Placed Q ks bs → (out : List X) → all_some (map make ks) ≡ Some out → Placed R out (map g bs)
placed_made {K} {B} {X} Q R make g [] makes bs h out e = subst (λ (xs : List X). Placed R xs (map g bs)) (same_Some [] out e) tt
placed_made Q R make g (k ∷ ks) makes bs h out e =
    made_next R g h.0 bs h.1 h.2 (make k) (makes k (inl refl) h.0 h.3) (map make ks)
    (λ xs is. placed_made Q R make g ks (λ l i. makes l (inr i)) h.1 h.4 xs is) out e

-- Where all key cells are known, the groups are those of the plain values.

known_group : (keys : List ℕ) (agg : Agg) (rows : List Row) (over : List AbsRow) → Placed (IsKnown keys) rows over → (key row : Row) → In key (group_keys keys rows)
    → group_row keys agg rows key ≡ Some row → IsCovered row (group_over keys agg over key)
known_group keys agg rows over known key row i e =
    let is = group_row_is keys agg rows key row e in
    let group = members keys rows key in
    let cells = members_over keys over key in
    let cell = cell_of keys agg cells in
    let covered = aggregate_covered agg (has_keys keys) group cells is.0 (known_members keys rows over known key) (some_members keys rows key i) is.1 in
    subst (λ (r : Row). IsCovered r (group_over keys agg over key)) (sym is.2)
    (covered_append (exact_row key) key (cell ∷ []) (is.0 ∷ []) (covered_exact key) (and_from (covers cell is.0) true covered refl))

known_groups : (keys : List ℕ) (agg : Agg) (rows : List Row) (over : List AbsRow) (out : List Row) → Placed (IsKnown keys) rows over → grouped keys agg rows ≡ Some out
    → AreCovered out (map (group_over keys agg over) (group_keys keys (map plain over)))
known_groups keys agg rows over out known e =
    placed_made (λ (x y : Row). x ≡ y) IsCovered (group_row keys agg rows) (group_over keys agg over) (group_keys keys rows)
    (λ key i other same_key row is. subst (λ (z : Row). IsCovered row (group_over keys agg over z)) same_key (known_group keys agg rows over known key row i is))
    (group_keys keys (map plain over)) (group_keys_part keys rows over known) out e

-- Where some key cell isn't known, each row may have a group of its own.

-- a key is covered by the key cells
abbrev HasKey : List ℕ → Row → AbsRow → Type 0
HasKey keys key cells = IsCovered key (cells_at keys cells)

-- without key columns all are known
none_unknown : (over : List AbsRow) → list_all (knows []) over ≡ true
none_unknown [] = refl
none_unknown (cells ∷ over) = none_unknown over

keys_placed : (keys : List ℕ) (rows : List Row) (over : List AbsRow) → AreCovered rows over → list_all (knows keys) over ≡ false → Placed (HasKey keys) (group_keys keys rows) over
keys_placed [] rows over h unknown = absurd (false≢true (sym unknown ∙ none_unknown over))
keys_placed (k ∷ ks) rows over h unknown =
    let made = map (projected (k ∷ ks)) rows in
    part_places (HasKey (k ∷ ks)) (firsts made) made over (firsts_placed made)
    (placed_from IsCovered (HasKey (k ∷ ks)) (projected (k ∷ ks)) (λ row cells e. covered_picks (k ∷ ks) cells row e) rows over h)

any_covered : (keys : List ℕ) (agg : Agg) (rows : List Row) (key : Row) (cells : AbsRow) (row : Row) → HasKey keys key cells → group_row keys agg rows key ≡ Some row → IsCovered row (any_group keys cells)
any_covered keys agg rows key cells row h e =
    let is = group_row_is keys agg rows key row e in
    subst (λ (r : Row). IsCovered r (any_group keys cells)) (sym is.2) (covered_append (cells_at keys cells) key (Any ∷ []) (is.0 ∷ []) h refl)

unknown_groups : (keys : List ℕ) (agg : Agg) (rows : List Row) (over : List AbsRow) (out : List Row) → AreCovered rows over → list_all (knows keys) over ≡ false → grouped keys agg rows ≡ Some out
    → AreCovered out (map (any_group keys) over)
unknown_groups keys agg rows over out h unknown e =
    placed_made (HasKey keys) IsCovered (group_row keys agg rows) (any_group keys) (group_keys keys rows) (λ key i cells has row is. any_covered keys agg rows key cells row has is)
    over (keys_placed keys rows over h unknown) out e

-- the rows of the groups are covered
pub covered_groups : (keys : List ℕ) (agg : Agg) (rows : List Row) (over : List AbsRow) (out : List Row) → AreCovered rows over → grouped keys agg rows ≡ Some out → AreCovered out (groups_over keys agg over)
covered_groups keys agg rows over out h e =
    elim (cases_Bool (list_all (knows keys) over)) [
      | inl known ↦ rw known (known_groups keys agg rows over out (placed_all IsCovered (knows keys) rows over known h) e)
      | inr unknown ↦ rw unknown (unknown_groups keys agg rows over out h unknown e)
    ]

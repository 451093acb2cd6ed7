-- Groups: their keys, their members, and the rows of the groups.
use Rattle.std.proofs.Common.{◌≡◌, refl, sym, ap, ◌∙◌, ℕ, zero, suc, List, [], ◌∷◌, ◌++◌, map, length, Option, Some, None, option_map, inl}
use Rattle.std.specs.Prelude.{slice_get}
use Rattle.std.proofs.lemmas.Option.{same_Some, none-some, slice_get-map}
use Rattle.std.proofs.lemmas.List.{length-map}
use Rattle.predicate_core.proofs.OnceLists.{In, Once, in_map, in_at, at_in}
use Rattle.table_core.specs.Rows.{Row}
use Rattle.table_core.specs.Bag.{same_cells}
use Rattle.table_core.proofs.BagLaws.{same_cells_decides}
use Rattle.query_core.specs.Firsts.{projected, firsts}
use Rattle.query_core.specs.Groups.{aggregate, group_keys, members, group_row, all_some, grouped}
use Rattle.query_core.specs.declared.agg.Agg.{Agg}
use Rattle.query_laws.specs.Laws.{IsGroupRow}
use Rattle.query_laws.specs.Parts.{IsPart}
use Rattle.query_laws.proofs.MemberLaws.{map_in, in_filter, filter_in}
use Rattle.query_laws.proofs.FirstCopyLaws.{in_part, kept_part, once_firsts, in_firsts, part_firsts}

-- each key stands once
pub once_keys : (keys : List ℕ) (rows : List Row) → Once (group_keys keys rows)
once_keys [] rows = (λ i. i, tt)
once_keys (k ∷ ks) rows = once_firsts (map (projected (k ∷ ks)) rows)

-- each row's key is one of the keys
pub in_keys : (keys : List ℕ) (row : Row) (rows : List Row) → In row rows → In (projected keys row) (group_keys keys rows)
in_keys [] row rows i = inl refl
in_keys (k ∷ ks) row rows i = in_firsts _ _ (map_in (projected (k ∷ ks)) row rows i)

-- with key columns each key is that of a row
pub row_of_key : (k : ℕ) (ks : List ℕ) (rows : List Row) (key : Row) → In key (group_keys (k ∷ ks) rows) → (row : Row) × In row rows × (key ≡ projected (k ∷ ks) row)
row_of_key k ks rows key i =
    let made = map (projected (k ∷ ks)) rows in
    in_map (projected (k ∷ ks)) key rows (in_part key (firsts made) made (part_firsts made) i)

-- the keys of a part of the rows are keys of the rows
pub keys_of_part : (keys : List ℕ) (part rows : List Row) (key : Row) → IsPart part rows → In key (group_keys keys part) → In key (group_keys keys rows)
keys_of_part [] part rows key h i = i
keys_of_part (k ∷ ks) part rows key h i =
    let row = row_of_key k ks part key i in
    rw row.2 (in_keys (k ∷ ks) row.0 rows (in_part row.0 part rows h row.1))

-- the members of a key are the rows that have it
pub in_members : (keys : List ℕ) (rows : List Row) (row key : Row) → In row rows → projected keys row ≡ key → In row (members keys rows key)
in_members keys rows row key i e = filter_in (λ r. same_cells (projected keys r) key) row rows ((same_cells_decides (projected keys row) key).1 e) i

pub from_members : (keys : List ℕ) (rows : List Row) (row key : Row) → In row (members keys rows key) → In row rows × (projected keys row ≡ key)
from_members keys rows row key i =
    let h = in_filter (λ r. same_cells (projected keys r) key) row rows i in
    (h.0, (same_cells_decides (projected keys row) key).0 h.1)

-- the members in a part of the rows are a part of the members
pub members_part : (keys : List ℕ) (part rows : List Row) (key : Row) → IsPart part rows → IsPart (members keys part key) (members keys rows key)
members_part keys part rows key h = kept_part (λ r. same_cells (projected keys r) key) part rows h

-- what is made of a value that is there is made of some value
mapped_some : {X Y : Type 0} (f : X → Y) (o : Option X) (y : Y) → option_map f o ≡ Some y → (x : X) × (o ≡ Some x) × (y ≡ f x)
mapped_some f None y e = absurd (none-some y e)
mapped_some f (Some x) y e = (x, refl, sym (same_Some (f x) y e))

-- where each element is there, they are as many
pub all_some_length : {X : Type 0} (os : List (Option X)) (xs : List X) → all_some os ≡ Some xs → length xs ≡ length os
all_some_length [] xs e = ap length (sym (same_Some [] xs e))
all_some_length (None ∷ os) xs e = absurd (none-some xs e)
all_some_length (Some x ∷ os) xs e =
    let h = mapped_some (λ ys. x ∷ ys) (all_some os) xs e in
    ap length h.2 ∙ ap suc (all_some_length os h.0 h.1)

-- and each stands at its place
pub all_some_at : {X : Type 0} (os : List (Option X)) (xs : List X) → all_some os ≡ Some xs → (i : ℕ) (x : X) → slice_get xs i ≡ Some x → slice_get os i ≡ Some (Some x)
all_some_at [] xs e i x at = absurd (in_at [] i x (rw (sym (same_Some [] xs e)) at at))
all_some_at (None ∷ os) xs e i x at = absurd (none-some xs e)
all_some_at (Some y ∷ os) xs e zero x at = let h = mapped_some (λ ys. y ∷ ys) (all_some os) xs e in ap Some (rw h.2 at at)
all_some_at (Some y ∷ os) xs e (suc i) x at = let h = mapped_some (λ ys. y ∷ ys) (all_some os) xs e in all_some_at os h.0 h.1 i x (rw h.2 at at)

-- a group's row is its key and what the aggregate gives
pub group_row_is : (keys : List ℕ) (agg : Agg) (rows : List Row) (key row : Row) → group_row keys agg rows key ≡ Some row → IsGroupRow agg key (members keys rows key) row
group_row_is keys agg rows key row e = mapped_some (λ value. key ++ value ∷ []) (aggregate agg (members keys rows key)) row e

-- each key has a row
pub grouped_length : (keys : List ℕ) (agg : Agg) (rows out : List Row) → grouped keys agg rows ≡ Some out → length out ≡ length (group_keys keys rows)
grouped_length keys agg rows out e = all_some_length (map (group_row keys agg rows) (group_keys keys rows)) out e ∙ length-map (group_keys keys rows) (group_row keys agg rows)

-- a key's row stands at the key's place
pub grouped_at : (keys : List ℕ) (agg : Agg) (rows out : List Row) → grouped keys agg rows ≡ Some out
    → (i : ℕ) (key row : Row) → slice_get (group_keys keys rows) i ≡ Some key → slice_get out i ≡ Some row → group_row keys agg rows key ≡ Some row
grouped_at keys agg rows out e i key row here there =
    let make = group_row keys agg rows in
    let got = all_some_at (map make (group_keys keys rows)) out e i row there in
    let mapped = slice_get-map make (group_keys keys rows) i ∙ ap (option_map make) here in
    same_Some (make key) (Some row) (sym mapped ∙ got)

-- each row of the groups is that of a key
pub grouped_in : (keys : List ℕ) (agg : Agg) (rows out : List Row) → grouped keys agg rows ≡ Some out
    → (row : Row) → In row out → (key : Row) × In key (group_keys keys rows) × (Some row ≡ group_row keys agg rows key)
grouped_in keys agg rows out e row i =
    let make = group_row keys agg rows in
    let place = at_in row out i in
    let got = all_some_at (map make (group_keys keys rows)) out e place.0 row place.1 in
    in_map make (Some row) (group_keys keys rows) (in_at (map make (group_keys keys rows)) place.0 (Some row) got)

-- Where the groups of some rows have in the columns of a map all values of an output and no others, what is told of the rows opens them.
use Rattle.std.proofs.Common.{◌≡◌, refl, sym, ap, ◌∙◌, ℕ, suc, ◌+◌, Bool, true, inl, inr, List, [], ◌∷◌, length, get_or, Option, Some, None, arith}
use Rattle.std.specs.Prelude.{slice_get, map, if◌then◌else◌}
use Rattle.std.specs.List.{list_any}
use Rattle.std.proofs.lemmas.Bool.{and_parts}
use Rattle.std.proofs.lemmas.Option.{slice_get-get_or, slice_get_within}
use Rattle.value_core.specs.Value.{same}
use Rattle.value_core.specs.declared.value.ColType.{ColType}
use Rattle.value_core.specs.declared.value.Value.{Value}
use Rattle.value_core.specs.declared.value.Value.TheVariants.{Null}
use Rattle.predicate_core.specs.Truth.{value_at}
use Rattle.predicate_core.proofs.OnceLists.{In, in_map, in_at, at_in}
use Rattle.table_core.specs.Rows.{Row, TableData, types_of}
use Rattle.query_core.specs.Firsts.{projected}
use Rattle.query_core.specs.Grammar.{places_of, maps}
use Rattle.query_core.specs.Groups.{group_keys, grouped}
use Rattle.query_core.specs.declared.agg.Agg.{Agg}
use Rattle.query_laws.proofs.AscendingLists.{all_of, of_all}
use Rattle.query_laws.proofs.GroupLaws.{in_keys, group_row_is, grouped_length, grouped_at}
use Rattle.query_laws.proofs.MemberLaws.{in_flat_map}
use Rattle.map_walk.specs.Open.{serves}
use Rattle.map_walk.specs.Readings.{row_has}
use Rattle.map_walk.specs.Supply.{supply_at, is_full, group_supplies, all_full, opens}
use Rattle.map_walk.specs.Wholes.{has_some, has_no_others, is_whole, whole_supply, wholes_by}
use Rattle.map_walk.specs.declared.supply.Supply.{Supply}
use Rattle.map_walk.specs.declared.supply.Supply.TheVariants.{Short, Full}
use Rattle.map_walk.proofs.OpenLaws.{any_in, any_follow, both_true}
use Rattle.map_walk.proofs.SupplyLaws.{told_at, key_supply, rest_supply, AreFrom, cells_have, serves_from, key_front, grouped_from}

-- ---- columns told to be full

-- what opens the columns of some output types, numbered from `place`: a map each of whose columns is told to be full
pub full_opens : (types : List ColType) (supplies : List (List Supply)) (wanted : List ColType) (place : ℕ) (picks : List ℕ) → In picks (maps types wanted)
    → ((i at : ℕ) → slice_get picks i ≡ Some at → supply_at supplies at (place + i) ≡ Full) → all_full types supplies place wanted ≡ true
full_opens types supplies [] place picks i full = refl
full_opens types supplies (t ∷ ts) place picks i full =
    let h = in_flat_map (λ at. map (λ rest. at ∷ rest) (maps types ts)) picks (places_of t 0 types) i in
    let g = in_map (λ rest. h.0 ∷ rest) picks (maps types ts) h.2 in
    let here : supply_at supplies h.0 place ≡ Full = ap (supply_at supplies h.0) (omega arith) ∙ full 0 h.0 (ap (λ p. slice_get p 0) g.2) in
    both_true (list_any (λ at. is_full (supply_at supplies at place)) (places_of t 0 types)) (all_full types supplies (place + 1) ts)
    (any_in (λ at. is_full (supply_at supplies at place)) h.0 (places_of t 0 types) h.1 (ap is_full here))
    (full_opens types supplies ts (place + 1) g.0 g.1 (λ j at is. ap (supply_at supplies at) (omega arith) ∙ full (suc j) at (ap (λ p. slice_get p (suc j)) g.2 ∙ is)))

-- a whole column is told to be full
whole_full : {X : Type 0} (has : X → ℕ → Value → Bool) (width : ℕ) (candidates : List X) (table : TableData) (at place : ℕ) → is_whole has candidates table.rows place at ≡ true
    → supply_at (wholes_by has width candidates table) at place ≡ Full
whole_full has width candidates table at place whole =
    elim (told_at (whole_supply has candidates table.rows) (length table.columns) width at place) [
      | inl full ↦ full
      | inr is ↦ is ∙ ap (λ (b : Bool). if b then Full else Short) whole
    ]

-- ---- candidates that are lists of cells

module _ {A : Type 0} (cell_has : A → Value → Bool) (null : A) (output : List Row) where
  -- a column has no others where each of its cells is one of a column that has none
  no_others_from : (xs ys : List (List A)) (at at' place : ℕ) → AreFrom cell_has null ys at' xs at → has_no_others (cells_have cell_has null) xs output place at ≡ true
      → has_no_others (cells_have cell_has null) ys output place at' ≡ true
  no_others_from xs ys at at' place from none =
      all_of (has_some (cells_have cell_has null) output place at') ys
      (λ y i.
      let h = from y i in
      any_follow (λ row. cells_have cell_has null h.0 at (value_at row place)) (λ row. cells_have cell_has null y at' (value_at row place)) output
      (λ row e. ap (λ c. cell_has c (value_at row place)) h.2 ∙ e) (of_all (has_some (cells_have cell_has null) output place at) h.0 xs none h.1))

  -- columns of the same cells are both whole
  whole_from : (xs ys : List (List A)) (at at' place : ℕ) → AreFrom cell_has null xs at ys at' → AreFrom cell_has null ys at' xs at → is_whole (cells_have cell_has null) xs output place at ≡ true
      → is_whole (cells_have cell_has null) ys output place at' ≡ true
  whole_from xs ys at at' place from back whole =
      let h = and_parts (serves (cells_have cell_has null) xs output place at) (has_no_others (cells_have cell_has null) xs output place at) whole in
      both_true (serves (cells_have cell_has null) ys output place at') (has_no_others (cells_have cell_has null) ys output place at')
      (serves_from cell_has null output xs ys at at' place from h.0) (no_others_from xs ys at at' place back h.1)

-- ---- groups

-- the key values of a row are those of its group's row
from_grouped : (keys : List ℕ) (agg : Agg) (given out : List Row) → grouped keys agg given ≡ Some out → (at key : ℕ) → slice_get keys at ≡ Some key → AreFrom same Null given key out at
from_grouped keys agg given out e at key is row i =
    let its = projected keys row in
    let place = at_in its (group_keys keys given) (in_keys keys row given i) in
    let within = slice_get_within (group_keys keys given) place.0 its place.1 in
    let there = slice_get-get_or out place.0 [] (omega (arith, within, grouped_length keys agg given out e)) in
    let group = get_or out place.0 [] in
    let made = group_row_is keys agg given its group (grouped_at keys agg given out e place.0 its group place.1 there) in
    (group, in_at out place.0 group there, sym (ap (λ r. value_at r at) made.2 ∙ key_front (value_at row) Null keys (made.0 ∷ []) at key is))

-- whole columns of the groups of some rows are told to be full by the rows
module _ (keys : List ℕ) (agg : Agg) (width : ℕ) (rows groups : List Row) (table : TableData) (made : grouped keys agg rows ≡ Some groups) where
  group_full : (at place : ℕ) → is_whole row_has groups table.rows place at ≡ true → supply_at (group_supplies keys (wholes_by row_has width rows table)) at place ≡ Full
  group_full at place whole = by (slice_get keys at) refl
    where
      by : (o : Option ℕ) → slice_get keys at ≡ o → supply_at (group_supplies keys (wholes_by row_has width rows table)) at place ≡ Full
      by None none = rest_supply keys (wholes_by row_has width rows table) at place none
      by (Some key) is =
          key_supply keys (wholes_by row_has width rows table) at place key is
          ∙ whole_full row_has width rows table key place (whole_from same Null table.rows groups rows at key place (grouped_from keys agg rows groups made at key is) (from_grouped keys agg rows groups made at key is) whole)

  -- where each column of a map is whole over the groups, the rows open them
  pub wholes_open : (types : List ColType) (picks : List ℕ) → In picks (maps types (types_of table)) → ((place at : ℕ) → slice_get picks place ≡ Some at → is_whole row_has groups table.rows place at ≡ true)
      → opens types (group_supplies keys (wholes_by row_has width rows table)) (types_of table) ≡ true
  wholes_open types picks i whole =
      let told = group_supplies keys (wholes_by row_has width rows table) in
      full_opens types told (types_of table) 0 picks i (λ place at is. ap (supply_at told at) (omega arith) ∙ group_full at place (whole place at is))

-- The steps of a tree keep rows covered: filters, pairs, unions.
use Rattle.std.proofs.Common.{◌≡◌, refl, subst, ℕ, zero, suc, Bool, true, not, List, [], ◌∷◌, ◌++◌, map, replicate}
use Rattle.std.specs.Prelude.{filter, flat_map}
use Rattle.std.proofs.lemmas.Bool.{and_parts, and_from, false≢true}
use Rattle.value_core.proofs.ValueLaws.{same_decides}
use Rattle.value_core.specs.Value.{same}
use Rattle.value_core.specs.declared.value.Value.{Value}
use Rattle.value_core.specs.declared.value.Value.TheVariants.{Null}
use Rattle.predicate_core.specs.Truth.{value_at, keeps}
use Rattle.predicate_core.specs.declared.pred.Pred.{Pred}
use Rattle.table_core.specs.Rows.{Row}
use Rattle.table_core.specs.Bag.{same_cells}
use Rattle.query_core.specs.Firsts.{projected, firsts, united}
use Rattle.query_core.specs.Joins.{pairs_with, kept_pairs, or_padded, left_joined, paired}
use Rattle.query_core.specs.declared.kinds.Pairing.{Pairing}
use Rattle.query_core.specs.declared.kinds.Pairing.TheVariants.{Join, Left}
use Rattle.query_core.specs.declared.kinds.Uniting.{Uniting}
use Rattle.query_core.specs.declared.kinds.Uniting.TheVariants.{All, Firsts}
use Rattle.over_cells.specs.Cells.{covers}
use Rattle.over_cells.specs.declared.cell.AbsCell.TheVariants.{Known}
use Rattle.over_eval.specs.Over.{AbsRow, exact_row, cell_at, cells_at, pairs_over, padded_over, over_pair}
use Rattle.over_eval.specs.Live.{covers_row}
use Rattle.over_eval.specs.Placed.{here}
use Rattle.over_eval.specs.Laws.{IsCovered, AreCovered}
use Rattle.over_eval.proofs.PlacedLaws.{PartOf, takes_middle, part_whole, part_part, part_places, places_part, part_filtered, part_last, placed_onto, placed_map, placed_front, placed_append, placed_flat_map}

-- a row that is known is covered
pub covered_exact : (row : Row) → IsCovered row (exact_row row)
covered_exact [] = refl
covered_exact (v ∷ vs) = and_from (same v v) (covers_row (exact_row vs) vs) ((same_decides v v).1 refl) (covered_exact vs)

pub exact_covered : (rows : List Row) → AreCovered rows (map exact_row rows)
exact_covered rows =
    placed_onto (λ (x y : Row). x ≡ y) IsCovered exact_row (λ x y e. subst (λ (z : Row). IsCovered x (exact_row z)) e (covered_exact x)) rows rows (part_whole rows)

-- rows joined to rows
pub covered_append : (cells : AbsRow) (row : Row) (others : AbsRow) (other : Row) → IsCovered row cells → IsCovered other others → IsCovered (row ++ other) (cells ++ others)
covered_append [] [] others other h k = k
covered_append [] (v ∷ vs) others other h k = absurd (false≢true h)
covered_append (c ∷ cs) [] others other h k = absurd (false≢true h)
covered_append (c ∷ cs) (v ∷ vs) others other h k =
    let both = and_parts (covers c v) (covers_row cs vs) h in
    and_from (covers c v) (covers_row (cs ++ others) (vs ++ other)) both.0 (covered_append cs vs others other both.1 k)

-- the cell of a column covers the value of the column
pub covered_cell : (cells : AbsRow) (row : Row) (at : ℕ) → IsCovered row cells → covers (cell_at cells at) (value_at row at) ≡ true
covered_cell [] [] at h = refl
covered_cell [] (v ∷ vs) at h = absurd (false≢true h)
covered_cell (c ∷ cs) [] at h = absurd (false≢true h)
covered_cell (c ∷ cs) (v ∷ vs) zero h = (and_parts (covers c v) (covers_row cs vs) h).0
covered_cell (c ∷ cs) (v ∷ vs) (suc at) h = covered_cell cs vs at (and_parts (covers c v) (covers_row cs vs) h).1

-- the cells of some columns cover their values
pub covered_picks : (picks : List ℕ) (cells : AbsRow) (row : Row) → IsCovered row cells → IsCovered (projected picks row) (cells_at picks cells)
covered_picks [] cells row h = refl
covered_picks (k ∷ ks) cells row h =
    and_from (covers (cell_at cells k) (value_at row k)) (covers_row (cells_at ks cells) (projected ks row)) (covered_cell cells row k h) (covered_picks ks cells row h)

-- so many NULLs
covered_nulls : (width : ℕ) → IsCovered (replicate width Null) (replicate width (Known Null))
covered_nulls zero = refl
covered_nulls (suc width) = covered_nulls width

-- the pairs of a left row that a predicate keeps
covered_pairs : (constants : List Value) (p : Pred) (rights : List Row) (overs : List AbsRow) (row : Row) (cells : AbsRow) → IsCovered row cells → AreCovered rights overs
    → AreCovered (kept_pairs constants p rights row) (pairs_over overs cells)
covered_pairs constants p rights overs row cells h k =
    part_places IsCovered (kept_pairs constants p rights row) (pairs_with rights row) (pairs_over overs cells) (part_filtered (keeps constants p) (pairs_with rights row))
    (placed_map IsCovered IsCovered (λ r. row ++ r) (λ r. cells ++ r) (λ r c e. covered_append cells row c r h e) rights overs k)

-- a left row's pairs, or itself padded
covered_padded : (width : ℕ) (row : Row) (cells : AbsRow) (pairs : List Row) (overs : List AbsRow) → IsCovered row cells → AreCovered pairs overs
    → AreCovered (or_padded width row pairs) (overs ++ padded_over width cells ∷ [])
covered_padded width row cells [] overs h k =
    (padded_over width cells, overs ++ [], takes_middle (padded_over width cells) overs [], covered_append cells row (replicate width (Known Null)) (replicate width Null) h (covered_nulls width), tt)
covered_padded width row cells (pair ∷ pairs) overs h k = placed_front IsCovered (pair ∷ pairs) overs (padded_over width cells ∷ []) k

-- the rows of a pair of parts
pub covered_paired : (kind : Pairing) (constants : List Value) (p : Pred) (width : ℕ) (lefts rights : List Row) (overl overr : List AbsRow) → AreCovered lefts overl → AreCovered rights overr
    → AreCovered (paired kind constants p width lefts rights) (over_pair kind width overl overr)
covered_paired Join constants p width lefts rights overl overr h k =
    placed_flat_map IsCovered IsCovered (kept_pairs constants p rights) (pairs_over overr) (λ row cells e. covered_pairs constants p rights overr row cells e k) lefts overl h
covered_paired Left constants p width lefts rights overl overr h k =
    let each : AbsRow → List AbsRow = λ cells. pairs_over overr cells ++ padded_over width cells ∷ [] in
    places_part IsCovered (left_joined constants p width lefts rights) (flat_map each overl) (over_pair Left width overl overr)
    (placed_flat_map IsCovered IsCovered (λ row. or_padded width row (kept_pairs constants p rights row)) each
    (λ row cells e. covered_padded width row cells (kept_pairs constants p rights row) (pairs_over overr cells) e (covered_pairs constants p rights overr row cells e k)) lefts overl h)
    (part_last (pairs_over overr) (padded_over width) overl)

-- first copies are a part of the rows
pub firsts_placed : (rows : List Row) → PartOf (firsts rows) rows
firsts_placed [] = tt
firsts_placed (row ∷ rows) =
    let other : Row → Bool = λ r. not (same_cells r row) in
    (row, rows, here, refl, part_part (filter other (firsts rows)) (firsts rows) rows (part_filtered other (firsts rows)) (firsts_placed rows))

-- the rows of two parts together
pub covered_united : (kind : Uniting) (lefts rights : List Row) (overl overr : List AbsRow) → AreCovered lefts overl → AreCovered rights overr → AreCovered (united kind lefts rights) (overl ++ overr)
covered_united All lefts rights overl overr h k = placed_append IsCovered lefts rights overl overr h k
covered_united Firsts lefts rights overl overr h k =
    part_places IsCovered (firsts (lefts ++ rights)) (lefts ++ rights) (overl ++ overr) (firsts_placed (lefts ++ rights)) (placed_append IsCovered lefts rights overl overr h k)

-- Pairs of rows, and the joins of two lists of rows.
use Rattle.std.specs.Prelude.{ℕ, List, [], ◌∷◌, ◌++◌, map, flat_map, replicate}
use Rattle.std.specs.Prelude.{filter as list_filter}
use Rattle.value_core.specs.declared.value.Value.{Value}
use Rattle.value_core.specs.declared.value.Value.TheVariants.{Null}
use Rattle.predicate_core.specs.Truth.{keeps}
use Rattle.predicate_core.specs.declared.pred.Pred.{Pred}
use Rattle.table_core.specs.Rows.{Row}
use Rattle.query_core.specs.declared.kinds.Pairing.{Pairing}
use Rattle.query_core.specs.declared.kinds.Pairing.TheVariants.{Join, Left}

-- a left row with each right row
abbrev pub pairs_with : List Row → Row → List Row
pairs_with rights l = map (λ r. l ++ r) rights

-- each left row with each right row, the first left row's pairs first
abbrev pub crossed : List Row → List Row → List Row
crossed lefts rights = flat_map (pairs_with rights) lefts

-- the pairs of a left row, and behind them the row padded with so many NULLs
abbrev pub pairs_and_padded : ℕ → List Row → Row → List Row
pairs_and_padded width rights l = pairs_with rights l ++ (l ++ replicate width Null) ∷ []

-- those of each left row: what a left join chooses from, where the right rows have so many columns
abbrev pub crossed_and_padded : ℕ → List Row → List Row → List Row
crossed_and_padded width lefts rights = flat_map (pairs_and_padded width rights) lefts

-- the pairs of a left row that the predicate keeps
abbrev pub kept_pairs : List Value → Pred → List Row → Row → List Row
kept_pairs constants p rights l = list_filter (keeps constants p) (pairs_with rights l)

-- the pairs that the predicate keeps
abbrev pub joined : List Value → Pred → List Row → List Row → List Row
joined constants p lefts rights = flat_map (kept_pairs constants p rights) lefts

-- a left row's pairs, or, where it has none, itself padded with so many NULLs
abbrev pub or_padded : ℕ → Row → List Row → List Row
or_padded width l [] = (l ++ replicate width Null) ∷ []
or_padded width l (pair ∷ pairs) = pair ∷ pairs

-- each left row's kept pairs, or itself padded; the right rows have so many columns
abbrev pub left_joined : List Value → Pred → ℕ → List Row → List Row → List Row
left_joined constants p width lefts rights = flat_map (λ l. or_padded width l (kept_pairs constants p rights l)) lefts

-- the rows of a pair of parts; the right rows have so many columns
abbrev pub paired : Pairing → List Value → Pred → ℕ → List Row → List Row → List Row
paired Join constants p width lefts rights = joined constants p lefts rights
paired Left constants p width lefts rights = left_joined constants p width lefts rights

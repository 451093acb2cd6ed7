-- The readings of candidate rows are those that a walk over maps finds, and each has its targets.
use Rattle.std.proofs.Common.{◌≡◌, refl, sym, ap, ◌∙◌, ℕ, Bool, false, ◌&&◌, List, [], ◌∷◌, length, map}
use Rattle.std.specs.Prelude.{filter, All}
use Rattle.std.proofs.lemmas.List.{length-map}
use Rattle.std.proofs.lemmas.List.Elements.{All-nil, All-cons}
use Rattle.value_core.specs.Value.{same}
use Rattle.value_core.specs.declared.value.ColType.{ColType}
use Rattle.predicate_core.specs.Truth.{value_at}
use Rattle.table_core.specs.Rows.{Row, TableData, types_of}
use Rattle.table_core.specs.Bag.{same_cells, count}
use Rattle.query_core.specs.Firsts.{projected, firsts}
use Rattle.query_core.specs.Grammar.{maps}
use Rattle.map_walk.specs.Open.{is_open_by}
use Rattle.map_walk.specs.Readings.{row_has, has_all, targets_by, readings_by}
use Rattle.map_walk.specs.Targets.{are_enough}
use Rattle.map_walk.specs.declared.target.Reading.{Reading}
use Rattle.map_walk.specs.declared.target.Target.{Target}
use Rattle.map_walk.proofs.OpenLaws.{closed}
use Rattle.root_search.specs.Laws.{ReadingsFit}
use Rattle.root_search.specs.Readings.{reading_of, readings}
use Rattle.root_search.specs.Targets.{target_of, targets}

-- a row projects to another exactly where it has all of its values
projects_where_has : (c : Row) (picks : List ℕ) (row : Row) → same_cells (projected picks c) row ≡ has_all row_has c picks row
projects_where_has c [] [] = refl
projects_where_has c [] (v ∷ row) = refl
projects_where_has c (at ∷ picks) [] = refl
projects_where_has c (at ∷ picks) (v ∷ row) = ap (λ b. same (value_at c at) v && b) (projects_where_has c picks row)

targets_walked : (picks : List ℕ) (candidates output : List Row) → targets picks candidates output ≡ targets_by row_has picks candidates output
targets_walked picks candidates output =
    ap (λ f. map f (firsts output)) (λ i row. ap (λ m. let t : Target = record { mask = m; copies = count output row } in t) (ap (λ f. map f candidates) (λ j c. projects_where_has c picks row j)) i)

pub readings_walked : (types : List ColType) (candidates : List Row) (table : TableData) → readings types candidates table ≡ readings_by row_has types candidates table
readings_walked types candidates table =
    ap (λ (ts : List ℕ → List Target). map (λ picks. let r : Reading = record { picks = picks; targets = ts picks } in r) (filter (λ picks. are_enough (ts picks)) (maps types (types_of table))))
    (λ i picks. targets_walked picks candidates table.rows i)

-- where an output column has no body column with all of its values, there is no reading
pub none_read : (types : List ColType) (candidates : List Row) (table : TableData) → is_open_by row_has types candidates table ≡ false → readings types candidates table ≡ []
none_read types candidates table shut = readings_walked types candidates table ∙ closed row_has types candidates table shut

-- the masks of a map's targets have the candidates' length
masks_fit : (picks : List ℕ) (candidates output : List Row) (bits : List Bool) (rows : List Row) → length bits ≡ length candidates → All (λ t. length bits ≡ length t.mask) (map (target_of picks candidates output) rows)
masks_fit picks candidates output bits [] long = All-nil (λ t. length bits ≡ length t.mask)
masks_fit picks candidates output bits (row ∷ rows) long =
    All-cons (λ t. length bits ≡ length t.mask) (target_of picks candidates output row) (map (target_of picks candidates output) rows) (long ∙ sym (length-map candidates _)) (masks_fit picks candidates output bits rows long)

readings_of_fit : (candidates output : List Row) (bits : List Bool) (ms : List (List ℕ)) → length bits ≡ length candidates
    → All (λ r. (r.targets ≡ targets r.picks candidates output) × All (λ t. length bits ≡ length t.mask) r.targets) (map (reading_of candidates output) ms)
readings_of_fit candidates output bits [] long = All-nil (λ r. (r.targets ≡ targets r.picks candidates output) × All (λ t. length bits ≡ length t.mask) r.targets)
readings_of_fit candidates output bits (m ∷ ms) long =
    All-cons (λ r. (r.targets ≡ targets r.picks candidates output) × All (λ t. length bits ≡ length t.mask) r.targets) (reading_of candidates output m) (map (reading_of candidates output) ms)
    (refl, masks_fit m candidates output bits (firsts output) long) (readings_of_fit candidates output bits ms long)

pub readings_fit : (types : List ColType) (candidates : List Row) (table : TableData) (bits : List Bool) → ReadingsFit types candidates table bits
readings_fit types candidates table bits long = readings_of_fit candidates table.rows bits (filter (λ picks. are_enough (targets picks candidates table.rows)) (maps types (types_of table))) long

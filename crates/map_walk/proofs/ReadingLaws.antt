-- The walk over maps gives the readings: what one column more leaves of each target, and where it begins.
use Rattle.std.proofs.Common.{◌≡◌, refl, sym, ap, ap₂, subst, ◌∙◌, ℕ, suc, ◌+◌, Bool, true, false, ◌&&◌, ◌||◌, ◌==◌, List, [], ◌∷◌, ◌++◌, length, map, Some, None, replicate, if◌then◌else◌, arith}
use Rattle.std.specs.Prelude.{filter, All}
use Rattle.std.specs.List.{flat_map, list_any}
use Rattle.std.proofs.lemmas.Bool.Decides.{nat_tests}
use Rattle.std.proofs.lemmas.List.{append_assoc, append-nil, length-append, length-map, length-replicate, map-append, map-id}
use Rattle.std.proofs.lemmas.List.Elements.{All-nil, All-cons}
use Rattle.std.proofs.lemmas.Option.{none-some, same_Some}
use Rattle.std.proofs.lemmas.Simd.{zip2-map}
use Rattle.value_core.specs.declared.value.ColType.{ColType}
use Rattle.value_core.specs.declared.value.Value.{Value}
use Rattle.predicate_core.specs.Truth.{value_at}
use Rattle.table_core.specs.Rows.{Row, TableData, types_of}
use Rattle.table_core.specs.Bag.{count}
use Rattle.query_core.specs.Firsts.{firsts}
use Rattle.query_core.specs.Grammar.{places_of, maps}
use Rattle.query_core.proofs.MapLaws.{kept_joined, map_twice, flat_map_same, flat_map_of_map}
use Rattle.map_walk.specs.declared.offer.Offer.{Offer}
use Rattle.map_walk.specs.declared.reading.Begun.{Begun}
use Rattle.map_walk.specs.declared.target.Reading.{Reading}
use Rattle.map_walk.specs.declared.target.Target.{Target}
use Rattle.map_walk.specs.Narrow.{Fitting, narrow, narrowed, next}
use Rattle.map_walk.specs.Targets.{are_enough}
use Rattle.map_walk.specs.Readings.{has_all, targets_by, is_enough_by, reading_by, enough_by, readings_by, has_reading_by}
use Rattle.map_walk.specs.Walk.{first_target, first_targets, cell_mask, offer_of, offers, columns_of, start_by, Fits, walked, goes_on}
use Rattle.map_walk.proofs.WalkLaws.{some_of, few_walked, goes_on_where_walked}

and_assoc : (a b c : Bool) → ((a && b) && c) ≡ (a && (b && c))
and_assoc true b c = refl
and_assoc false b c = refl

and_turn : (a b c : Bool) → (a && (b && c)) ≡ (b && (a && c))
and_turn true b c = refl
and_turn false true c = refl
and_turn false false c = refl

and_true : (b : Bool) → (b && true) ≡ b
and_true true = refl
and_true false = refl

not_none : (n : ℕ) → (suc n == 0) ≡ false
not_none n = grind (arith, nat_tests)

none_not : (n : ℕ) → (0 == suc n) ≡ false
none_not n = grind (arith, nat_tests)

both_next : (m n : ℕ) → (suc m == suc n) ≡ (m == n)
both_next m n = grind (arith, nat_tests)

-- the readings whose maps begin so and go on for output columns of these types
abbrev pub readings_from : {X : Type 0} → (X → ℕ → Value → Bool) → List ColType → List X → List Row → List ℕ → List ColType → List Reading
readings_from has types candidates output picks left = enough_by has candidates output (map (λ rest. picks ++ rest) (maps types left))

module _ {X : Type 0} (has : X → ℕ → Value → Bool) where
  -- whether a candidate may have at the places of a map the values that a row has from a place on
  abbrev pub agrees : X → List ℕ → Row → ℕ → Bool
  agrees c [] row place = true
  agrees c (at ∷ picks) row place = has c at (value_at row place) && agrees c picks row (place + 1)

  -- a row of an output as a target of the first columns of a map of this width, and the rows of an output, each once
  abbrev pub begun_target : ℕ → List ℕ → List X → List Row → Row → Target
  begun_target width picks candidates output row = record { mask = map (λ c. (length row == width) && agrees c picks row 0) candidates; copies = count output row }

  abbrev pub begun_targets : ℕ → List ℕ → List X → List Row → List Target
  begun_targets width picks candidates output = map (begun_target width picks candidates output) (firsts output)

  -- ---- targets, one column more

  agrees_next : (c : X) (picks : List ℕ) (at : ℕ) (row : Row) (place last : ℕ) → place + length picks ≡ last
      → agrees c (picks ++ at ∷ []) row place ≡ (agrees c picks row place && has c at (value_at row last))
  agrees_next c [] at row place last is = let e : place ≡ last = omega (arith, is) in rw e (and_true _)
  agrees_next c (p ∷ picks) at row place last is =
      ap (λ b. has c p (value_at row place) && b) (agrees_next c picks at row (place + 1) last (omega (arith, is)))
      ∙ sym (and_assoc (has c p (value_at row place)) (agrees c picks row (place + 1)) (has c at (value_at row last)))

  narrow_next : (width : ℕ) (picks : List ℕ) (at : ℕ) (candidates : List X) (output : List Row) (row : Row)
      → narrow (begun_target width picks candidates output row) (cell_mask has candidates (length picks) at row) ≡ begun_target width (picks ++ at ∷ []) candidates output row
  narrow_next width picks at candidates output row =
      ap (λ m. let t : Target = record { mask = m; copies = count output row } in t)
      (zip2-map (λ x y. x && y) (λ c. (length row == width) && agrees c picks row 0) (λ c. has c at (value_at row (length picks))) candidates
      ∙ ap (λ f. map f candidates) (λ i c. one c i))
    where
      one : (c : X) → (((length row == width) && agrees c picks row 0) && has c at (value_at row (length picks))) ≡ ((length row == width) && agrees c (picks ++ at ∷ []) row 0)
      one c = and_assoc (length row == width) (agrees c picks row 0) _ ∙ ap (λ b. (length row == width) && b) (sym (agrees_next c picks at row 0 (length picks) (omega arith)))

  narrowed_next : (width : ℕ) (picks : List ℕ) (at : ℕ) (candidates : List X) (output : List Row)
      → narrowed (begun_targets width picks candidates output) (map (cell_mask has candidates (length picks) at) (firsts output)) ≡ begun_targets width (picks ++ at ∷ []) candidates output
  narrowed_next width picks at candidates output =
      zip2-map narrow (begun_target width picks candidates output) (cell_mask has candidates (length picks) at) (firsts output)
      ∙ ap (λ f. map f (firsts output)) (λ i row. narrow_next width picks at candidates output row i)

  -- the targets of all columns of a map are its targets
  agrees_shift : (c : X) (picks : List ℕ) (v : Value) (row : Row) (place : ℕ) → agrees c picks (v ∷ row) (suc place) ≡ agrees c picks row place
  agrees_shift c [] v row place = refl
  agrees_shift c (at ∷ picks) v row place =
      ap (λ b. has c at (value_at row place) && b) (ap (agrees c picks (v ∷ row)) (omega arith) ∙ agrees_shift c picks v row (place + 1))

  pub agrees_all : (c : X) (picks : List ℕ) (row : Row) → has_all has c picks row ≡ ((length row == length picks) && agrees c picks row 0)
  agrees_all c [] [] = refl
  agrees_all c [] (v ∷ row) = sym (ap (λ b. b && true) (not_none (length row)))
  agrees_all c (at ∷ picks) [] = sym (ap (λ b. b && agrees c (at ∷ picks) [] 0) (none_not (length picks)))
  agrees_all c (at ∷ picks) (v ∷ row) =
      ap (λ b. has c at v && b) (agrees_all c picks row ∙ ap (λ b. (length row == length picks) && b) (sym (agrees_shift c picks v row 0) ∙ ap (agrees c picks (v ∷ row)) (omega arith)))
      ∙ and_turn (has c at v) (length row == length picks) (agrees c picks (v ∷ row) (0 + 1))
      ∙ ap (λ b. b && agrees c (at ∷ picks) (v ∷ row) 0) (sym (both_next (length row) (length picks)))

  begun_all : (picks : List ℕ) (candidates : List X) (output : List Row) → begun_targets (length picks) picks candidates output ≡ targets_by has picks candidates output
  begun_all picks candidates output =
      ap (λ f. map f (firsts output)) (λ i row. ap (λ m. let t : Target = record { mask = m; copies = count output row } in t) (ap (λ f. map f candidates) (λ j c. sym (agrees_all c picks row) j)) i)

  -- those of none are the first targets
  begun_mask : (width : ℕ) (candidates : List X) (row : Row) → replicate (length candidates) (length row == width) ≡ map (λ c. (length row == width) && agrees c [] row 0) candidates
  begun_mask width [] row = refl
  begun_mask width (c ∷ candidates) row = ap₂ (λ b t. b ∷ t) (sym (and_true (length row == width))) (begun_mask width candidates row)

  begun_none : (width : ℕ) (candidates : List X) (output rows : List Row) → map (first_target width (length candidates) output) rows ≡ map (begun_target width [] candidates output) rows
  begun_none width candidates output rows =
      ap (λ f. map f rows) (λ i row. ap (λ m. let t : Target = record { mask = m; copies = count output row } in t) (begun_mask width candidates row) i)

  -- ---- the readings that begin with a map, one column more

  map_joined : {A B C : Type 0} (f : B → C) (g : A → List B) (xs : List A) → map f (flat_map g xs) ≡ flat_map (λ x. map f (g x)) xs
  map_joined f g [] = refl
  map_joined f g (x ∷ xs) = map-append f (g x) (flat_map g xs) ∙ ap (λ t. map f (g x) ++ t) (map_joined f g xs)

  longer : (picks : List ℕ) (at : ℕ) (ms : List (List ℕ)) → map (λ rest. picks ++ rest) (map (λ rest. at ∷ rest) ms) ≡ map (λ rest. (picks ++ at ∷ []) ++ rest) ms
  longer picks at ms = map_twice (λ rest. picks ++ rest) (λ rest. at ∷ rest) ms ∙ ap (λ f. map f ms) (λ i rest. sym (append_assoc picks (at ∷ []) rest) i)

  readings_next : (types : List ColType) (candidates : List X) (output : List Row) (picks : List ℕ) (t : ColType) (ts : List ColType)
      → readings_from has types candidates output picks (t ∷ ts) ≡ flat_map (λ at. readings_from has types candidates output (picks ++ at ∷ []) ts) (places_of t 0 types)
  readings_next types candidates output picks t ts =
      ap (enough_by has candidates output) (map_joined (λ rest. picks ++ rest) (λ at. map (λ rest. at ∷ rest) (maps types ts)) (places_of t 0 types) ∙ flat_map_same _ _ (places_of t 0 types) (λ at. longer picks at (maps types ts)))
      ∙ kept_joined (reading_by has candidates output) (is_enough_by has candidates output) (λ at. map (λ rest. (picks ++ at ∷ []) ++ rest) (maps types ts)) (places_of t 0 types)

  -- where a map is whole, it is the one reading, if it has enough candidates
  whole : (types : List ColType) (candidates : List X) (output : List Row) (picks : List ℕ) (width : ℕ) (r : Reading) → length picks ≡ width → r ≡ record { picks = picks; targets = begun_targets width picks candidates output }
      → walked r [] ≡ readings_from has types candidates output picks []
  whole types candidates output picks width r all is =
      ap (λ q. walked q []) (is ∙ ap (λ ts. let q : Reading = record { picks = picks; targets = ts } in q) (ap (λ w. begun_targets w picks candidates output) (sym all) ∙ begun_all picks candidates output))
      ∙ by_test (is_enough_by has candidates output picks) refl
      ∙ ap (λ p. enough_by has candidates output (p ∷ [])) (sym (append-nil picks))
    where
      by_test : (b : Bool) → is_enough_by has candidates output picks ≡ b → walked (reading_by has candidates output picks) [] ≡ enough_by has candidates output (picks ∷ [])
      by_test true e = rw e refl
      by_test false e = rw e refl

  -- the walk over the columns that are left
  pub walked_from : (types : List ColType) (candidates : List X) (output : List Row) (width : ℕ) (left : List ColType) (picks : List ℕ) (r : Reading) → length picks + length left ≡ width
      → r ≡ record { picks = picks; targets = begun_targets width picks candidates output }
      → walked r (columns_of has types candidates (firsts output) (length picks) left) ≡ readings_from has types candidates output picks left
  walked_from types candidates output width [] picks r all is = whole types candidates output picks width r (omega (arith, all)) is
  walked_from types candidates output width (t ∷ ts) picks r all is =
      flat_map_of_map (λ o. walked (next r o) (columns_of has types candidates (firsts output) (length picks + 1) ts)) (offer_of has candidates (firsts output) (length picks)) (places_of t 0 types)
      ∙ flat_map_same _ _ (places_of t 0 types) (λ at.
      ap (λ n. walked (next r (offer_of has candidates (firsts output) (length picks) at)) (columns_of has types candidates (firsts output) n ts)) (sym (length-append picks (at ∷ [])))
      ∙ walked_from types candidates output width ts (picks ++ at ∷ []) (next r (offer_of has candidates (firsts output) (length picks) at)) (omega (arith, length-append picks (at ∷ []), all))
      (ap (λ q. next q (offer_of has candidates (firsts output) (length picks) at)) is
      ∙ ap (λ xs. let q : Reading = record { picks = picks ++ at ∷ []; targets = xs } in q) (narrowed_next width picks at candidates output)))
      ∙ sym (readings_next types candidates output picks t ts)

  -- ---- where a walk begins

  -- masks of one list of candidates fit
  fitting_first : (width : ℕ) (candidates : List X) (output : List Row) (place at : ℕ) (rows : List Row) → Fitting (map (first_target width (length candidates) output) rows) (map (cell_mask has candidates place at) rows)
  fitting_first width candidates output place at [] = tt
  fitting_first width candidates output place at (row ∷ rows) =
      (length-replicate (length candidates) (length row == width) ∙ sym (length-map candidates _), fitting_first width candidates output place at rows)

  fitting_offers : (width : ℕ) (candidates : List X) (output rows : List Row) (place : ℕ) (places : List ℕ)
      → All (λ o. Fitting (map (first_target width (length candidates) output) rows) o.masks) (map (offer_of has candidates rows place) places)
  fitting_offers width candidates output rows place [] = All-nil (λ o. Fitting (map (first_target width (length candidates) output) rows) o.masks)
  fitting_offers width candidates output rows place (at ∷ places) =
      All-cons (λ o. Fitting (map (first_target width (length candidates) output) rows) o.masks) (offer_of has candidates rows place at) (map (offer_of has candidates rows place) places)
      (fitting_first width candidates output place at rows) (fitting_offers width candidates output rows place places)

  fits_first : (types : List ColType) (width : ℕ) (candidates : List X) (output rows : List Row) (place : ℕ) (wanted : List ColType)
      → Fits (map (first_target width (length candidates) output) rows) (columns_of has types candidates rows place wanted)
  fits_first types width candidates output rows place [] = All-nil (λ os. All (λ o. Fitting (map (first_target width (length candidates) output) rows) o.masks) os)
  fits_first types width candidates output rows place (t ∷ ts) =
      All-cons (λ os. All (λ o. Fitting (map (first_target width (length candidates) output) rows) o.masks) os) (offers has types candidates rows place t) (columns_of has types candidates rows (place + 1) ts)
      (fitting_offers width candidates output rows place (places_of t 0 types)) (fits_first types width candidates output rows (place + 1) ts)

  module _ (types : List ColType) (candidates : List X) (table : TableData) where
    -- the empty map, and the columns of the body
    abbrev pub first_reading : Reading
    first_reading = record { picks = []; targets = first_targets (length candidates) table }

    abbrev pub all_columns : List (List Offer)
    all_columns = columns_of has types candidates (firsts table.rows) 0 (types_of table)

    first_fits : Fits (first_targets (length candidates) table) all_columns
    first_fits = fits_first types (length (types_of table)) candidates table.rows (firsts table.rows) 0 (types_of table)

    -- a walk from the empty map gives the readings
    walked_all : walked first_reading all_columns ≡ readings_by has types candidates table
    walked_all =
        walked_from types candidates table.rows (length (types_of table)) (types_of table) [] first_reading (omega arith)
        (ap (λ ts. let q : Reading = record { picks = []; targets = ts } in q) (begun_none (length (types_of table)) candidates table.rows (firsts table.rows)))
        ∙ ap (enough_by has candidates table.rows) (map-id (maps types (types_of table)))

    some_kept : (p : List ℕ → Bool) (f : List ℕ → Reading) (ms : List (List ℕ)) → some_of (map f (filter p ms)) ≡ list_any p ms
    some_kept p f [] = refl
    some_kept p f (m ∷ ms) = by (p m) refl (some_kept p f ms)
      where
        by : (b : Bool) → p m ≡ b → some_of (map f (filter p ms)) ≡ list_any p ms → some_of (map f (filter p (m ∷ ms))) ≡ (p m || list_any p ms)
        by true is rest = rw is refl
        by false is rest = rw is rest

    pub has_where_some : some_of (readings_by has types candidates table) ≡ has_reading_by has types candidates table
    has_where_some = some_kept (is_enough_by has candidates table.rows) (reading_by has candidates table.rows) (maps types (types_of table))

    -- what a walk begins with
    start_cases : (b : Bool) → are_enough (first_targets (length candidates) table) ≡ b → start_by has types candidates table ≡ (if b then Some (let s : Begun = record { targets = first_targets (length candidates) table; columns = all_columns } in s) else None)
    start_cases b is = ap (λ c. if c then Some (let s : Begun = record { targets = first_targets (length candidates) table; columns = all_columns } in s) else None) is

    -- a start that there is has the first targets, all columns, and enough candidates
    pub started : (s : Begun) → start_by has types candidates table ≡ Some s → (s.targets ≡ first_targets (length candidates) table) × (s.columns ≡ all_columns) × (are_enough s.targets ≡ true) × Fits s.targets s.columns
    started s is = by (are_enough (first_targets (length candidates) table)) refl
      where
        Has : Begun → Type 0
        Has x = (x.targets ≡ first_targets (length candidates) table) × (x.columns ≡ all_columns) × (are_enough x.targets ≡ true) × Fits x.targets x.columns

        by : (b : Bool) → are_enough (first_targets (length candidates) table) ≡ b → Has s
        by true e = subst Has (same_Some _ s (sym (start_cases true e) ∙ is)) (refl, refl, e, first_fits)
        by false e = absurd (none-some s (sym (start_cases false e) ∙ is))

    -- where there is none, there is no reading
    pub not_started : start_by has types candidates table ≡ None → readings_by has types candidates table ≡ []
    not_started none = by (are_enough (first_targets (length candidates) table)) refl
      where
        by : (b : Bool) → are_enough (first_targets (length candidates) table) ≡ b → readings_by has types candidates table ≡ []
        by true e = absurd (none-some _ (sym none ∙ start_cases true e))
        by false e = sym walked_all ∙ few_walked first_reading all_columns first_fits e

    -- the readings, and whether there are some, from the start
    readings_started : (s : Begun) (r : Reading) → start_by has types candidates table ≡ Some s → r ≡ record { picks = []; targets = s.targets } → walked r s.columns ≡ readings_by has types candidates table
    readings_started s r is begun =
        let h = started s is in
        ap (λ q. walked q s.columns) (begun ∙ ap (λ ts. let q : Reading = record { picks = []; targets = ts } in q) h.0) ∙ ap (walked first_reading) h.1 ∙ walked_all

    has_started : (s : Begun) → start_by has types candidates table ≡ Some s → goes_on s.targets s.columns ≡ has_reading_by has types candidates table
    has_started s is =
        let h = started s is in
        ap (λ ts. goes_on ts s.columns) h.0 ∙ ap (goes_on (first_targets (length candidates) table)) h.1 ∙ goes_on_where_walked first_reading all_columns ∙ ap some_of walked_all ∙ has_where_some

    -- the same, of what the code has
    pub readings_end : (s : Begun) (out new : List Reading) (r : Reading) (columns : List (List Offer)) → start_by has types candidates table ≡ Some s → out ≡ [] → r ≡ record { picks = []; targets = s.targets } → columns ≡ s.columns → new ≡ out ++ walked r columns
        → new ≡ readings_by has types candidates table
    readings_end s out new r columns is none begun are gone =
        gone ∙ ap (λ xs. xs ++ walked r columns) none ∙ ap (walked r) are ∙ readings_started s r is begun

    pub has_end : (s : Begun) (targets : List Target) (columns : List (List Offer)) → start_by has types candidates table ≡ Some s → targets ≡ s.targets → columns ≡ s.columns → goes_on targets columns ≡ has_reading_by has types candidates table
    has_end s targets columns is are_t are_c = ap₂ goes_on are_t are_c ∙ has_started s is

    pub has_not_started : start_by has types candidates table ≡ None → has_reading_by has types candidates table ≡ false
    has_not_started none = sym has_where_some ∙ ap some_of (not_started none)

-- What is told of the columns of candidates: it is true where they are told it, a node's where its parts' is, and where it doesn't open them there is no reading.
use Rattle.std.proofs.Common.{◌≡◌, refl, sym, ap, ◌∙◌, ℕ, zero, suc, ◌+◌, ◌-◌, ◌<◌, ◌≤◌, Bool, true, false, ◌&&◌, ◌||◌, ◌⊎◌, inl, inr, List, [], ◌∷◌, ◌++◌, length, map, drop, get_or, replicate, Option, Some, None, arith}
use Rattle.std.specs.Prelude.{slice_get, unwrap_or, option_map, if◌then◌else◌}
use Rattle.std.specs.List.{list_all, list_any, range_with_len}
use Rattle.std.proofs.lemmas.Bool.{and_parts, cases_lt, or_cases, false≢true}
use Rattle.std.proofs.lemmas.List.FromFn.{length-range_with_len, length-map-range_with_len, get_or-range_with_len}
use Rattle.std.proofs.lemmas.Option.{none-some, same_Some, slice_get-map, slice_get-get_or, slice_get_past}
use Rattle.value_core.specs.Value.{is_null, same}
use Rattle.value_core.specs.declared.value.ColType.{ColType}
use Rattle.value_core.specs.declared.value.Value.{Value}
use Rattle.value_core.specs.declared.value.Value.TheVariants.{Null, Int, Text}
use Rattle.predicate_core.specs.Truth.{value_at}
use Rattle.predicate_core.proofs.NumberLaws.{get_front, get_back}
use Rattle.predicate_core.proofs.OnceLists.{In}
use Rattle.table_core.specs.Rows.{Row, TableData, types_of}
use Rattle.table_core.specs.declared.column.Column.{Column}
use Rattle.query_core.specs.Firsts.{projected}
use Rattle.query_core.specs.Grammar.{places_of}
use Rattle.query_core.specs.Groups.{grouped}
use Rattle.query_core.specs.declared.agg.Agg.{Agg}
use Rattle.query_core.specs.declared.kinds.Pairing.{Pairing}
use Rattle.query_core.specs.declared.kinds.Pairing.TheVariants.{Join, Left}
use Rattle.query_laws.proofs.GroupLaws.{row_of_key, group_row_is, grouped_in}
use Rattle.map_walk.specs.Open.{some_has, serves, some_serves, all_served, is_open_by}
use Rattle.map_walk.specs.Readings.{readings_by, has_reading_by}
use Rattle.map_walk.specs.Supply.{serves_but_null, supply_of, column_told, each_told, supplies_by, supply_at, loosened, is_full, pair_supplies, group_supplies, some_full, all_full, opens, Tells}
use Rattle.map_walk.specs.declared.supply.Supply.{Supply}
use Rattle.map_walk.specs.declared.supply.Supply.TheVariants.{Short, ButNull, Full}
use Rattle.map_walk.proofs.OpenLaws.{or_true, any_in, any_follow, both_true, types_next, closed, has_closed}

all_follow : {X : Type 0} (p q : X → Bool) (xs : List X) → ((x : X) → p x ≡ true → q x ≡ true) → list_all p xs ≡ true → list_all q xs ≡ true
all_follow p q [] step all = refl
all_follow p q (x ∷ xs) step all = let h = and_parts (p x) (list_all p xs) all in both_true (q x) (list_all q xs) (step x h.0) (all_follow p q xs step h.1)

-- what each element that passes a test gives, there is where some element passes
any_gives : {X : Type 0} (p : X → Bool) (b : Bool) (xs : List X) → ((x : X) → In x xs → p x ≡ true → b ≡ true) → list_any p xs ≡ true → b ≡ true
any_gives p b [] gives some = absurd (false≢true some)
any_gives p b (x ∷ xs) gives some =
    elim (or_cases (p x) (list_any p xs) some) [
      | inl now ↦ gives x (inl refl) now
      | inr later ↦ any_gives p b xs (λ y i. gives y (inr i)) later
    ]

-- ---- what is told opens what is open

module _ {X : Type 0} (has : X → ℕ → Value → Bool) (types : List ColType) (candidates : List X) (output : List Row) (supplies : List (List Supply)) (tells : Tells has candidates output supplies) where
  served_full : (wanted : List ColType) (place : ℕ) → all_served has types candidates output place wanted ≡ true → all_full types supplies place wanted ≡ true
  served_full [] place all = refl
  served_full (t ∷ ts) place all =
      let h = and_parts (some_serves has types candidates output place t) (all_served has types candidates output (place + 1) ts) all in
      both_true (list_any (λ at. is_full (supply_at supplies at place)) (places_of t 0 types)) (all_full types supplies (place + 1) ts)
      (any_follow (serves has candidates output place) (λ at. is_full (supply_at supplies at place)) (places_of t 0 types) (λ at e. ap is_full ((tells at place).0 e)) h.0)
      (served_full ts (place + 1) h.1)

module _ {X : Type 0} (has : X → ℕ → Value → Bool) (types : List ColType) (candidates : List X) (table : TableData) (supplies : List (List Supply)) (tells : Tells has candidates table.rows supplies) where
  -- what is told of candidates' columns opens them, where they are open
  pub told_open : is_open_by has types candidates table ≡ true → opens types supplies (types_of table) ≡ true
  told_open open_ = served_full has types candidates table.rows supplies tells (types_of table) 0 open_

  not_open : opens types supplies (types_of table) ≡ false → is_open_by has types candidates table ≡ false
  not_open shut = false_from (is_open_by has types candidates table) (opens types supplies (types_of table)) told_open shut
    where
      false_from : (b c : Bool) → (b ≡ true → c ≡ true) → c ≡ false → b ≡ false
      false_from true c step is = sym (step refl) ∙ is
      false_from false c step is = refl

  -- where it doesn't, there is no reading
  pub told_closed : opens types supplies (types_of table) ≡ false → readings_by has types candidates table ≡ []
  told_closed shut = closed has types candidates table (not_open shut)

  pub told_has_closed : opens types supplies (types_of table) ≡ false → has_reading_by has types candidates table ≡ false
  told_has_closed shut = has_closed has types candidates table (not_open shut)

-- the type of a column more
pub full_step : (types : List ColType) (supplies : List (List Supply)) (table : TableData) (columns : List Column) (place : ℕ) (column : Column) (b : Bool) → columns ≡ table.columns → place < length columns → column ≡ get_or columns place column
    → all_full types supplies place (drop place (types_of table)) ≡ opens types supplies (types_of table) → some_full types supplies place column.kind ≡ b
    → b && all_full types supplies (place + 1) (drop (place + 1) (types_of table)) ≡ opens types supplies (types_of table)
full_step types supplies table columns place column b are below is so_far some =
    ap (λ c. c && all_full types supplies (place + 1) (drop (place + 1) (types_of table))) (sym some) ∙ sym (ap (all_full types supplies place) (types_next table columns place column are below is)) ∙ so_far

-- ---- what is told by the candidates themselves is true

-- what is made of the number of a place, where there is one
made_there : {A : Type 0} (f : ℕ → A) (n i : ℕ) → i < n → slice_get (map f (range_with_len 0 n)) i ≡ Some (f i)
made_there f n i within =
    slice_get-map f (range_with_len 0 n) i ∙ ap (option_map f) (slice_get-get_or (range_with_len 0 n) i 0 (omega (arith, within, length-range_with_len 0 n)))
    ∙ ap (λ k. Some (f k)) (let there = get_or-range_with_len 0 n i 0 within in omega (arith, there))

made_past : {A : Type 0} (f : ℕ → A) (n i : ℕ) → n ≤ i → slice_get (map f (range_with_len 0 n)) i ≡ None
made_past f n i past = slice_get_past (map f (range_with_len 0 n)) i (omega (arith, past, length-map-range_with_len f 0 n))

module _ (tell : ℕ → ℕ → Supply) (wanted width : ℕ) where
  -- what is told of two columns, by place: of a body column that there is, and of one that there isn't
  pub told_there : (at place : ℕ) → at < width → place < wanted → supply_at (each_told tell wanted width) at place ≡ tell place at
  told_there at place within below =
      ap (λ o. unwrap_or (slice_get (unwrap_or o []) place) Full) (made_there (column_told tell wanted) width at within)
      ∙ ap (λ o. unwrap_or o Full) (made_there (λ p. tell p at) wanted place below)

  pub told_outside : (at place : ℕ) → width ≤ at → supply_at (each_told tell wanted width) at place ≡ Full
  told_outside at place past = ap (λ o. unwrap_or (slice_get (unwrap_or o []) place) Full) (made_past (column_told tell wanted) width at past)

  pub told_past : (at place : ℕ) → wanted ≤ place → supply_at (each_told tell wanted width) at place ≡ Full
  told_past at place past =
      elim (cases_lt at width) [
        | inl within ↦
            ap (λ o. unwrap_or (slice_get (unwrap_or o []) place) Full) (made_there (column_told tell wanted) width at within)
            ∙ ap (λ o. unwrap_or o Full) (made_past (λ p. tell p at) wanted place past)
        | inr outside ↦ told_outside at place outside
      ]

  pub told_at : (at place : ℕ) → (supply_at (each_told tell wanted width) at place ≡ Full) ⊎ (supply_at (each_told tell wanted width) at place ≡ tell place at)
  told_at at place =
      elim (cases_lt at width) [
        | inl within ↦ elim (cases_lt place wanted) [
          | inl below ↦ inr (told_there at place within below)
          | inr past ↦ inl (told_past at place past)
        ]
        | inr outside ↦ inl (told_outside at place outside)
      ]

  -- it is told of as many columns
  pub told_wide : length (each_told tell wanted width) ≡ width
  told_wide = length-map-range_with_len (column_told tell wanted) 0 width

module _ {X : Type 0} (has : X → ℕ → Value → Bool) (width : ℕ) (candidates : List X) (table : TableData) where
  loose_of : (at place : ℕ) (b : Bool) → serves_but_null has candidates table.rows place at ≡ true
      → loosened (if b then Full else (if serves_but_null has candidates table.rows place at then ButNull else Short)) ≡ Full
  loose_of at place true e = refl
  loose_of at place false e = ap (λ (c : Bool). loosened (if c then ButNull else Short)) e

  -- what is told of each of a number of columns is true
  pub supplies_tell : Tells has candidates table.rows (supplies_by has width candidates table)
  supplies_tell at place = (
    λ e. elim (told_at (supply_of has candidates table.rows) (length table.columns) width at place) [
      | inl full ↦ full
      | inr is ↦ is ∙ ap (λ (b : Bool). if b then Full else (if serves_but_null has candidates table.rows place at then ButNull else Short)) e
    ],
    λ e. elim (told_at (supply_of has candidates table.rows) (length table.columns) width at place) [
      | inl full ↦ ap loosened full
      | inr is ↦ ap loosened is ∙ loose_of at place (serves has candidates table.rows place at) e
    ],
  )

  -- it is told of as many columns
  pub supplies_wide : length (supplies_by has width candidates table) ≡ width
  supplies_wide = told_wide (supply_of has candidates table.rows) (length table.columns) width

-- ---- what is told of parts

-- by place: of two parts joined, of one that is loosened, and of chosen columns
supply_front : (left right : List (List Supply)) (at place : ℕ) → at < length left → supply_at (left ++ right) at place ≡ supply_at left at place
supply_front left right at place below = ap (λ o. unwrap_or (slice_get (unwrap_or o []) place) Full) (get_front left right at below)

supply_back : (left right : List (List Supply)) (k at place : ℕ) → at ≡ length left + k → supply_at (left ++ right) at place ≡ supply_at right k place
supply_back left right k at place is = ap (λ o. unwrap_or (slice_get (unwrap_or o []) place) Full) (get_back left right k at is)

loosened_column : (column : List Supply) (place : ℕ) → unwrap_or (slice_get (map loosened column) place) Full ≡ loosened (unwrap_or (slice_get column place) Full)
loosened_column [] place = refl
loosened_column (s ∷ column) zero = refl
loosened_column (s ∷ column) (suc place) = loosened_column column place

pub supply_loosened : (supplies : List (List Supply)) (at place : ℕ) → supply_at (map (map loosened) supplies) at place ≡ loosened (supply_at supplies at place)
supply_loosened [] at place = refl
supply_loosened (column ∷ supplies) zero place = loosened_column column place
supply_loosened (column ∷ supplies) (suc at) place = supply_loosened supplies at place

-- of a pair by place: of the left part, and of the right one
pub pair_front : (kind : Pairing) (left right : List (List Supply)) (at place : ℕ) → at < length left → supply_at (pair_supplies kind left right) at place ≡ supply_at left at place
pair_front Join left right at place below = supply_front left right at place below
pair_front Left left right at place below = supply_front left (map (map loosened) right) at place below

pub join_back : (left right : List (List Supply)) (k at place : ℕ) → at ≡ length left + k → supply_at (pair_supplies Join left right) at place ≡ supply_at right k place
join_back left right k at place is = supply_back left right k at place is

pub left_back : (left right : List (List Supply)) (k at place : ℕ) → at ≡ length left + k → supply_at (pair_supplies Left left right) at place ≡ loosened (supply_at right k place)
left_back left right k at place is = supply_back left (map (map loosened) right) k at place is ∙ supply_loosened right k place

-- of a group by place: of a key column, and of what is behind them
pub key_supply : (keys : List ℕ) (child : List (List Supply)) (at place key : ℕ) → slice_get keys at ≡ Some key → supply_at (group_supplies keys child) at place ≡ supply_at child key place
key_supply [] child at place key is = absurd (none-some key is)
key_supply (k ∷ keys) child zero place key is = ap (λ o. unwrap_or (slice_get (unwrap_or (slice_get child (unwrap_or o 0)) []) place) Full) is
key_supply (k ∷ keys) child (suc at) place key is = key_supply keys child at place key is

pub rest_supply : (keys : List ℕ) (child : List (List Supply)) (at place : ℕ) → slice_get keys at ≡ None → supply_at (group_supplies keys child) at place ≡ Full
rest_supply [] child zero place none = refl
rest_supply [] child (suc at) place none = refl
rest_supply (k ∷ keys) child zero place none = absurd (none-some k (sym none))
rest_supply (k ∷ keys) child (suc at) place none = rest_supply keys child at place none

-- ---- candidates that are lists of cells

module _ {A : Type 0} (cell_has : A → Value → Bool) (null : A) where
  -- the cell at a place, this one where there is none
  abbrev pub cell : List A → ℕ → A
  cell cells at = unwrap_or (slice_get cells at) null

  -- whether it may have a value
  abbrev pub cells_have : List A → ℕ → Value → Bool
  cells_have cells at v = cell_has (cell cells at) v

  -- each cell of a column is one of a column of others
  abbrev pub AreFrom : List (List A) → ℕ → List (List A) → ℕ → Type 0
  AreFrom xs at ys at' = (x : List A) → In x xs → (y : List A) × In y ys × (cell x at ≡ cell y at')

  -- each is one of these, or the one of no place
  abbrev pub AreFromOrNull : List (List A) → ℕ → List (List A) → ℕ → Type 0
  AreFromOrNull xs at ys at' = (x : List A) → In x xs → ((y : List A) × In y ys × (cell x at ≡ cell y at')) ⊎ (cell x at ≡ null)

  -- a row of a pair: a left row and a right one, or in a left join a left one padded
  abbrev pub IsPadded : Pairing → List (List A) → List A → Type 0
  IsPadded Join lefts row = ⊥
  IsPadded Left lefts row = (left : List A) × (width : ℕ) × In left lefts × (row ≡ left ++ replicate width null)

  abbrev pub IsPaired : Pairing → List (List A) → List (List A) → List A → Type 0
  IsPaired kind lefts rights row = ((left : List A) × (right : List A) × In left lefts × In right rights × (row ≡ left ++ right)) ⊎ IsPadded kind lefts row

  has_there : (x y : List A) (ys : List (List A)) (at at' : ℕ) (v : Value) → In y ys → cell x at ≡ cell y at' → cells_have x at v ≡ true → list_any (λ z. cells_have z at' v) ys ≡ true
  has_there x y ys at at' v i same_cell e = any_in (λ z. cells_have z at' v) y ys i (ap (λ c. cell_has c v) (sym same_cell) ∙ e)

  module _ (output : List Row) where
    pub serves_from : (xs ys : List (List A)) (at at' place : ℕ) → AreFrom xs at ys at' → serves cells_have xs output place at ≡ true → serves cells_have ys output place at' ≡ true
    serves_from xs ys at at' place from all =
        all_follow (λ row. some_has cells_have xs at row place) (λ row. some_has cells_have ys at' row place) output
        (λ row some. any_gives (λ x. cells_have x at (value_at row place)) (some_has cells_have ys at' row place) xs
        (λ x i e. let h = from x i in has_there x h.0 ys at at' (value_at row place) h.1 h.2 e) some) all

    but_null_from : ((v : Value) → cell_has null v ≡ true → is_null v ≡ true) → (xs ys : List (List A)) (at at' place : ℕ) → AreFromOrNull xs at ys at'
        → serves_but_null cells_have xs output place at ≡ true → serves_but_null cells_have ys output place at' ≡ true
    but_null_from nulls xs ys at at' place from all =
        all_follow (λ row. is_null (value_at row place) || some_has cells_have xs at row place) (λ row. is_null (value_at row place) || some_has cells_have ys at' row place) output
        (λ row some.
        elim (or_cases (is_null (value_at row place)) (some_has cells_have xs at row place) some) [
          | inl e ↦ ap (λ b. b || some_has cells_have ys at' row place) e
          | inr e ↦
              any_gives (λ x. cells_have x at (value_at row place)) (is_null (value_at row place) || some_has cells_have ys at' row place) xs
              (λ x i has.
              elim (from x i) [
                | inl h ↦ or_true (is_null (value_at row place)) (some_has cells_have ys at' row place) (has_there x h.0 ys at at' (value_at row place) h.1 h.2 has)
                | inr e_null ↦ ap (λ b. b || some_has cells_have ys at' row place) (nulls (value_at row place) (ap (λ c. cell_has c (value_at row place)) (sym e_null) ∙ has))
              ]) e
        ]) all

    -- what serves does so save for NULL
    serves_loose : (xs : List (List A)) (at place : ℕ) → serves cells_have xs output place at ≡ true → serves_but_null cells_have xs output place at ≡ true
    serves_loose xs at place all =
        all_follow (λ row. some_has cells_have xs at row place) (λ row. is_null (value_at row place) || some_has cells_have xs at row place) output
        (λ row some. or_true (is_null (value_at row place)) (some_has cells_have xs at row place) some) all

  -- what is told of rows is true of a part of them
  pub part_tells : ((v : Value) → cell_has null v ≡ true → is_null v ≡ true) → (xs ys : List (List A)) (output : List Row) (supplies : List (List Supply)) → ((x : List A) → In x xs → In x ys)
      → Tells cells_have ys output supplies → Tells cells_have xs output supplies
  part_tells nulls xs ys output supplies part tells at place = (
    λ e. (tells at place).0 (serves_from output xs ys at at place (λ x i. (x, part x i, refl)) e),
    λ e. (tells at place).1 (but_null_from output nulls xs ys at at place (λ x i. inl (x, part x i, refl)) e),
  )

  null_at : (width at : ℕ) → cell (replicate width null) at ≡ null
  null_at zero at = refl
  null_at (suc width) zero = refl
  null_at (suc width) (suc at) = null_at width at

  cell_front : (row left rest : List A) (at : ℕ) → row ≡ left ++ rest → at < length left → cell row at ≡ cell left at
  cell_front row left rest at is below = ap (λ r. cell r at) is ∙ ap (λ o. unwrap_or o null) (get_front left rest at below)

  cell_back : (row left rest : List A) (k at : ℕ) → row ≡ left ++ rest → at ≡ length left + k → cell row at ≡ cell rest k
  cell_back row left rest k at is place_is = ap (λ r. cell r at) is ∙ ap (λ o. unwrap_or o null) (get_back left rest k at place_is)

  module _ (lefts rights rows : List (List A)) (width : ℕ) (wide : (left : List A) → In left lefts → length left ≡ width) where
    pair_left : (kind : Pairing) → ((row : List A) → In row rows → IsPaired kind lefts rights row) → (at : ℕ) → at < width → AreFrom rows at lefts at
    pair_left kind paired at below row i = by kind (paired row i)
      where
        by : (k : Pairing) → IsPaired k lefts rights row → (y : List A) × In y lefts × (cell row at ≡ cell y at)
        by k (inl h) = let long = wide h.0 h.2 in (h.0, h.2, cell_front row h.0 h.1 at h.4 (omega (arith, below, long)))
        by Join (inr h) = absurd h
        by Left (inr h) = let long = wide h.0 h.2 in (h.0, h.2, cell_front row h.0 (replicate h.1 null) at h.3 (omega (arith, below, long)))

    join_right : ((row : List A) → In row rows → IsPaired Join lefts rights row) → (k at : ℕ) → at ≡ width + k → AreFrom rows at rights k
    join_right paired k at is row i =
        elim (paired row i) [
          | inl h ↦ (h.1, h.3, cell_back row h.0 h.1 k at h.4 (let long = wide h.0 h.2 in omega (arith, is, long)))
          | inr h ↦ absurd h
        ]

    left_right : ((row : List A) → In row rows → IsPaired Left lefts rights row) → (k at : ℕ) → at ≡ width + k → AreFromOrNull rows at rights k
    left_right paired k at is row i =
        elim (paired row i) [
          | inl h ↦ inl (h.1, h.3, cell_back row h.0 h.1 k at h.4 (let long = wide h.0 h.2 in omega (arith, is, long)))
          | inr h ↦ inr (cell_back row h.0 (replicate h.1 null) k at h.3 (let long = wide h.0 h.2 in omega (arith, is, long)) ∙ null_at h.1 k)
        ]

  -- what is told of the rows of two parts tells what a pair of them has
  pub pair_tells : ((v : Value) → cell_has null v ≡ true → is_null v ≡ true) → (kind : Pairing) (lefts rights rows : List (List A)) (output : List Row) (left right : List (List Supply))
      → ((l : List A) → In l lefts → length l ≡ length left) → ((row : List A) → In row rows → IsPaired kind lefts rights row)
      → Tells cells_have lefts output left → Tells cells_have rights output right → Tells cells_have rows output (pair_supplies kind left right)
  pair_tells nulls kind lefts rights rows output left right wide paired tells_left tells_right at place =
      elim (cases_lt at (length left)) [
        | inl below ↦
            let from = pair_left lefts rights rows (length left) wide kind paired at below in (
              λ e. pair_front kind left right at place below ∙ (tells_left at place).0 (serves_from output rows lefts at at place from e),
              λ e. ap loosened (pair_front kind left right at place below) ∙ (tells_left at place).1 (but_null_from output nulls rows lefts at at place (λ x i. inl (from x i)) e),
            )
        | inr past ↦ behind kind paired (at - length left) (omega (arith, past))
      ]
    where
      behind : (k : Pairing) → ((row : List A) → In row rows → IsPaired k lefts rights row) → (j : ℕ) → at ≡ length left + j
          → (serves cells_have rows output place at ≡ true → supply_at (pair_supplies k left right) at place ≡ Full)
          × (serves_but_null cells_have rows output place at ≡ true → loosened (supply_at (pair_supplies k left right) at place) ≡ Full)
      behind Join are j is =
          let from = join_right lefts rights rows (length left) wide are j at is in (
            λ e. join_back left right j at place is ∙ (tells_right j place).0 (serves_from output rows rights at j place from e),
            λ e. ap loosened (join_back left right j at place is) ∙ (tells_right j place).1 (but_null_from output nulls rows rights at j place (λ x i. inl (from x i)) e),
          )
      behind Left are j is =
          let from = left_right lefts rights rows (length left) wide are j at is in
          let loose : serves_but_null cells_have rows output place at ≡ true → supply_at (pair_supplies Left left right) at place ≡ Full = λ e. left_back left right j at place is ∙ (tells_right j place).1 (but_null_from output nulls rows rights at j place from e) in
          (λ e. loose (serves_loose output rows at place e), λ e. ap loosened (loose e))

  -- what is told of the rows of a part tells what a group of it has
  pub group_tells : ((v : Value) → cell_has null v ≡ true → is_null v ≡ true) → (keys : List ℕ) (below rows : List (List A)) (output : List Row) (child : List (List Supply))
      → ((at key : ℕ) → slice_get keys at ≡ Some key → AreFrom rows at below key) → Tells cells_have below output child → Tells cells_have rows output (group_supplies keys child)
  group_tells nulls keys below rows output child from tells at place = by (slice_get keys at) refl
    where
      by : (o : Option ℕ) → slice_get keys at ≡ o
          → (serves cells_have rows output place at ≡ true → supply_at (group_supplies keys child) at place ≡ Full)
          × (serves_but_null cells_have rows output place at ≡ true → loosened (supply_at (group_supplies keys child) at place) ≡ Full)
      by None none = (λ e. rest_supply keys child at place none, λ e. ap loosened (rest_supply keys child at place none))
      by (Some key) is = (
        λ e. key_supply keys child at place key is ∙ (tells key place).0 (serves_from output rows below at key place (from at key is) e),
        λ e. ap loosened (key_supply keys child at place key is) ∙ (tells key place).1 (but_null_from output nulls rows below at key place (λ x i. inl (from at key is x i)) e),
      )

-- a cell of a row that begins with what is made of some columns
pub key_front : {A : Type 0} (f : ℕ → A) (null : A) (keys : List ℕ) (rest : List A) (at key : ℕ) → slice_get keys at ≡ Some key → unwrap_or (slice_get (map f keys ++ rest) at) null ≡ f key
key_front f null [] rest at key is = absurd (none-some key is)
key_front f null (k ∷ keys) rest zero key is = ap f (same_Some k key is)
key_front f null (k ∷ keys) rest (suc at) key is = key_front f null keys rest at key is

-- ---- candidates that are rows

-- NULL is the same as nothing else
pub null_same : (v : Value) → same Null v ≡ true → is_null v ≡ true
null_same Null e = refl
null_same (Int n) e = absurd (false≢true e)
null_same (Text s) e = absurd (false≢true e)

-- the key values of a group's row are those of a row of its part
pub grouped_from : (keys : List ℕ) (agg : Agg) (given out : List Row) → grouped keys agg given ≡ Some out → (at key : ℕ) → slice_get keys at ≡ Some key → AreFrom same Null out at given key
grouped_from [] agg given out e at key is row i = absurd (none-some key is)
grouped_from (k ∷ ks) agg given out e at key is row i =
    let its = grouped_in (k ∷ ks) agg given out e row i in
    let made = group_row_is (k ∷ ks) agg given its.0 row (sym its.2) in
    let whose = row_of_key k ks given its.0 its.1 in
    let begins : row ≡ projected (k ∷ ks) whose.0 ++ made.0 ∷ [] = made.2 ∙ ap (λ front. front ++ made.0 ∷ []) whose.2 in
    (whose.0, whose.1, ap (λ r. value_at r at) begins ∙ key_front (value_at whose.0) Null (k ∷ ks) (made.0 ∷ []) at key is)

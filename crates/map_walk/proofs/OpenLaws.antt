-- Where some output column has no body column that may have all of its values, there is no reading.
use Rattle.std.proofs.Common.{◌≡◌, refl, sym, ap, ap₂, subst, ◌∙◌, ℕ, zero, suc, ◌+◌, ◌<◌, ◌≤◌, drop, get_or, Some, Bool, true, false, ◌&&◌, ◌||◌, ◌==◌, List, [], ◌∷◌, length, map, arith, inl, inr}
use Rattle.std.specs.Prelude.{filter, nat_le, slice_get, option_map}
use Rattle.std.specs.List.{list_all, list_any}
use Rattle.std.proofs.lemmas.Bool.{and_parts, both_ways, leb-true}
use Rattle.std.proofs.lemmas.Option.{none-some, same_Some, slice_get-map, slice_get-get_or}
use Rattle.std.proofs.lemmas.List.Folds.{list_all-map}
use Rattle.value_core.specs.declared.value.ColType.{ColType}
use Rattle.value_core.specs.declared.value.Value.{Value}
use Rattle.predicate_core.specs.Truth.{value_at}
use Rattle.predicate_core.proofs.OnceLists.{In, in_map}
use Rattle.table_core.specs.Rows.{Row, TableData, types_of}
use Rattle.table_core.specs.declared.column.Column.{Column}
use Rattle.table_core.specs.Bag.{count}
use Rattle.query_core.specs.Firsts.{firsts}
use Rattle.query_core.specs.Grammar.{places_of, maps}
use Rattle.query_laws.proofs.AscendingLists.{all_of, of_all}
use Rattle.query_laws.proofs.FirstCopyLaws.{in_firsts}
use Rattle.query_laws.proofs.MemberLaws.{in_flat_map}
use Rattle.map_walk.specs.Open.{some_has, serves, some_serves, all_served, is_open_by}
use Rattle.map_walk.specs.Readings.{has_all, target_by, is_enough_by, reading_by, readings_by, has_reading_by}
use Rattle.map_walk.specs.Targets.{ones}
use Rattle.map_walk.proofs.ReadingLaws.{agrees, agrees_all, has_where_some}
use Rattle.map_walk.proofs.RowCountLaws.{counted}
use Rattle.map_walk.proofs.WalkLaws.{ones_next, some_of}

pub or_true : (b c : Bool) → c ≡ true → b || c ≡ true
or_true true c is = refl
or_true false c is = is

pub any_in : {X : Type 0} (p : X → Bool) (x : X) (xs : List X) → In x xs → p x ≡ true → list_any p xs ≡ true
any_in p x [] i passes = absurd i
any_in p x (y ∷ xs) (inl e) passes = ap (λ b. b || list_any p xs) (ap p (sym e) ∙ passes)
any_in p x (y ∷ xs) (inr i) passes = or_true (p y) (list_any p xs) (any_in p x xs i passes)

pub any_follow : {X : Type 0} (p q : X → Bool) (xs : List X) → ((x : X) → p x ≡ true → q x ≡ true) → list_any p xs ≡ true → list_any q xs ≡ true
any_follow p q [] step some = some
any_follow p q (x ∷ xs) step some = by (p x) refl some (any_follow p q xs step)
  where
    by : (b : Bool) → p x ≡ b → b || list_any p xs ≡ true → (list_any p xs ≡ true → list_any q xs ≡ true) → q x || list_any q xs ≡ true
    by true is now later = ap (λ c. c || list_any q xs) (step x is)
    by false is rest later = or_true (q x) (list_any q xs) (later rest)

-- where a bit is set, its element passes
some_set : {X : Type 0} (p : X → Bool) (xs : List X) → 1 ≤ ones (map p xs) → list_any p xs ≡ true
some_set p [] few = absurd (omega (arith, few))
some_set p (x ∷ xs) few = by (p x) refl (some_set p xs)
  where
    by : (b : Bool) → p x ≡ b → (1 ≤ ones (map p xs) → list_any p xs ≡ true) → b || list_any p xs ≡ true
    by true is later = refl
    by false is later = let next = ap (λ b. ones (b ∷ map p xs)) is in let rest = ones_next false (map p xs) in later (omega (arith, few, next, rest))

pub both_true : (b c : Bool) → b ≡ true → c ≡ true → b && c ≡ true
both_true b c x y = ap₂ (λ u v. u && v) x y

none_kept : {X : Type 0} (p : X → Bool) (xs : List X) → ((x : X) → In x xs → p x ≡ false) → filter p xs ≡ []
none_kept p [] none = refl
none_kept p (x ∷ xs) none = rw (none x (inl refl)) (none_kept p xs (λ y i. none y (inr i)))

drop_there : {X : Type 0} (xs : List X) (k : ℕ) (x : X) → slice_get xs k ≡ Some x → drop k xs ≡ x ∷ drop (k + 1) xs
drop_there [] k x is = absurd (none-some x is)
drop_there (y ∷ ys) zero x is = ap (λ z. z ∷ ys) (same_Some y x is)
drop_there (y ∷ ys) (suc k) x is = let e : suc (k + 1) ≡ suc k + 1 = omega arith in drop_there ys k x is ∙ ap (λ n. x ∷ drop n (y ∷ ys)) e

-- the types of a table's columns from a place on begin with that of the column there
pub types_next : (table : TableData) (columns : List Column) (place : ℕ) (column : Column) → columns ≡ table.columns → place < length columns → column ≡ get_or columns place column
    → drop place (types_of table) ≡ column.kind ∷ drop (place + 1) (types_of table)
types_next table columns place column are below is =
    let there : slice_get columns place ≡ Some column = slice_get-get_or columns place column below ∙ ap Some (sym is) in
    let kind : slice_get (types_of table) place ≡ Some column.kind = slice_get-map (λ (c : Column). c.kind) table.columns place ∙ ap (λ cs. option_map (λ (c : Column). c.kind) (slice_get cs place)) (sym are) ∙ ap (option_map (λ (c : Column). c.kind)) there in
    drop_there (types_of table) place column.kind kind

module _ {X : Type 0} (has : X → ℕ → Value → Bool) where
  -- each column of a map may have in some candidate the value of a row, whose places are numbered from `place`
  abbrev HasAll : List X → Row → ℕ → List ℕ → Type 0
  HasAll candidates row place [] = Unit {0}
  HasAll candidates row place (at ∷ picks) = (some_has has candidates at row place ≡ true) × HasAll candidates row (place + 1) picks

  each_has : (candidates : List X) (row : Row) (picks : List ℕ) (place : ℕ) → list_any (λ c. agrees has c picks row place) candidates ≡ true → HasAll candidates row place picks
  each_has candidates row [] place some = tt
  each_has candidates row (at ∷ picks) place some = (
    any_follow (λ c. agrees has c (at ∷ picks) row place) (λ c. has c at (value_at row place)) candidates (λ c e. (and_parts (has c at (value_at row place)) (agrees has c picks row (place + 1)) e).0) some,
    each_has candidates row picks (place + 1) (any_follow (λ c. agrees has c (at ∷ picks) row place) (λ c. agrees has c picks row (place + 1)) candidates (λ c e. (and_parts (has c at (value_at row place)) (agrees has c picks row (place + 1)) e).1) some),
  )

  -- each column of a map serves
  abbrev AllServe : List X → List Row → ℕ → List ℕ → Type 0
  AllServe candidates output place [] = Unit {0}
  AllServe candidates output place (at ∷ picks) = (serves has candidates output place at ≡ true) × AllServe candidates output (place + 1) picks

  all_serve : (candidates : List X) (output : List Row) (picks : List ℕ) (place : ℕ) → ((row : Row) → In row output → HasAll candidates row place picks) → AllServe candidates output place picks
  all_serve candidates output [] place each = tt
  all_serve candidates output (at ∷ picks) place each =
      (all_of (λ row. some_has has candidates at row place) output (λ row i. (each row i).0), all_serve candidates output picks (place + 1) (λ row i. (each row i).1))

  served : (types : List ColType) (candidates : List X) (output : List Row) (wanted : List ColType) (place : ℕ) (picks : List ℕ) → In picks (maps types wanted) → AllServe candidates output place picks
      → all_served has types candidates output place wanted ≡ true
  served types candidates output [] place picks i all = refl
  served types candidates output (t ∷ ts) place picks i all =
      let h = in_flat_map (λ at. map (λ rest. at ∷ rest) (maps types ts)) picks (places_of t 0 types) i in
      let g = in_map (λ rest. h.0 ∷ rest) picks (maps types ts) h.2 in
      let parts = subst (AllServe candidates output place) g.2 all in
      both_true (some_serves has types candidates output place t) (all_served has types candidates output (place + 1) ts) (any_in (serves has candidates output place) h.0 (places_of t 0 types) h.1 parts.0)
      (served types candidates output ts (place + 1) g.0 g.1 parts.1)

  -- by a map with enough candidates each row of an output has one
  has_one : (candidates : List X) (output : List Row) (picks : List ℕ) (row : Row) → is_enough_by has candidates output picks ≡ true → In row output → HasAll candidates row 0 picks
  has_one candidates output picks row enough i =
      let mask : Row → List Bool = λ r. map (λ c. has_all has c picks r) candidates in
      let all : list_all (λ r. nat_le (count output r) (ones (mask r))) (firsts output) ≡ true = sym (list_all-map (λ t. nat_le t.copies (ones t.mask)) (target_by has picks candidates output) (firsts output)) ∙ enough in
      let most = leb-true (count output row) (ones (mask row)) (of_all (λ r. nat_le (count output r) (ones (mask r))) row (firsts output) all (in_firsts row output i)) in
      let one = counted row output i in
      let some = some_set (λ c. has_all has c picks row) candidates (omega (arith, most, one)) in
      each_has candidates row picks 0
      (any_follow (λ c. has_all has c picks row) (λ c. agrees has c picks row 0) candidates (λ c e. (and_parts (length row == length picks) (agrees has c picks row 0) (sym (agrees_all has c picks row) ∙ e)).1) some)

  -- where an output column has no body column that may have all of its values, there is no reading
  pub closed : (types : List ColType) (candidates : List X) (table : TableData) → is_open_by has types candidates table ≡ false → readings_by has types candidates table ≡ []
  closed types candidates table shut =
      ap (map (reading_by has candidates table.rows)) (none_kept (is_enough_by has candidates table.rows) (maps types (types_of table)) (λ picks i. by picks i (is_enough_by has candidates table.rows picks) refl))
    where
      by : (picks : List ℕ) → In picks (maps types (types_of table)) → (b : Bool) → is_enough_by has candidates table.rows picks ≡ b → is_enough_by has candidates table.rows picks ≡ false
      by picks i false is = is
      by picks i true is =
          absurd (both_ways (is_open_by has types candidates table) shut (served types candidates table.rows (types_of table) 0 picks i (all_serve candidates table.rows picks 0 (λ row j. has_one candidates table.rows picks row is j))))

  pub has_closed : (types : List ColType) (candidates : List X) (table : TableData) → is_open_by has types candidates table ≡ false → has_reading_by has types candidates table ≡ false
  has_closed types candidates table shut = sym (has_where_some has types candidates table) ∙ ap some_of (closed types candidates table shut)

  -- the type of a column more
  open_next : (types : List ColType) (candidates : List X) (table : TableData) (columns : List Column) (place : ℕ) (column : Column) → columns ≡ table.columns → place < length columns → column ≡ get_or columns place column
      → all_served has types candidates table.rows place (drop place (types_of table)) ≡ (some_serves has types candidates table.rows place column.kind && all_served has types candidates table.rows (place + 1) (drop (place + 1) (types_of table)))
  open_next types candidates table columns place column are below is = ap (all_served has types candidates table.rows place) (types_next table columns place column are below is)

  -- a column that is not served shuts all
  pub open_none : (types : List ColType) (candidates : List X) (table : TableData) (columns : List Column) (place : ℕ) (column : Column) → columns ≡ table.columns → place < length columns → column ≡ get_or columns place column
      → all_served has types candidates table.rows place (drop place (types_of table)) ≡ is_open_by has types candidates table → some_serves has types candidates table.rows place column.kind ≡ false → false ≡ is_open_by has types candidates table
  open_none types candidates table columns place column are below is so_far none =
      ap (λ b. b && all_served has types candidates table.rows (place + 1) (drop (place + 1) (types_of table))) (sym none) ∙ sym (open_next types candidates table columns place column are below is) ∙ so_far

  pub open_more : (types : List ColType) (candidates : List X) (table : TableData) (columns : List Column) (place : ℕ) (column : Column) → columns ≡ table.columns → place < length columns → column ≡ get_or columns place column
      → all_served has types candidates table.rows place (drop place (types_of table)) ≡ is_open_by has types candidates table → some_serves has types candidates table.rows place column.kind ≡ true
      → all_served has types candidates table.rows (place + 1) (drop (place + 1) (types_of table)) ≡ is_open_by has types candidates table
  open_more types candidates table columns place column are below is so_far some =
      ap (λ b. b && all_served has types candidates table.rows (place + 1) (drop (place + 1) (types_of table))) (sym some) ∙ sym (open_next types candidates table columns place column are below is) ∙ so_far

-- The keys and the aggregates that the grammar lists are those that a group may have.
use Rattle.std.proofs.Common.{◌≡◌, refl, ap, ◌∙◌, ℕ, ◌<◌, Bool, true, false, not, ◌&&◌, ◌==◌, nat_lt, inl, inr, List, [], ◌∷◌, map, length, arith}
use Rattle.std.specs.List.{list_any, range_with_len}
use Rattle.std.proofs.lemmas.Bool.{and_parts, and_from, ltb-true, lt-ltb, false≢true}
use Rattle.value_core.specs.Value.{same_type}
use Rattle.value_core.specs.declared.value.ColType.{ColType}
use Rattle.value_core.specs.declared.value.ColType.TheVariants as kind
use Rattle.predicate_core.specs.Atoms.{pairs}
use Rattle.predicate_core.proofs.OnceLists.{In, in_append, in_map}
use Rattle.table_core.specs.declared.agg_set.AggSet.{AggSet}
use Rattle.query_core.specs.Meaning.{type_at}
use Rattle.query_core.specs.Grammar.{key_lists, free_columns, int_columns, allowed, agg_list}
use Rattle.query_core.specs.declared.agg.Agg.{Agg}
use Rattle.query_core.specs.declared.agg.Agg.TheVariants.{CountAll, Count, CountDistinct, Sum, Min, Max}
use Rattle.query_core.specs.Skeleton.{are_keys, is_free, is_allowed}
use Rattle.query_laws.proofs.MemberLaws.{in_front, in_back, map_in, in_filter, filter_in, in_range, range_in, in_range_pairs, range_pairs_in, InSix, in_six, six_in}

-- the key lists of one column, and those of two
abbrev one_key : ℕ → List ℕ
one_key i = i ∷ []

abbrev two_keys : ℕ × ℕ → List ℕ
two_keys p = p.0 ∷ p.1 ∷ []

abbrev few_keys : ℕ → List (List ℕ)
few_keys width = [] ∷ map one_key (range_with_len 0 width)

abbrev more_keys : ℕ → List (List ℕ)
more_keys width = map two_keys (pairs (range_with_len 0 width))

-- each listed key list may be the keys of a group
keys_by : (width : ℕ) (a b : List ℕ) → a ≡ b → are_keys width b ≡ true → are_keys width a ≡ true
keys_by width a b e is = rw e is

one_key_fits : (width i : ℕ) → In i (range_with_len 0 width) → are_keys width (one_key i) ≡ true
one_key_fits width i here = let h = in_range 0 width i here in lt-ltb i width (omega (arith, h.1))

two_keys_fit : (width : ℕ) (p : ℕ × ℕ) → In p (pairs (range_with_len 0 width)) → are_keys width (two_keys p) ≡ true
two_keys_fit width p here =
    let h = in_range_pairs 0 width p here in
    let high : p.1 < width = omega (arith, h.2) in
    and_from (nat_lt p.0 p.1) (nat_lt p.1 width) (lt-ltb p.0 p.1 h.1) (lt-ltb p.1 width high)

few_fit : (width : ℕ) (keys : List ℕ) → In keys (few_keys width) → are_keys width keys ≡ true
few_fit width keys (inl e) = keys_by width keys [] e refl
few_fit width keys (inr i) = let h = in_map one_key keys (range_with_len 0 width) i in keys_by width keys (one_key h.0) h.2 (one_key_fits width h.0 h.1)

more_fit : (width : ℕ) (keys : List ℕ) → In keys (more_keys width) → are_keys width keys ≡ true
more_fit width keys i = let h = in_map two_keys keys (pairs (range_with_len 0 width)) i in keys_by width keys (two_keys h.0) h.2 (two_keys_fit width h.0 h.1)

pub keys_fit : (width : ℕ) (keys : List ℕ) → In keys (key_lists width) → are_keys width keys ≡ true
keys_fit width keys i = elim (in_append keys (few_keys width) (more_keys width) i) [ inl few ↦ few_fit width keys few | inr more ↦ more_fit width keys more ]

-- what may be the keys of a group is listed
pub keys_listed : (width : ℕ) (keys : List ℕ) → are_keys width keys ≡ true → In keys (key_lists width)
keys_listed width [] fit = in_front [] (few_keys width) (more_keys width) (inl refl)
keys_listed width (i ∷ []) fit =
    let below = ltb-true i width fit in
    in_front (one_key i) (few_keys width) (more_keys width) (inr (map_in one_key i (range_with_len 0 width) (range_in 0 width i (omega arith) (omega arith))))
keys_listed width (i ∷ j ∷ []) fit =
    let both = and_parts (nat_lt i j) (nat_lt j width) fit in
    let ascends = ltb-true i j both.0 in
    let below = ltb-true j width both.1 in
    let pair : ℕ × ℕ = (i, j) in
    in_back (two_keys pair) (few_keys width) (more_keys width) (map_in two_keys pair (pairs (range_with_len 0 width)) (range_pairs_in 0 width i j (omega arith) ascends (omega arith)))
keys_listed width (i ∷ j ∷ k ∷ more) fit = absurd (false≢true fit)

-- the free columns are those that are free
abbrev is_other : List ℕ → ℕ → Bool
is_other keys i = not (list_any (λ k. k == i) keys)

free_fits : (width : ℕ) (keys : List ℕ) (column : ℕ) → In column (free_columns width keys) → is_free width keys column ≡ true
free_fits width keys column i =
    let h = in_filter (is_other keys) column (range_with_len 0 width) i in
    let within = in_range 0 width column h.0 in
    and_from (nat_lt column width) (is_other keys column) (lt-ltb column width (omega (arith, within.1))) h.1

free_listed : (width : ℕ) (keys : List ℕ) (column : ℕ) → is_free width keys column ≡ true → In column (free_columns width keys)
free_listed width keys column fits =
    let both = and_parts (nat_lt column width) (is_other keys column) fits in
    let below = ltb-true column width both.0 in
    filter_in (is_other keys) column (range_with_len 0 width) both.1 (range_in 0 width column (omega arith) (omega arith))

-- whether a column has whole numbers
abbrev has_ints : List ColType → ℕ → Bool
has_ints types i = same_type (type_at types i) kind.Int

abbrev is_free_int : List ColType → List ℕ → ℕ → Bool
is_free_int types keys i = is_free (length types) keys i && has_ints types i

int_fits : (types : List ColType) (keys : List ℕ) (column : ℕ) → In column (int_columns types (free_columns (length types) keys)) → is_free_int types keys column ≡ true
int_fits types keys column i =
    let h = in_filter (has_ints types) column (free_columns (length types) keys) i in
    and_from (is_free (length types) keys column) (has_ints types column) (free_fits (length types) keys column h.0) h.1

int_listed : (types : List ColType) (keys : List ℕ) (column : ℕ) → is_free_int types keys column ≡ true → In column (int_columns types (free_columns (length types) keys))
int_listed types keys column fits =
    let both = and_parts (is_free (length types) keys column) (has_ints types column) fits in
    filter_in (has_ints types) column (free_columns (length types) keys) both.1 (free_listed (length types) keys column both.0)

-- what is listed where it is allowed
in_allowed : {X : Type 0} (x : X) (flag : Bool) (xs : List X) → In x (allowed flag xs) → (flag ≡ true) × In x xs
in_allowed x true xs i = (refl, i)
in_allowed x false xs i = absurd i

allowed_in : {X : Type 0} (x : X) (flag : Bool) (xs : List X) → flag ≡ true → In x xs → In x (allowed flag xs)
allowed_in x flag xs is i = rw is i

-- the listed aggregates of each kind
abbrev alls : AggSet → List Agg
alls set = allowed set.count_all (CountAll ∷ [])

abbrev counts : AggSet → List ColType → List ℕ → List Agg
counts set types keys = allowed set.count (map Count (free_columns (length types) keys))

abbrev distinct_counts : AggSet → List ColType → List ℕ → List Agg
distinct_counts set types keys = allowed set.count_distinct (map CountDistinct (free_columns (length types) keys))

abbrev sums : AggSet → List ColType → List ℕ → List Agg
sums set types keys = allowed set.sum (map Sum (int_columns types (free_columns (length types) keys)))

abbrev minima : AggSet → List ColType → List ℕ → List Agg
minima set types keys = allowed set.min (map Min (free_columns (length types) keys))

abbrev maxima : AggSet → List ColType → List ℕ → List Agg
maxima set types keys = allowed set.max (map Max (free_columns (length types) keys))

abbrev InKinds : AggSet → List ColType → List ℕ → Agg → Type 0
InKinds set types keys agg = InSix agg (alls set) (counts set types keys) (distinct_counts set types keys) (sums set types keys) (minima set types keys) (maxima set types keys)

module _ (set : AggSet) (types : List ColType) (keys : List ℕ) where
  all_allowed : (agg : Agg) → In agg (alls set) → is_allowed set types keys agg ≡ true
  all_allowed agg i =
      let h = in_allowed agg set.count_all (CountAll ∷ []) i in
      elim h.1 [ inl e ↦ ap (is_allowed set types keys) e ∙ h.0 | inr none ↦ absurd none ]

  -- a listed aggregate of a column is allowed, where the listed columns pass its test
  column_allowed : (make : ℕ → Agg) (flag : Bool) (test : ℕ → Bool) (columns : List ℕ) (agg : Agg)
      → ((i : ℕ) → is_allowed set types keys (make i) ≡ (flag && test i)) → ((i : ℕ) → In i columns → test i ≡ true)
      → In agg (allowed flag (map make columns)) → is_allowed set types keys agg ≡ true
  column_allowed make flag test columns agg says fits i =
      let h = in_allowed agg flag (map make columns) i in
      let k = in_map make agg columns h.1 in
      ap (is_allowed set types keys) k.2 ∙ says k.0 ∙ and_from flag (test k.0) h.0 (fits k.0 k.1)

  free_allowed : (make : ℕ → Agg) (flag : Bool) (agg : Agg) → ((i : ℕ) → is_allowed set types keys (make i) ≡ (flag && is_free (length types) keys i))
      → In agg (allowed flag (map make (free_columns (length types) keys))) → is_allowed set types keys agg ≡ true
  free_allowed make flag agg says i = column_allowed make flag (is_free (length types) keys) (free_columns (length types) keys) agg says (free_fits (length types) keys) i

  kinds_allowed : (agg : Agg) → InKinds set types keys agg → is_allowed set types keys agg ≡ true
  kinds_allowed agg (inl i) = all_allowed agg i
  kinds_allowed agg (inr (inl i)) = free_allowed Count set.count agg (λ c. refl) i
  kinds_allowed agg (inr (inr (inl i))) = free_allowed CountDistinct set.count_distinct agg (λ c. refl) i
  kinds_allowed agg (inr (inr (inr (inl i)))) =
      column_allowed Sum set.sum (is_free_int types keys) (int_columns types (free_columns (length types) keys)) agg (λ c. refl) (int_fits types keys) i
  kinds_allowed agg (inr (inr (inr (inr (inl i))))) = free_allowed Min set.min agg (λ c. refl) i
  kinds_allowed agg (inr (inr (inr (inr (inr i))))) = free_allowed Max set.max agg (λ c. refl) i

  -- each listed aggregate is allowed
  pub aggs_allowed : (agg : Agg) → In agg (agg_list set types keys) → is_allowed set types keys agg ≡ true
  aggs_allowed agg i =
      kinds_allowed agg (in_six agg (alls set) (counts set types keys) (distinct_counts set types keys) (sums set types keys) (minima set types keys) (maxima set types keys) i)

  -- an allowed aggregate of a column is listed
  column_listed : (make : ℕ → Agg) (flag : Bool) (test : ℕ → Bool) (columns : List ℕ) (i : ℕ) → (test i ≡ true → In i columns)
      → (flag && test i) ≡ true → In (make i) (allowed flag (map make columns))
  column_listed make flag test columns i listed fits =
      let both = and_parts flag (test i) fits in
      allowed_in (make i) flag (map make columns) both.0 (map_in make i columns (listed both.1))

  free_agg_listed : (make : ℕ → Agg) (flag : Bool) (i : ℕ) → (flag && is_free (length types) keys i) ≡ true → In (make i) (allowed flag (map make (free_columns (length types) keys)))
  free_agg_listed make flag i fits = column_listed make flag (is_free (length types) keys) (free_columns (length types) keys) i (free_listed (length types) keys i) fits

  kinds_listed : (agg : Agg) → is_allowed set types keys agg ≡ true → InKinds set types keys agg
  kinds_listed CountAll fits = inl (allowed_in CountAll set.count_all (CountAll ∷ []) fits (inl refl))
  kinds_listed (Count i) fits = inr (inl (free_agg_listed Count set.count i fits))
  kinds_listed (CountDistinct i) fits = inr (inr (inl (free_agg_listed CountDistinct set.count_distinct i fits)))
  kinds_listed (Sum i) fits =
      inr (inr (inr (inl (column_listed Sum set.sum (is_free_int types keys) (int_columns types (free_columns (length types) keys)) i (int_listed types keys i) fits))))
  kinds_listed (Min i) fits = inr (inr (inr (inr (inl (free_agg_listed Min set.min i fits)))))
  kinds_listed (Max i) fits = inr (inr (inr (inr (inr (free_agg_listed Max set.max i fits)))))

  -- each allowed aggregate is listed
  pub aggs_listed : (agg : Agg) → is_allowed set types keys agg ≡ true → In agg (agg_list set types keys)
  aggs_listed agg fits =
      six_in agg (alls set) (counts set types keys) (distinct_counts set types keys) (sums set types keys) (minima set types keys) (maxima set types keys) (kinds_listed agg fits)

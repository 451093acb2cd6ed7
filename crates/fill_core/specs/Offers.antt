-- Candidate rows with choices, the fillings that they are, and what is gathered of them.
use Rattle.std.specs.Prelude.{◌≡◌, ℕ, ◌*◌, Bool, false, List, length, [], ◌∷◌, ◌++◌, map, flat_map, Option, Some, None}
use Rattle.std.specs.List.{sum_by}
use Rattle.value_core.specs.declared.value.ColType.{ColType}
use Rattle.predicate_core.specs.declared.pred.Pred.{Pred}
use Rattle.table_core.specs.Rows.{Row}
use Rattle.bit_rows.specs.Masked.{masked}
use Rattle.bit_classes.specs.Sieves.{IsSieve}
use Rattle.bit_classes.specs.declared.join.Join as joins
use Rattle.query_core.specs.Filled.{Filled}
use Rattle.query_core.specs.Joins.{crossed, crossed_and_padded}
use Rattle.query_core.specs.declared.kinds.Pairing.{Pairing}
use Rattle.query_core.specs.declared.kinds.Pairing.TheVariants.{Join, Left}
use Rattle.fill_core.specs.Bounds.{Passes}
use Rattle.fill_core.specs.Choices.{is_wanted, left_choice}
use Rattle.fill_core.specs.declared.choice.Choice.{Choice}

-- the element, where there is one
abbrev pub as_list : {A : Type 0} → Option A → List A
as_list None = []
as_list (Some x) = x ∷ []

-- the filling of a choice: its predicate behind the parts', and the candidates that it keeps
abbrev pub filled_by : List ColType → List Pred → List Row → Choice → Filled
filled_by types preds candidates c = record { types = types; preds = preds ++ as_list c.pred; rows = masked c.bits candidates }

-- the fillings of some choices
abbrev pub filled_by_all : List ColType → List Pred → List Row → List Choice → List Filled
filled_by_all types preds candidates choices = map (filled_by types preds candidates) choices

-- a store holds what it held and, behind it, what is gathered of some fillings
abbrev pub Gathered : {Store Item : Type 0} → (Store → List Item) → (Filled → List Item) → Store → Store → List Filled → Type 0
Gathered held gives before after fillings = held after ≡ held before ++ flat_map gives fillings

-- what a pair of two parts chooses from; the right one has so many columns
abbrev pub pair_candidates : Pairing → ℕ → List Row → List Row → List Row
pair_candidates Join width lefts rights = crossed lefts rights
pair_candidates Left width lefts rights = crossed_and_padded width lefts rights

-- what a store holds and what is gathered of some fillings weigh together more than a bound, where there is one
abbrev pub TooMuch : {Item : Type 0} → Option ℕ → (Item → ℕ) → (Filled → List Item) → List Item → List Filled → Type 0
TooMuch bound weigh gives held fillings = Passes bound (sum_by weigh (held ++ flat_map gives fillings))

-- no choice of some candidate rows, in columns of these types, gives anything
abbrev pub GivesNothing : {Item : Type 0} → (Filled → List Item) → List ColType → List Row → Type 0
GivesNothing gives types candidates = (preds : List Pred) (c : Choice) → length c.bits ≡ length candidates → gives (filled_by types preds candidates c) ≡ []

-- all of some rows, in columns of these types, give nothing
abbrev pub WholeGivesNothing : {Item : Type 0} → (Filled → List Item) → List ColType → List Row → Type 0
WholeGivesNothing gives types rows = (preds : List Pred) → gives (record { types = types; preds = preds; rows = rows }) ≡ []

-- what may be wanted of the bits of some candidate rows is a sieve, and a choice that may not be wanted gives nothing
abbrev pub Sifts : {Item : Type 0} → (Filled → List Item) → List ColType → List Row → (joins.Join → List Bool → Bool) → Type 0
Sifts gives types candidates may =
    IsSieve (length candidates) may
    × ((preds : List Pred) (c : Choice) → length c.bits ≡ length candidates → is_wanted may c ≡ false → gives (filled_by types preds candidates c) ≡ [])

-- what may be wanted of the bits of the pairs of so many left and right rows is a sieve, and a choice of theirs that may not be wanted gives nothing as the left join's
abbrev pub SiftsPairs : {Item : Type 0} → (Filled → List Item) → List ColType → List Row → ℕ → ℕ → (joins.Join → List Bool → Bool) → Type 0
SiftsPairs gives types candidates lefts rights may =
    IsSieve (lefts * rights) may
    × ((preds : List Pred) (c : Choice) → length c.bits ≡ lefts * rights → is_wanted may c ≡ false → gives (filled_by types preds candidates (left_choice lefts rights c)) ≡ [])

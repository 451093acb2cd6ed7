-- The fillings that offers are.
use Rattle.std.proofs.Common.{◌≡◌, ℕ, zero, suc, ◌*◌, ◌<◌, arith, get_or, Bool, true, false, not, List, [], ◌∷◌, ◌++◌, map, refl, sym, ap, ap₂, subst, ◌∙◌, length, Option, Some, None, if◌then◌else◌}
use Rattle.std.specs.Prelude.{filter, All}
use Rattle.std.specs.List.{flat_map}
use Rattle.std.proofs.lemmas.List.{append-nil, length-map, length-replicate}
use Rattle.std.proofs.lemmas.List.Elements.{All-cons, All-nil, All-filter, All-weaker, All-map, All-same, All-head, All-tail}
use Rattle.std.proofs.lemmas.List.Folds.{list_all-map}
use Rattle.value_core.specs.declared.value.ColType.{ColType}
use Rattle.predicate_core.specs.declared.pred.Pred.{Pred}
use Rattle.predicate_core.specs.Truth.{keeps}
use Rattle.table_core.specs.Rows.{Row}
use Rattle.table_core.specs.declared.task.TaskParts.{TaskParts}
use Rattle.query_core.specs.Joins.{crossed, crossed_and_padded}
use Rattle.query_core.specs.Grammar.{predicates}
use Rattle.query_core.specs.Standard.{is_first, keeps_all}
use Rattle.query_core.specs.Filled.{Filled, may_filter, filled_filter, filled_filters, first_preds, filled_pair, filled_pairs, filled_group, filled_groups}
use Rattle.query_core.specs.Groups.{grouped}
use Rattle.query_core.specs.Meaning.{group_types}
use Rattle.query_core.specs.declared.agg.Agg.{Agg}
use Rattle.query_core.specs.declared.kinds.Pairing.{Pairing}
use Rattle.query_core.specs.declared.kinds.Pairing.TheVariants.{Join, Left}
use Rattle.fill_core.specs.Choices.{chosen, hole_choices, drops_some, every, with_alone, left_choice}
use Rattle.fill_core.specs.Offers.{filled_by, filled_by_all, pair_candidates, Gathered, GivesNothing, WholeGivesNothing}
use Rattle.fill_core.specs.declared.choice.Choice.{Choice}
use Rattle.fill_core.proofs.MaskLaws.{masked_filter, masked_full, joined_is, left_joined_is, length_crossed, length_with_alone, length_padded}

-- the one choice of a node without a predicate
pub whole_is : (types : List ColType) (preds : List Pred) (rows : List Row) → filled_by_all types preds rows (every (length rows) ∷ []) ≡ record { types = types; preds = preds; rows = rows } ∷ []
whole_is types preds rows = rw (masked_full rows, append-nil preds) refl

pub all_of_one : {A : Type 0} (P : A → Type 0) (x : A) → P x → All P (x ∷ [])
all_of_one P x holds = All-cons P x [] holds (All-nil P)

pub whole_wide : (rows : List Row) → All (λ c. length c.bits ≡ length rows) (every (length rows) ∷ [])
whole_wide rows = all_of_one (λ (c : Choice). length c.bits ≡ length rows) (every (length rows)) (length-replicate (length rows) true)

-- the filling of a filter's choice
filter_by : (task : TaskParts) (c : Filled) (p : Pred) → filled_by c.types c.preds c.rows (chosen task.constants c.rows p) ≡ filled_filter task c p
filter_by task c p = ap (λ rows. record { types = c.types; preds = c.preds ++ p ∷ []; rows = rows }) (masked_filter (keeps task.constants p) c.rows)

-- a choice drops some row where its predicate doesn't keep all
drops_is : (task : TaskParts) (c : Filled) (p : Pred) → drops_some (chosen task.constants c.rows p) ≡ not (keeps_all task.constants c.rows p)
drops_is task c p = ap not (list_all-map (λ b. b) (keeps task.constants p) c.rows)

filters_of : (task : TaskParts) (c : Filled) (ps : List Pred)
    → map (filled_by c.types c.preds c.rows) (filter drops_some (map (chosen task.constants c.rows) (filter (is_first task c.types c.rows) ps)))
    ≡ map (filled_filter task c) (filter (may_filter task c) ps)
filters_of task c [] = refl
filters_of task c (p ∷ ps) = by_first (is_first task c.types c.rows p) refl (filters_of task c ps)
  where
    by_drop : (d : Bool) → drops_some (chosen task.constants c.rows p) ≡ d
        → map (filled_by c.types c.preds c.rows) (filter drops_some (map (chosen task.constants c.rows) (filter (is_first task c.types c.rows) ps))) ≡ map (filled_filter task c) (filter (may_filter task c) ps)
        → map (filled_by c.types c.preds c.rows) (filter drops_some (chosen task.constants c.rows p ∷ map (chosen task.constants c.rows) (filter (is_first task c.types c.rows) ps)))
        ≡ map (filled_filter task c) (if d then p ∷ filter (may_filter task c) ps else filter (may_filter task c) ps)
    by_drop true is later = rw is (ap₂ (λ x xs. x ∷ xs) (filter_by task c p) later)
    by_drop false is later = rw is later

    by_first : (b : Bool) → is_first task c.types c.rows p ≡ b
        → map (filled_by c.types c.preds c.rows) (filter drops_some (map (chosen task.constants c.rows) (filter (is_first task c.types c.rows) ps))) ≡ map (filled_filter task c) (filter (may_filter task c) ps)
        → map (filled_by c.types c.preds c.rows) (filter drops_some (map (chosen task.constants c.rows) (filter (is_first task c.types c.rows) (p ∷ ps))))
        ≡ map (filled_filter task c) (filter (may_filter task c) (p ∷ ps))
    by_first true is later = rw is (by_drop (not (keeps_all task.constants c.rows p)) (drops_is task c p) later)
    by_first false is later = rw is later

-- the choices of a filter are the standard filters
pub filters_are : (task : TaskParts) (types : List ColType) (preds : List Pred) (rows : List Row)
    → filled_by_all types preds rows (filter drops_some (hole_choices task types rows)) ≡ filled_filters task (record { types = types; preds = preds; rows = rows })
filters_are task types preds rows = filters_of task (record { types = types; preds = preds; rows = rows }) (predicates task types)

-- the choices of a join are the standard joins
pub joins_are : (task : TaskParts) (a b : Filled)
    → filled_by_all (a.types ++ b.types) (a.preds ++ b.preds) (crossed a.rows b.rows) (hole_choices task (a.types ++ b.types) (crossed a.rows b.rows)) ≡ filled_pairs task Join a b
joins_are task a b = of_preds (first_preds task (a.types ++ b.types) (crossed a.rows b.rows))
  where
    of_preds : (ps : List Pred) → map (filled_by (a.types ++ b.types) (a.preds ++ b.preds) (crossed a.rows b.rows)) (map (chosen task.constants (crossed a.rows b.rows)) ps) ≡ map (filled_pair task Join a b) ps
    of_preds [] = refl
    of_preds (p ∷ ps) =
        ap₂ (λ x xs. x ∷ xs)
        (ap (λ rows. record { types = a.types ++ b.types; preds = (a.preds ++ b.preds) ++ p ∷ []; rows = rows }) (joined_is task.constants p a.rows b.rows))
        (of_preds ps)

-- the choices of a left join are the standard left joins
pub left_joins_are : (task : TaskParts) (a b : Filled)
    → filled_by_all (a.types ++ b.types) (a.preds ++ b.preds) (crossed_and_padded (length b.types) a.rows b.rows) (map (left_choice (length a.rows) (length b.rows)) (hole_choices task (a.types ++ b.types) (crossed a.rows b.rows)))
    ≡ filled_pairs task Left a b
left_joins_are task a b = of_preds (first_preds task (a.types ++ b.types) (crossed a.rows b.rows))
  where
    of_preds : (ps : List Pred)
        → map (filled_by (a.types ++ b.types) (a.preds ++ b.preds) (crossed_and_padded (length b.types) a.rows b.rows)) (map (left_choice (length a.rows) (length b.rows)) (map (chosen task.constants (crossed a.rows b.rows)) ps))
        ≡ map (filled_pair task Left a b) ps
    of_preds [] = refl
    of_preds (p ∷ ps) =
        ap₂ (λ x xs. x ∷ xs)
        (ap (λ rows. record { types = a.types ++ b.types; preds = (a.preds ++ b.preds) ++ p ∷ []; rows = rows }) (left_joined_is task.constants p (length b.types) a.rows b.rows))
        (of_preds ps)

-- the choices of a hole have a bit for each candidate
pub hole_wide : (task : TaskParts) (types : List ColType) (candidates : List Row) → All (λ c. length c.bits ≡ length candidates) (hole_choices task types candidates)
hole_wide task types candidates = of_preds (first_preds task types candidates)
  where
    of_preds : (ps : List Pred) → All (λ (c : Choice). length c.bits ≡ length candidates) (map (chosen task.constants candidates) ps)
    of_preds [] = All-nil (λ (c : Choice). length c.bits ≡ length candidates)
    of_preds (p ∷ ps) = All-cons (λ (c : Choice). length c.bits ≡ length candidates) (chosen task.constants candidates p) (map (chosen task.constants candidates) ps) (length-map candidates (keeps task.constants p)) (of_preds ps)

pub filters_wide : (task : TaskParts) (types : List ColType) (candidates : List Row) → All (λ c. length c.bits ≡ length candidates) (filter drops_some (hole_choices task types candidates))
filters_wide task types candidates = All-filter drops_some (λ c. length c.bits ≡ length candidates) (hole_choices task types candidates) (hole_wide task types candidates)

pub pairs_wide : (task : TaskParts) (types : List ColType) (lefts rights : List Row) → All (λ c. length c.bits ≡ length lefts * length rights) (hole_choices task types (crossed lefts rights))
pairs_wide task types lefts rights = All-weaker (λ (c : Choice). length c.bits ≡ length (crossed lefts rights)) (λ c. length c.bits ≡ length lefts * length rights) (λ c same. same ∙ length_crossed lefts rights) (hole_choices task types (crossed lefts rights)) (hole_wide task types (crossed lefts rights))

pub lefts_wide : (task : TaskParts) (types : List ColType) (width : ℕ) (lefts rights : List Row)
    → All (λ c. length c.bits ≡ length (crossed_and_padded width lefts rights)) (map (left_choice (length lefts) (length rights)) (hole_choices task types (crossed lefts rights)))
lefts_wide task types width lefts rights =
    All-map (λ (c : Choice). length c.bits ≡ length (crossed_and_padded width lefts rights)) (left_choice (length lefts) (length rights)) (hole_choices task types (crossed lefts rights))
    (All-weaker (λ (c : Choice). length c.bits ≡ length lefts * length rights) (λ c. length (with_alone (length lefts) (length rights) c.bits) ≡ length (crossed_and_padded width lefts rights))
    (λ c same. length_with_alone (length lefts) (length rights) c.bits same ∙ sym (length_padded width lefts rights)) (hole_choices task types (crossed lefts rights)) (pairs_wide task types lefts rights))

-- what may be handed over of one list may be of an equal one, and what is gathered of it is the same
pub accepted : (P : Filled → Type 0) (given wanted : List Filled) → given ≡ wanted → All P wanted → All P given
accepted P given wanted same all = All-same P given wanted same all

pub gathered : {Store Item : Type 0} (held : Store → List Item) (gives : Filled → List Item) (before after : Store) (given wanted : List Filled) → given ≡ wanted → Gathered held gives before after given → Gathered held gives before after wanted
gathered held gives before after given wanted same so = so ∙ ap (λ fs. held before ++ flat_map gives fs) same

All-back : {X : Type 0} (P : X → Type 0) (xs ys : List X) → All P (xs ++ ys) → All P ys
All-back P [] ys all = all
All-back P (x ∷ xs) ys all = All-back P xs ys (All-tail P x (xs ++ ys) all)

All-front : {X : Type 0} (P : X → Type 0) (xs ys : List X) → All P (xs ++ ys) → All P xs
All-front P [] ys all = All-nil P
All-front P (x ∷ xs) ys all = All-cons P x xs (All-head P x (xs ++ ys) all) (All-front P xs ys (All-tail P x (xs ++ ys) all))

-- a part of what may be handed over
pub all_at : {X : Type 0} (P : Filled → Type 0) (f : X → List Filled) (xs : List X) (i : ℕ) (d : X) → i < length xs → All P (flat_map f xs) → All P (f (get_or xs i d))
all_at P f [] i d below all = absurd (omega (arith, below))
all_at P f (x ∷ xs) zero d below all = All-front P (f x) (flat_map f xs) all
all_at P f (x ∷ xs) (suc i) d below all = all_at P f xs i d (omega (arith, below)) (All-back P (f x) (flat_map f xs) all)

-- the choices of a join, and of a left join, as a combination has them
pub joins_of : (task : TaskParts) (a b : Filled) (types : List ColType) (preds : List Pred) (candidates : List Row) (choices : List Choice)
    → types ≡ a.types ++ b.types → preds ≡ a.preds ++ b.preds → candidates ≡ crossed a.rows b.rows → choices ≡ hole_choices task types candidates
    → filled_by_all types preds candidates choices ≡ filled_pairs task Join a b
joins_of task a b types preds candidates choices is_types is_preds is_candidates is_choices =
    ap (filled_by_all types preds candidates) is_choices
    ∙ ap (λ ts. filled_by_all ts preds candidates (hole_choices task ts candidates)) is_types
    ∙ ap (λ ps. filled_by_all (a.types ++ b.types) ps candidates (hole_choices task (a.types ++ b.types) candidates)) is_preds
    ∙ ap (λ cs. filled_by_all (a.types ++ b.types) (a.preds ++ b.preds) cs (hole_choices task (a.types ++ b.types) cs)) is_candidates
    ∙ joins_are task a b

pub left_joins_of : (task : TaskParts) (a b : Filled) (types : List ColType) (preds : List Pred) (candidates : List Row) (choices : List Choice)
    → types ≡ a.types ++ b.types → preds ≡ a.preds ++ b.preds → candidates ≡ crossed_and_padded (length b.types) a.rows b.rows
    → choices ≡ map (left_choice (length a.rows) (length b.rows)) (hole_choices task types (crossed a.rows b.rows))
    → filled_by_all types preds candidates choices ≡ filled_pairs task Left a b
left_joins_of task a b types preds candidates choices is_types is_preds is_candidates is_choices =
    ap (filled_by_all types preds candidates) is_choices
    ∙ ap (λ ts. filled_by_all ts preds candidates (map (left_choice (length a.rows) (length b.rows)) (hole_choices task ts (crossed a.rows b.rows)))) is_types
    ∙ ap (λ ps. filled_by_all (a.types ++ b.types) ps candidates (map (left_choice (length a.rows) (length b.rows)) (hole_choices task (a.types ++ b.types) (crossed a.rows b.rows)))) is_preds
    ∙ ap (λ cs. filled_by_all (a.types ++ b.types) (a.preds ++ b.preds) cs (map (left_choice (length a.rows) (length b.rows)) (hole_choices task (a.types ++ b.types) (crossed a.rows b.rows)))) is_candidates
    ∙ left_joins_are task a b

-- nothing is gathered of choices, where no choice of their candidates gives anything
nothing_given : {Item : Type 0} (gives : Filled → List Item) (types : List ColType) (preds : List Pred) (candidates : List Row) (choices : List Choice)
    → GivesNothing gives types candidates → All (λ c. length c.bits ≡ length candidates) choices → flat_map gives (filled_by_all types preds candidates choices) ≡ []
nothing_given gives types preds candidates [] none wide = refl
nothing_given gives types preds candidates (c ∷ choices) none wide =
    ap₂ (λ xs ys. xs ++ ys) (none preds c (All-head (λ (ch : Choice). length ch.bits ≡ length candidates) c choices wide))
    (nothing_given gives types preds candidates choices none (All-tail (λ (ch : Choice). length ch.bits ≡ length candidates) c choices wide))

-- so a store holds all that is gathered of fillings that are such choices
nothing_more : {Item : Type 0} (gives : Filled → List Item) (held : List Item) (types : List ColType) (preds : List Pred) (candidates : List Row) (choices : List Choice) (fillings : List Filled)
    → GivesNothing gives types candidates → All (λ c. length c.bits ≡ length candidates) choices → filled_by_all types preds candidates choices ≡ fillings → held ≡ held ++ flat_map gives fillings
nothing_more gives held types preds candidates choices fillings none wide same =
    sym (append-nil held) ∙ ap (λ xs. held ++ xs) (sym (nothing_given gives types preds candidates choices none wide) ∙ ap (flat_map gives) same)

pub no_whole : {Item : Type 0} (gives : Filled → List Item) (held : List Item) (types : List ColType) (preds : List Pred) (rows : List Row) → GivesNothing gives types rows
    → held ≡ held ++ flat_map gives (record { types = types; preds = preds; rows = rows } ∷ [])
no_whole gives held types preds rows none = nothing_more gives held types preds rows (every (length rows) ∷ []) _ none (whole_wide rows) (whole_is types preds rows)

pub no_filters : {Item : Type 0} (task : TaskParts) (gives : Filled → List Item) (held : List Item) (types : List ColType) (preds : List Pred) (rows : List Row) → GivesNothing gives types rows
    → held ≡ held ++ flat_map gives (filled_filters task (record { types = types; preds = preds; rows = rows }))
no_filters task gives held types preds rows none = nothing_more gives held types preds rows (filter drops_some (hole_choices task types rows)) _ none (filters_wide task types rows) (filters_are task types preds rows)

pub no_joins : {Item : Type 0} (task : TaskParts) (gives : Filled → List Item) (held : List Item) (a b : Filled) (types : List ColType) (candidates : List Row)
    → types ≡ a.types ++ b.types → candidates ≡ crossed a.rows b.rows → GivesNothing gives types candidates → held ≡ held ++ flat_map gives (filled_pairs task Join a b)
no_joins task gives held a b types candidates is_types is_candidates none =
    let same = joins_of task a b types (a.preds ++ b.preds) candidates (hole_choices task types candidates) is_types refl is_candidates refl in
    nothing_more gives held types (a.preds ++ b.preds) candidates (hole_choices task types candidates) _ none (hole_wide task types candidates) same

pub no_left_joins : {Item : Type 0} (task : TaskParts) (gives : Filled → List Item) (held : List Item) (a b : Filled) (types : List ColType) (candidates : List Row)
    → types ≡ a.types ++ b.types → candidates ≡ crossed_and_padded (length b.types) a.rows b.rows → GivesNothing gives types candidates → held ≡ held ++ flat_map gives (filled_pairs task Left a b)
no_left_joins task gives held a b types candidates is_types is_candidates none =
    let choices = map (left_choice (length a.rows) (length b.rows)) (hole_choices task types (crossed a.rows b.rows)) in
    let same = left_joins_of task a b types (a.preds ++ b.preds) candidates choices is_types refl is_candidates refl in
    let wide : All (λ c. length c.bits ≡ length candidates) choices = rw is_candidates (lefts_wide task types (length b.types) a.rows b.rows) in
    nothing_more gives held types (a.preds ++ b.preds) candidates choices _ none wide same

-- what gives nothing of a pair's candidates does so of equal ones
pub same_pair : {Item : Type 0} (gives : Filled → List Item) (kind wanted : Pairing) (types own : List ColType) (padding width : ℕ) (lefts ls rights rs : List Row)
    → kind ≡ wanted → types ≡ own → padding ≡ width → lefts ≡ ls → rights ≡ rs → GivesNothing gives types (pair_candidates kind padding lefts rights) → GivesNothing gives own (pair_candidates wanted width ls rs)
same_pair gives kind wanted types own padding width lefts ls rights rs is_kind is_types is_width is_lefts is_rights none =
    subst (λ r. GivesNothing gives own (pair_candidates wanted width ls r)) is_rights
    (subst (λ l. GivesNothing gives own (pair_candidates wanted width l rights)) is_lefts
    (subst (λ w. GivesNothing gives own (pair_candidates wanted w lefts rights)) is_width
    (subst (λ t. GivesNothing gives t (pair_candidates wanted padding lefts rights)) is_types
    (subst (λ k. GivesNothing gives types (pair_candidates k padding lefts rights)) is_kind none))))

-- nothing is gathered of groups, where nothing is given of all of their rows
pub no_groups : {Item : Type 0} (gives : Filled → List Item) (held : List Item) (keys : List ℕ) (agg : Agg) (c : Filled) (types : List ColType)
    → types ≡ group_types c.types keys agg → ((groups : List Row) → grouped keys agg c.rows ≡ Some groups → WholeGivesNothing gives types groups) → held ≡ held ++ flat_map gives (filled_groups keys agg c)
no_groups gives held keys agg c types is_types none = by (grouped keys agg c.rows) refl
  where
    by : (o : Option (List Row)) → grouped keys agg c.rows ≡ o → held ≡ held ++ flat_map gives (filled_group keys agg c o)
    by None is = sym (append-nil held)
    by (Some groups) is =
        let one : gives (record { types = group_types c.types keys agg; preds = c.preds; rows = groups }) ≡ [] = ap (λ ts. let f : Filled = record { types = ts; preds = c.preds; rows = groups } in gives f) (sym is_types) ∙ none groups is c.preds in
        sym (append-nil held) ∙ ap (λ items. held ++ items) (sym (ap (λ items. items ++ []) one))

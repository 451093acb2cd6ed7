-- Of choices those alone that may be wanted: what is gathered of them is what is gathered of all.
use Rattle.std.proofs.Common.{◌≡◌, refl, sym, ap, ◌∙◌, ℕ, ◌*◌, Bool, true, false, List, [], ◌∷◌, ◌++◌, length, map, subst, Option, Some}
use Rattle.std.specs.Prelude.{filter, All, IfSome, if◌then◌else◌}
use Rattle.std.specs.List.{flat_map, sum_by}
use Rattle.std.proofs.lemmas.List.Elements.{All-cons, All-head, All-tail, All-same, All-filter, All-map, All-weaker}
use Rattle.value_core.specs.declared.value.ColType.{ColType}
use Rattle.predicate_core.specs.declared.pred.Pred.{Pred}
use Rattle.table_core.specs.Rows.{Row}
use Rattle.table_core.specs.declared.task.TaskParts.{TaskParts}
use Rattle.query_core.specs.Joins.{crossed, crossed_and_padded}
use Rattle.query_core.specs.Filled.{Filled, filled_filters, filled_pairs}
use Rattle.query_core.specs.declared.kinds.Pairing.TheVariants.{Join, Left}
use Rattle.query_laws.proofs.FirstCopyLaws.{filter_swap}
use Rattle.bit_classes.specs.declared.join.Join as joins
use Rattle.fill_core.specs.Bounds.{Passes}
use Rattle.fill_core.specs.Choices.{hole_choices, drops_some, is_wanted, left_choice, with_alone}
use Rattle.fill_core.specs.Offers.{filled_by, filled_by_all, Gathered, Sifts, SiftsPairs, TooMuch}
use Rattle.fill_core.specs.declared.choice.Choice.{Choice}
use Rattle.fill_core.specs.declared.fillings.Entry.{Entry}
use Rattle.fill_core.specs.View.{entry_filled}
use Rattle.fill_core.proofs.OfferLaws.{hole_wide, filters_wide, filters_are, joins_of, left_joins_of, pairs_wide}
use Rattle.fill_core.proofs.MaskLaws.{length_with_alone, length_padded}

-- ---- lists of fillings of which the same is gathered

-- what is gathered of fillings is gathered of those that give the same
pub gathered_alike : {Store Item : Type 0} (held : Store → List Item) (gives : Filled → List Item) (before after : Store) (given wanted : List Filled) → flat_map gives given ≡ flat_map gives wanted
    → Gathered held gives before after given → Gathered held gives before after wanted
gathered_alike held gives before after given wanted same so = so ∙ ap (λ items. held before ++ items) same

-- and what is too much of them is so of those
pub too_much_alike : {Item : Type 0} (bound : Option ℕ) (weighs : Item → ℕ) (gives : Filled → List Item) (held : List Item) (given wanted : List Filled) → flat_map gives given ≡ flat_map gives wanted
    → TooMuch bound weighs gives held given → TooMuch bound weighs gives held wanted
too_much_alike bound weighs gives held given wanted same much = subst (λ items. Passes bound (sum_by weighs (held ++ items))) same much

-- ---- choices that may be wanted, among others

module _ {Item : Type 0} (gives : Filled → List Item) (types : List ColType) (preds : List Pred) (candidates : List Row) (may : joins.Join → List Bool → Bool) (sifts : Sifts gives types candidates may) where
  -- all give what those give that may be wanted
  pub sifted : (choices : List Choice) → All (λ c. length c.bits ≡ length candidates) choices
      → flat_map gives (filled_by_all types preds candidates (filter (is_wanted may) choices)) ≡ flat_map gives (filled_by_all types preds candidates choices)
  sifted [] wide = refl
  sifted (c ∷ choices) wide = by (is_wanted may c) refl (sifted choices (All-tail (λ (ch : Choice). length ch.bits ≡ length candidates) c choices wide))
    where
      by : (b : Bool) → is_wanted may c ≡ b
          → flat_map gives (filled_by_all types preds candidates (filter (is_wanted may) choices)) ≡ flat_map gives (filled_by_all types preds candidates choices)
          → flat_map gives (filled_by_all types preds candidates (if b then c ∷ filter (is_wanted may) choices else filter (is_wanted may) choices)) ≡ flat_map gives (filled_by_all types preds candidates (c ∷ choices))
      by true is later = ap (λ items. gives (filled_by types preds candidates c) ++ items) later
      by false is later =
          later ∙ ap (λ items. items ++ flat_map gives (filled_by_all types preds candidates choices))
          (sym (sifts.1 preds c (All-head (λ (ch : Choice). length ch.bits ≡ length candidates) c choices wide) is))

module _ {Item : Type 0} (gives : Filled → List Item) (types : List ColType) (preds : List Pred) (candidates : List Row) (lefts rights : ℕ) (may : joins.Join → List Bool → Bool) (sifts : SiftsPairs gives types candidates lefts rights may) where
  -- the same of choices of pairs, as a left join's
  pub pairs_sifted : (choices : List Choice) → All (λ c. length c.bits ≡ lefts * rights) choices
      → flat_map gives (filled_by_all types preds candidates (map (left_choice lefts rights) (filter (is_wanted may) choices))) ≡ flat_map gives (filled_by_all types preds candidates (map (left_choice lefts rights) choices))
  pairs_sifted [] wide = refl
  pairs_sifted (c ∷ choices) wide = by (is_wanted may c) refl (pairs_sifted choices (All-tail (λ (ch : Choice). length ch.bits ≡ lefts * rights) c choices wide))
    where
      by : (b : Bool) → is_wanted may c ≡ b
          → flat_map gives (filled_by_all types preds candidates (map (left_choice lefts rights) (filter (is_wanted may) choices))) ≡ flat_map gives (filled_by_all types preds candidates (map (left_choice lefts rights) choices))
          → flat_map gives (filled_by_all types preds candidates (map (left_choice lefts rights) (if b then c ∷ filter (is_wanted may) choices else filter (is_wanted may) choices)))
          ≡ flat_map gives (filled_by_all types preds candidates (map (left_choice lefts rights) (c ∷ choices)))
      by true is later = ap (λ items. gives (filled_by types preds candidates (left_choice lefts rights c)) ++ items) later
      by false is later =
          later ∙ ap (λ items. items ++ flat_map gives (filled_by_all types preds candidates (map (left_choice lefts rights) choices)))
          (sym (sifts.1 preds c (All-head (λ (ch : Choice). length ch.bits ≡ lefts * rights) c choices wide) is))

-- what holds of the fillings of all choices does so of those of some
pub accepted_of : (P : Filled → Type 0) (types : List ColType) (preds : List Pred) (candidates : List Row) (p : Choice → Bool) (choices : List Choice)
    → All P (filled_by_all types preds candidates choices) → All P (filled_by_all types preds candidates (filter p choices))
accepted_of P types preds candidates p [] all = all
accepted_of P types preds candidates p (c ∷ choices) all =
    by (p c) (accepted_of P types preds candidates p choices (All-tail P (filled_by types preds candidates c) (filled_by_all types preds candidates choices) all))
  where
    by : (b : Bool) → All P (filled_by_all types preds candidates (filter p choices)) → All P (filled_by_all types preds candidates (if b then c ∷ filter p choices else filter p choices))
    by true later =
        All-cons P (filled_by types preds candidates c) (filled_by_all types preds candidates (filter p choices))
        (All-head P (filled_by types preds candidates c) (filled_by_all types preds candidates choices) all) later
    by false later = later

pub accepted_pairs : (P : Filled → Type 0) (types : List ColType) (preds : List Pred) (candidates : List Row) (lefts rights : ℕ) (p : Choice → Bool) (choices : List Choice)
    → All P (filled_by_all types preds candidates (map (left_choice lefts rights) choices)) → All P (filled_by_all types preds candidates (map (left_choice lefts rights) (filter p choices)))
accepted_pairs P types preds candidates lefts rights p [] all = all
accepted_pairs P types preds candidates lefts rights p (c ∷ choices) all =
    by (p c) (accepted_pairs P types preds candidates lefts rights p choices (All-tail P (filled_by types preds candidates (left_choice lefts rights c)) (filled_by_all types preds candidates (map (left_choice lefts rights) choices)) all))
  where
    by : (b : Bool) → All P (filled_by_all types preds candidates (map (left_choice lefts rights) (filter p choices)))
        → All P (filled_by_all types preds candidates (map (left_choice lefts rights) (if b then c ∷ filter p choices else filter p choices)))
    by true later =
        All-cons P (filled_by types preds candidates (left_choice lefts rights c)) (filled_by_all types preds candidates (map (left_choice lefts rights) (filter p choices)))
        (All-head P (filled_by types preds candidates (left_choice lefts rights c)) (filled_by_all types preds candidates (map (left_choice lefts rights) choices)) all) later
    by false later = later

-- ---- the joins and the filters of one combination

module _ (task : TaskParts) (types : List ColType) (preds : List Pred) (candidates : List Row) (may : joins.Join → List Bool → Bool) (offered : List Choice) where
  module _ (a b : Filled) (is_types : types ≡ a.types ++ b.types) (is_preds : preds ≡ a.preds ++ b.preds) (is_candidates : candidates ≡ crossed a.rows b.rows) (are : offered ≡ filter (is_wanted may) (hole_choices task types candidates)) where
    all_joins : filled_by_all types preds candidates (hole_choices task types candidates) ≡ filled_pairs task Join a b
    all_joins = joins_of task a b types preds candidates (hole_choices task types candidates) is_types is_preds is_candidates refl

    pub joins_alike : {Item : Type 0} (gives : Filled → List Item) → Sifts gives types candidates may → flat_map gives (filled_by_all types preds candidates offered) ≡ flat_map gives (filled_pairs task Join a b)
    joins_alike gives sifts =
        ap (λ cs. flat_map gives (filled_by_all types preds candidates cs)) are
        ∙ sifted gives types preds candidates may sifts (hole_choices task types candidates) (hole_wide task types candidates)
        ∙ ap (flat_map gives) all_joins

    pub joins_accepted : (P : Filled → Type 0) → All P (filled_pairs task Join a b) → All P (filled_by_all types preds candidates offered)
    joins_accepted P all =
        subst (λ cs. All P (filled_by_all types preds candidates cs)) (sym are)
        (accepted_of P types preds candidates (is_wanted may) (hole_choices task types candidates) (All-same P _ _ all_joins all))

  -- the choices of a hole have a bit for each candidate
  pub offered_wide : offered ≡ filter (is_wanted may) (hole_choices task types candidates) → All (λ c. length c.bits ≡ length candidates) offered
  offered_wide are = subst (All (λ (c : Choice). length c.bits ≡ length candidates)) (sym are) (All-filter (is_wanted may) (λ c. length c.bits ≡ length candidates) (hole_choices task types candidates) (hole_wide task types candidates))

  module _ (are : offered ≡ filter drops_some (filter (is_wanted may) (hole_choices task types candidates))) where
    swapped : offered ≡ filter (is_wanted may) (filter drops_some (hole_choices task types candidates))
    swapped = are ∙ filter_swap drops_some (is_wanted may) (hole_choices task types candidates)

    pub filters_alike : {Item : Type 0} (gives : Filled → List Item) → Sifts gives types candidates may
        → flat_map gives (filled_by_all types preds candidates offered) ≡ flat_map gives (filled_filters task (record { types = types; preds = preds; rows = candidates }))
    filters_alike gives sifts =
        ap (λ cs. flat_map gives (filled_by_all types preds candidates cs)) swapped
        ∙ sifted gives types preds candidates may sifts (filter drops_some (hole_choices task types candidates)) (filters_wide task types candidates)
        ∙ ap (flat_map gives) (filters_are task types preds candidates)

    pub filters_accepted : (P : Filled → Type 0) → All P (filled_filters task (record { types = types; preds = preds; rows = candidates })) → All P (filled_by_all types preds candidates offered)
    filters_accepted P all =
        subst (λ cs. All P (filled_by_all types preds candidates cs)) (sym swapped)
        (accepted_of P types preds candidates (is_wanted may) (filter drops_some (hole_choices task types candidates)) (All-same P _ _ (filters_are task types preds candidates) all))

    pub filters_offered_wide : All (λ c. length c.bits ≡ length candidates) offered
    filters_offered_wide = subst (All (λ (c : Choice). length c.bits ≡ length candidates)) (sym swapped) (All-filter (is_wanted may) (λ c. length c.bits ≡ length candidates) (filter drops_some (hole_choices task types candidates)) (filters_wide task types candidates))

-- ---- what a hole offered, told of equal parts

-- choices of a hole are those of an equal one
pub same_hole : (p : Choice → Bool) (offered : List Choice) (task own : TaskParts) (types its : List ColType) (candidates rows : List Row)
    → offered ≡ filter p (hole_choices task types candidates) → task ≡ own → types ≡ its → candidates ≡ rows → offered ≡ filter p (hole_choices own its rows)
same_hole p offered task own types its candidates rows are is_task is_types is_rows =
    are ∙ ap (λ t. filter p (hole_choices t types candidates)) is_task ∙ ap (λ ts. filter p (hole_choices own ts candidates)) is_types ∙ ap (λ cs. filter p (hole_choices own its cs)) is_rows

-- what sifts the choices of some candidates does so of equal ones, where it was found
pub sifts_there : {Item Findings : Type 0} (gives : Filled → List Item) (types : List ColType) (candidates rows : List Row) (may : Findings → joins.Join → List Bool → Bool) (found : Option Findings) (findings : Findings)
    → IfSome found (λ f. Sifts gives types candidates (may f)) → found ≡ Some findings → candidates ≡ rows → Sifts gives types rows (may findings)
sifts_there gives types candidates rows may found findings sifts is is_rows =
    subst (λ cs. Sifts gives types cs (may findings)) is_rows (subst (λ o. IfSome o (λ f. Sifts gives types candidates (may f))) is sifts)

-- an entry is the filling of its predicates and rows
pub same_entry : (types : List ColType) (e : Entry) (preds : List Pred) (rows : List Row) → preds ≡ e.preds → rows ≡ e.rows → record { types = types; preds = preds; rows = rows } ≡ entry_filled types e
same_entry types e preds rows is_preds is_rows =
    ap (λ ps. let f : Filled = record { types = types; preds = ps; rows = rows } in f) is_preds ∙ ap (λ rs. let f : Filled = record { types = types; preds = e.preds; rows = rs } in f) is_rows

-- ---- the left joins of one combination

module _ (task : TaskParts) (types : List ColType) (preds : List Pred) (candidates : List Row) (may : joins.Join → List Bool → Bool) (offered : List Choice) (a b : Filled)
    (is_types : types ≡ a.types ++ b.types) (is_preds : preds ≡ a.preds ++ b.preds) (is_candidates : candidates ≡ crossed_and_padded (length b.types) a.rows b.rows)
    (are : offered ≡ map (left_choice (length a.rows) (length b.rows)) (filter (is_wanted may) (hole_choices task types (crossed a.rows b.rows)))) where
  abbrev hole : List Choice
  hole = hole_choices task types (crossed a.rows b.rows)

  all_left : filled_by_all types preds candidates (map (left_choice (length a.rows) (length b.rows)) hole) ≡ filled_pairs task Left a b
  all_left = left_joins_of task a b types preds candidates (map (left_choice (length a.rows) (length b.rows)) hole) is_types is_preds is_candidates refl

  pub left_alike : {Item : Type 0} (gives : Filled → List Item) → SiftsPairs gives types candidates (length a.rows) (length b.rows) may → flat_map gives (filled_by_all types preds candidates offered) ≡ flat_map gives (filled_pairs task Left a b)
  left_alike gives sifts =
      ap (λ cs. flat_map gives (filled_by_all types preds candidates cs)) are
      ∙ pairs_sifted gives types preds candidates (length a.rows) (length b.rows) may sifts hole (pairs_wide task types a.rows b.rows)
      ∙ ap (flat_map gives) all_left

  pub left_accepted : (P : Filled → Type 0) → All P (filled_pairs task Left a b) → All P (filled_by_all types preds candidates offered)
  left_accepted P all =
      subst (λ cs. All P (filled_by_all types preds candidates cs)) (sym are)
      (accepted_pairs P types preds candidates (length a.rows) (length b.rows) (is_wanted may) hole (All-same P _ _ all_left all))

  pub left_wide : All (λ c. length c.bits ≡ length candidates) offered
  left_wide =
      let cs = filter (is_wanted may) hole in
      let pairs = All-filter (is_wanted may) (λ c. length c.bits ≡ length a.rows * length b.rows) hole (pairs_wide task types a.rows b.rows) in
      subst (All (λ (c : Choice). length c.bits ≡ length candidates)) (sym are)
      (All-map (λ (c : Choice). length c.bits ≡ length candidates) (left_choice (length a.rows) (length b.rows)) cs
      (All-weaker (λ (c : Choice). length c.bits ≡ length a.rows * length b.rows) (λ c. length (with_alone (length a.rows) (length b.rows) c.bits) ≡ length candidates)
      (λ c same. length_with_alone (length a.rows) (length b.rows) c.bits same ∙ sym (ap length is_candidates ∙ length_padded (length b.types) a.rows b.rows)) cs pairs))

-- what sifts pairs does so of equal ones
pub pairs_there : {Item : Type 0} (gives : Filled → List Item) (types : List ColType) (candidates rows : List Row) (lefts rights l r : ℕ) (may : joins.Join → List Bool → Bool)
    → SiftsPairs gives types candidates lefts rights may → candidates ≡ rows → lefts ≡ l → rights ≡ r → SiftsPairs gives types rows l r may
pairs_there gives types candidates rows lefts rights l r may sifts is_rows is_left is_right =
    subst (λ n. SiftsPairs gives types rows l n may) is_right (subst (λ n. SiftsPairs gives types rows n rights may) is_left (subst (λ cs. SiftsPairs gives types cs lefts rights may) is_rows sifts))

-- the choices of pairs have a bit for each
pub pairs_offered_wide : (p : Choice → Bool) (offered : List Choice) (task : TaskParts) (types : List ColType) (lefts rights : List Row)
    → offered ≡ filter p (hole_choices task types (crossed lefts rights)) → All (λ c. length c.bits ≡ length lefts * length rights) offered
pairs_offered_wide p offered task types lefts rights are =
    subst (All (λ (c : Choice). length c.bits ≡ length lefts * length rights)) (sym are)
    (All-filter p (λ c. length c.bits ≡ length lefts * length rights) (hole_choices task types (crossed lefts rights)) (pairs_wide task types lefts rights))

-- what was found out, where it was
pub found_there : {Findings : Type 0} (P : Findings → Type 0) (found : Option Findings) (findings : Findings) → IfSome found P → found ≡ Some findings → P findings
found_there P found findings holds is = subst (λ o. IfSome o P) is holds

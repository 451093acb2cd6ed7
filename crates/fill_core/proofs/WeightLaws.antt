-- What fillings weigh.
use Rattle.std.proofs.Common.{◌≡◌, refl, sym, ap, ◌∙◌, ℕ, ◌+◌, ◌<◌, arith, drop, get_or, List, [], ◌∷◌, ◌++◌, length, Option}
use Rattle.std.specs.List.{flat_map, sum_by}
use Rattle.std.proofs.lemmas.List.{at_drop_more}
use Rattle.std.proofs.lemmas.List.Sums.{sum_by-append, sum_by-cons}
use Rattle.value_core.specs.declared.value.ColType.{ColType}
use Rattle.predicate_core.specs.declared.pred.Pred.{Pred}
use Rattle.table_core.specs.Rows.{Row as Tuple}
use Rattle.table_core.specs.declared.task.TaskParts.{TaskParts}
use Rattle.query_core.specs.Tree.{Tree}
use Rattle.fill_core.specs.Bounds.{Leaves, Passes}
use Rattle.fill_core.specs.Offers.{filled_by, filled_by_all, TooMuch}
use Rattle.fill_core.specs.declared.choice.Choice.{Choice}
use Rattle.fill_core.specs.declared.fillings.Entry.{Entry}
use Rattle.fill_core.specs.declared.fillings.Fillings.{Fillings}
use Rattle.fill_core.specs.View.{entry_filled, entries_filled, filled_weight, entries_weight, AreFillingsOf, weight, weight_of}
use Rattle.fill_core.proofs.BoundLaws.{passes_left, passes_more}
use Rattle.fill_core.proofs.SiteLaws.{singles}

-- entries weigh what their fillings do
pub entries_weigh : (types : List ColType) (entries : List Entry) → entries_weight entries ≡ sum_by filled_weight (entries_filled types entries)
entries_weigh types [] = refl
entries_weigh types (e ∷ entries) =
    sum_by-cons (λ (x : Entry). length x.rows + 1) e entries
    ∙ ap (λ n. (length e.rows + 1) + n) (entries_weigh types entries)
    ∙ sym (sum_by-cons filled_weight (entry_filled types e) (entries_filled types entries))

-- the fillings of a skeleton weigh what the skeleton does
pub weight_is : (task : TaskParts) (skeleton : Tree) (row : Fillings) → AreFillingsOf task skeleton row → weight row ≡ weight_of task skeleton
weight_is task skeleton row is = entries_weigh row.types row.entries ∙ ap (sum_by filled_weight) is.0

module _ (types : List ColType) (preds : List Pred) (candidates : List Tuple) where
  -- the filling of one choice, and those behind it
  next_filled : (choices : List Choice) (i : ℕ) (c : Choice) → i < length choices → c ≡ get_or choices i c
      → filled_by_all types preds candidates (drop i choices) ≡ filled_by types preds candidates c ∷ filled_by_all types preds candidates (drop (i + 1) choices)
  next_filled choices i c within is =
      at_drop_more (filled_by_all types preds candidates) choices i c within ∙ ap (λ x. filled_by types preds candidates x ∷ filled_by_all types preds candidates (drop (i + 1) choices)) (sym is)

  -- where an entry passes what is left of a keeper's bound, all choices are too much for it
  pub kept_too_much : (bound left : Option ℕ) (own : List ColType) (choices : List Choice) (before now : List Entry) (i : ℕ) (c : Choice) (e : Entry) → types ≡ own
      → i < length choices → c ≡ get_or choices i c → entry_filled types e ≡ filled_by types preds candidates c
      → entries_filled types now ++ filled_by_all types preds candidates (drop i choices) ≡ entries_filled types before ++ filled_by_all types preds candidates choices
      → Leaves bound left (entries_weight now) → Passes left (length e.rows + 1)
      → TooMuch bound filled_weight (λ f. f ∷ []) (entries_filled own before) (filled_by_all types preds candidates choices)
  kept_too_much bound left own choices before now i c e same within is made so_far leaves passes =
      let rest = filled_by_all types preds candidates (drop (i + 1) choices) in
      let all : sum_by filled_weight (entries_filled own before ++ flat_map (λ f. f ∷ []) (filled_by_all types preds candidates choices)) ≡ sum_by filled_weight (entries_filled types now ++ filled_by types preds candidates c ∷ rest) =
      ap (λ fs. sum_by filled_weight (entries_filled own before ++ fs)) (singles (filled_by_all types preds candidates choices))
      ∙ ap (λ ts. sum_by filled_weight (entries_filled ts before ++ filled_by_all types preds candidates choices)) (sym same)
      ∙ ap (sum_by filled_weight) (sym so_far)
      ∙ ap (λ fs. sum_by filled_weight (entries_filled types now ++ fs)) (next_filled choices i c within is) in
      let parts = sum_by-append filled_weight (entries_filled types now) (filled_by types preds candidates c ∷ rest) in
      let one = sum_by-cons filled_weight (filled_by types preds candidates c) rest in
      let heavy : length e.rows + 1 ≡ filled_weight (filled_by types preds candidates c) = ap filled_weight made in
      let kept = entries_weigh types now in
      passes_more bound (entries_weight now + (length e.rows + 1)) _ (omega (arith, all, parts, one, heavy, kept)) (passes_left bound left (entries_weight now) (length e.rows + 1) leaves passes)

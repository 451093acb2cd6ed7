-- Answers that are together more than a bound.
use Rattle.std.proofs.Common.{◌≡◌, refl, sym, ap, subst, ◌∙◌, ℕ, ◌+◌, ◌<◌, arith, append_assoc, drop, get_or, length, List, [], ◌∷◌, ◌++◌, Option}
use Rattle.std.specs.Prelude.{All}
use Rattle.std.specs.List.{flat_map, sum_by}
use Rattle.std.proofs.lemmas.List.{at_drop_more, length-append}
use Rattle.std.proofs.lemmas.List.Sums.{sum_by-cons}
use Rattle.value_core.specs.declared.value.ColType.{ColType}
use Rattle.predicate_core.specs.declared.pred.Pred.{Pred}
use Rattle.table_core.specs.Rows.{Row}
use Rattle.table_core.specs.declared.task.TaskParts.{TaskParts}
use Rattle.query_core.specs.Answers.{RankedQuery}
use Rattle.query_core.specs.Filled.{Filled}
use Rattle.query_core.specs.Tree.{Tree}
use Rattle.fill_core.specs.Bounds.{Passes}
use Rattle.fill_core.specs.Offers.{filled_by_all, TooMuch}
use Rattle.fill_core.specs.declared.choice.Choice.{Choice}
use Rattle.fill_core.proofs.BoundLaws.{passes_more}
use Rattle.map_walk.specs.declared.target.Reading.{Reading}
use Rattle.root_search.specs.Answers.{answers_on, TooMany}
use Rattle.root_search.specs.Reads.{choice_answers}
use Rattle.root_search.specs.Readings.{readings}
use Rattle.root_search.proofs.ReadLaws.{choices_are_read}

-- each answer counts one
ones_count : (xs : List RankedQuery) → sum_by (λ (r : RankedQuery). 1) xs ≡ length xs
ones_count [] = refl
ones_count (x ∷ xs) = let one = sum_by-cons (λ (r : RankedQuery). 1) x xs in let rest = ones_count xs in omega (arith, one, rest)

module _ (bound : Option ℕ) where
  -- too many are so with more behind them
  pub too_many_more : (found front back : List RankedQuery) → TooMany bound found front → TooMany bound found (front ++ back)
  too_many_more found front back many =
      let whole = ap length (sym (append_assoc found front back)) ∙ length-append (found ++ front) back in
      passes_more bound (length (found ++ front)) (length (found ++ (front ++ back))) (omega (arith, whole)) many

  -- and where some of them were found before
  pub too_many_before : (found front back now : List RankedQuery) → now ≡ found ++ front → TooMany bound now back → TooMany bound found (front ++ back)
  too_many_before found front back now is many = subst (λ items. Passes bound (length items)) (ap (λ items. items ++ back) is ∙ append_assoc found front back) many

  -- too many of one element are so of all
  pub too_many_at : {X : Type 0} (f : X → List RankedQuery) (now before : List RankedQuery) (xs : List X) (i : ℕ) (x : X)
      → i < length xs → x ≡ get_or xs i x → now ++ flat_map f (drop i xs) ≡ before ++ flat_map f xs → TooMany bound now (f x) → TooMany bound before (flat_map f xs)
  too_many_at f now before xs i x within is so_far many =
      let here : f x ++ flat_map f (drop (i + 1) xs) ≡ flat_map f (drop i xs) = ap (λ y. f y ++ flat_map f (drop (i + 1) xs)) is ∙ sym (at_drop_more (flat_map f) xs i x within) in
      subst (λ items. Passes bound (length items)) (ap (λ items. now ++ items) here ∙ so_far) (too_many_more now (f x) (flat_map f (drop (i + 1) xs)) many)

  module _ (task : TaskParts) (n : ℕ) (skeleton : Tree) (found : List RankedQuery) where
    -- what is too much by the count of answers is too many
    pub too_many_of : (given wanted : List Filled) → given ≡ wanted → TooMuch bound (λ (r : RankedQuery). 1) (answers_on task n skeleton) found given → TooMany bound found (flat_map (answers_on task n skeleton) wanted)
    too_many_of given wanted same much =
        subst (Passes bound) (ones_count (found ++ flat_map (answers_on task n skeleton) given) ∙ ap (λ fs. length (found ++ flat_map (answers_on task n skeleton) fs)) same) much

    -- the other way round, for the choices of an offer
    pub too_much_read : (types : List ColType) (parts : List Pred) (candidates : List Row) (choices : List Choice) (rs : List Reading) → rs ≡ readings types candidates task.output → All (λ c. length c.bits ≡ length candidates) choices
        → TooMany bound found (flat_map (choice_answers task n skeleton parts rs) choices) → TooMuch bound (λ (r : RankedQuery). 1) (answers_on task n skeleton) found (filled_by_all types parts candidates choices)
    too_much_read types parts candidates choices rs is wide many =
        let same = ap (λ xs. flat_map (choice_answers task n skeleton parts xs) choices) is ∙ choices_are_read task n skeleton types parts candidates choices wide in
        let given = flat_map (answers_on task n skeleton) (filled_by_all types parts candidates choices) in
        subst (Passes bound) (ap (λ items. length (found ++ items)) same ∙ sym (ones_count (found ++ given))) many

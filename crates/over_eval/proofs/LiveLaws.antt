-- A skeleton that isn't live has no answer.
use Rattle.std.proofs.Common.{◌≡◌, refl, sym, ap, ◌∙◌, subst, ℕ, ◌≤◌, Bool, true, false, ◌==◌, nat_le, inl, inr, List, [], ◌∷◌, ◌++◌, length, Option, Some, None, option_map, arith}
use Rattle.std.specs.Prelude.{filter, flat_map}
use Rattle.std.specs.List.{enumerate_from}
use Rattle.std.proofs.lemmas.Bool.{cases_Bool, cond_both, and_parts, eqb-true, le-leb, false≢true, false_from_ne_true}
use Rattle.std.proofs.lemmas.List.Sums.{length-filter}
use Rattle.std.proofs.lemmas.List.Elements.{filter-append}
use Rattle.value_core.specs.declared.value.ColType.{ColType}
use Rattle.predicate_core.proofs.OnceLists.{In, in_map}
use Rattle.table_core.specs.Rows.{Row, types_of}
use Rattle.table_core.specs.Bag.{same_cells, count, same_rows}
use Rattle.table_core.specs.declared.task.TaskParts.{TaskParts}
use Rattle.table_core.proofs.BagLaws.{same_cells_decides}
use Rattle.query_core.specs.Tree.{Tree, Select}
use Rattle.query_core.specs.Firsts.{projected, firsts}
use Rattle.query_core.specs.Meaning.{columns, rows, selected, given_rows, given}
use Rattle.query_core.specs.Grammar.{Numbered, skeletons, fillings, maps, queries_of, numbered}
use Rattle.query_core.specs.Standard.{is_standard}
use Rattle.query_core.specs.Answers.{are_output, gives, is_answer}
use Rattle.query_laws.proofs.MemberLaws.{in_back}
use Rattle.query_laws.proofs.AscendingLists.{of_all, all_of}
use Rattle.query_laws.proofs.QueryLaws.{opened_fillings, in_queries_of}
use Rattle.query_laws.proofs.StandardFillingLaws.{columns_opened}
use Rattle.over_eval.specs.Over.{AbsRow, cells_at}
use Rattle.over_eval.specs.Live.{covers_row, covering, can_serve, serves_by, live}
use Rattle.over_eval.specs.Placed.{Placed}
use Rattle.over_eval.specs.Laws.{IsCovered, AreCovered, OnlyLiveAnswer, AnswersOfLive}
use Rattle.over_eval.proofs.PlacedLaws.{part_places, placed_from, placed_filter, placed_length}
use Rattle.over_eval.proofs.StepLaws.{covered_picks, firsts_placed}
use Rattle.over_eval.proofs.AggregateLaws.{any_by}
use Rattle.over_eval.proofs.CoverLaws.{filling_covered}

-- a row is covered by these columns of an abstract row
abbrev CoveredAt : List ℕ → Row → AbsRow → Type 0
CoveredAt picks row cells = IsCovered row (cells_at picks cells)

-- the rows that a map gives of rows that are covered
given_placed : (picks : List ℕ) (distinct : Bool) (body : List Row) (abstract : List AbsRow) → AreCovered body abstract → Placed (CoveredAt picks) (given_rows picks distinct body) abstract
given_placed picks distinct body abstract h =
    let every : Placed (CoveredAt picks) (selected picks body) abstract = placed_from IsCovered (CoveredAt picks) (projected picks) (λ row cells e. covered_picks picks cells row e) body abstract h in
    cond_both distinct (firsts (selected picks body)) (selected picks body) (λ out. Placed (CoveredAt picks) out abstract)
    (λ e. part_places (CoveredAt picks) (firsts (selected picks body)) (selected picks body) abstract (firsts_placed (selected picks body)) every)
    (λ e. every)

-- a row has no more copies than there are abstract rows that cover it
copies_covered : (picks : List ℕ) (out : List Row) (abstract : List AbsRow) (row : Row) → Placed (CoveredAt picks) out abstract → count out row ≤ covering picks abstract row
copies_covered picks out abstract row h =
    let is_row : Row → Bool = λ r. same_cells r row in
    let covers_it : AbsRow → Bool = λ cells. covers_row (cells_at picks cells) row in
    let most = placed_length (CoveredAt picks) (filter is_row out) (filter covers_it abstract)
    (placed_filter (CoveredAt picks) is_row covers_it (λ r cells e is. subst (λ (z : Row). covers_row (cells_at picks cells) z ≡ true) ((same_cells_decides r row).0 is) e) out abstract h) in
    let copies = length-filter is_row out in
    let covering_rows = length-filter covers_it abstract in
    omega (arith, most, copies, covering_rows)

-- rows that are one bag have each row of the second as often
bag_copies : (xs ys : List Row) (y : Row) → same_rows xs ys ≡ true → In y ys → count xs y ≡ count ys y
bag_copies xs ys y bag i = eqb-true (count xs y) (count ys y) (of_all (λ r. count xs r == count ys r) y (xs ++ ys) bag (in_back y xs ys i))

-- abstract rows that cover what gives an output can serve it
can_serve_given : (picks : List ℕ) (out output : List Row) (abstract : List AbsRow) → Placed (CoveredAt picks) out abstract → same_rows out output ≡ true → can_serve abstract output picks ≡ true
can_serve_given picks out output abstract h bag =
    all_of (λ row. nat_le (count output row) (covering picks abstract row)) output (λ row i.
    let same_count = bag_copies out output row bag i in
    let most = copies_covered picks out abstract row h in
    le-leb (count output row) (covering picks abstract row) (omega (arith, same_count, most)))

-- a query that gives the output has rows, and they are the output's
giving_rows : (task : TaskParts) (q : Select) (o : Option (List Row)) → are_output task q (option_map (given q) o) ≡ true → (body : List Row) × (o ≡ Some body) × (same_rows (given q body) task.output.rows ≡ true)
giving_rows task q None e = absurd (false≢true e)
giving_rows task q (Some body) e = (body, refl, (and_parts (length q.picks == length task.output.columns) (same_rows (given q body) task.output.rows) e).1)

-- what fills a skeleton has its columns
filling_columns : (task : TaskParts) (skeleton body : Tree) → In body (fillings task skeleton) → columns task.inputs body ≡ columns task.inputs skeleton
filling_columns task skeleton body i = sym (columns_opened task body) ∙ ap (columns task.inputs) (opened_fillings task skeleton body i) ∙ columns_opened task skeleton

-- a skeleton with a query that gives the output is live
giving_live : (task : TaskParts) (skeleton : Tree) (q : Select) → In q (queries_of task skeleton) → gives task q ≡ true → live task skeleton ≡ true
giving_live task skeleton q i e =
    let of = in_queries_of task skeleton q i in
    let h = giving_rows task q (rows task.inputs task.constants q.body) e in
    let serving = filling_covered task skeleton q.body h.0 of.0 h.1 in
    let picked : List ColType → List (List ℕ) = λ types. maps types (types_of task.output) in
    let listed : In q.picks (picked (columns task.inputs skeleton)) =
    subst (λ (types : List ColType). In q.picks (maps types (types_of task.output))) (filling_columns task skeleton q.body of.0) of.1 in
    let served = can_serve_given q.picks (given q h.0) task.output.rows serving.0 (given_placed q.picks q.distinct h.0 serving.0 serving.2) h.2 in
    ap (serves_by (picked (columns task.inputs skeleton)) task.output.rows) serving.1
    ∙ any_by (can_serve serving.0 task.output.rows) q.picks (picked (columns task.inputs skeleton)) listed served

-- where no element passes a test, none is kept
none_kept : {X : Type 0} (p : X → Bool) (xs : List X) → ((x : X) → In x xs → p x ≡ false) → filter p xs ≡ []
none_kept p [] none = refl
none_kept p (x ∷ xs) none = rw (none x (inl refl)) (none_kept p xs (λ y i. none y (inr i)))

-- the law of one skeleton
pub only_live_answer : (task : TaskParts) → OnlyLiveAnswer task
only_live_answer task n skeleton dead =
    let make : Select → Numbered = λ q. record { skeleton = n; query = q } in
    none_kept (is_answer task) (numbered task (n, skeleton)) (λ m i.
    let h = in_map make m (queries_of task skeleton) i in
    false_from_ne_true (is_answer task m) (λ e.
    let both = and_parts (is_standard task m.query) (gives task m.query) e in
    let given_out : gives task h.0 ≡ true = ap (gives task) (sym (ap (λ k. k.query) h.2)) ∙ both.1 in
    false≢true (sym dead ∙ giving_live task skeleton h.0 h.1 given_out)))

-- where the elements that fail a test give nothing, those that pass it give all
of_passing : {X Y : Type 0} (p : Y → Bool) (f : X → List Y) (q : X → Bool) → ((x : X) → q x ≡ false → filter p (f x) ≡ [])
    → (xs : List X) → filter p (flat_map f xs) ≡ filter p (flat_map f (filter q xs))
of_passing p f q none [] = refl
of_passing p f q none (x ∷ xs) =
    let rest = of_passing p f q none xs in
    elim (cases_Bool (q x)) [
      | inl passes ↦ filter-append p (f x) (flat_map f xs) ∙ ap (λ t. filter p (f x) ++ t) rest ∙ sym (filter-append p (f x) (flat_map f (filter q xs))) ∙ rw passes refl
      | inr fails ↦ filter-append p (f x) (flat_map f xs) ∙ ap (λ t. t ++ filter p (flat_map f xs)) (none x fails) ∙ rest ∙ rw fails refl
    ]

-- the law of all skeletons
pub answers_of_live : (task : TaskParts) → AnswersOfLive task
answers_of_live task =
    of_passing (is_answer task) (numbered task) (λ s. live task s.1) (λ s dead. only_live_answer task s.0 s.1 dead) (enumerate_from 0 (skeletons task))

-- Laws of a search of a plan: the rows that it keeps are those of its nodes' parts, and what they cost.
use Rattle.std.proofs.Common.{◌≡◌, ℕ, ◌+◌, ◌<◌, ◌≤◌, arith, zero, suc, get_or, replicate, map, true, false, true≢false, Bool, is_some, List, [], ◌∷◌, ◌++◌, length, set, take, Option, Some, None, refl, sym, ap, ap₂, subst, ◌∙◌, ◌⊎◌, inl, inr}
use Rattle.std.specs.Prelude.{slice_get, option_and_then}
use Rattle.std.specs.List.{flat_map, sum_by}
use Rattle.std.proofs.lemmas.Bool.{false≢true}
use Rattle.std.proofs.lemmas.List.{append-nil, take_more}
use Rattle.std.proofs.lemmas.List.Concat.{flat_map-append, length-flat_map}
use Rattle.std.proofs.lemmas.List.Sums.{sum_by_more, sum_by-take-le, get_or-le-sum_by}
use Rattle.std.proofs.lemmas.Option.{same_Some, none-some, slice_get_within, get_or_from_slice_get}
use Rattle.predicate_core.proofs.OnceLists.{In, in_append}
use Rattle.table_core.specs.declared.task.TaskParts.{TaskParts}
use Rattle.query_laws.proofs.ListLaws.{contains_in, in_contains}
use Rattle.query_laws.proofs.MemberLaws.{in_front, map_in}
use Rattle.query_core.specs.Answers.{RankedQuery, ascending, comes_before}
use Rattle.query_core.specs.Tree.{Tree}
use Rattle.rank_core.proofs.MergeLaws.{ascending_parts, ordered_ascends, queries_order}
use Rattle.skeleton_graph.specs.Nodes.{left_of, right_of}
use Rattle.skeleton_graph.specs.declared.node.SkelNode.{SkelNode}
use Rattle.fill_core.specs.Fits.{RowData, fits, FitsChild, FitBelow}
use Rattle.fill_core.specs.Plans.{PlanData, inner_of, jobs_of, node_of, ChildrenAreInner, PartsComeFirst}
use Rattle.fill_core.specs.declared.end.FillEnd.{FillEnd}
use Rattle.fill_core.specs.declared.end.FillEnd.TheVariants as end
use Rattle.fill_core.specs.declared.job.Job.{Job}
use Rattle.fill_core.specs.declared.job.Job.TheVariants.{Inner, Root}
use Rattle.root_search.proofs.HitLaws.{ascending_size}
use Rattle.top_call.specs.Search.{part_cost, search_end, kept_row, AreKept, ChildrenKept, FilledAreKept, IsKept}
use Rattle.top_call.specs.declared.search.SearchEnd.TheVariants.{OverBudget}

-- what is kept of a node fits it
kept_fits : (plan : PlanData) (rows : List (Option RowData)) (k : ℕ) → AreKept plan rows → IsKept rows k → FitsChild plan (Some k) (kept_row rows (Some k))
kept_fits plan rows k kept there = at (slice_get rows k) refl there
  where
    at : (found : Option (Option RowData)) → slice_get rows k ≡ found → is_some (option_and_then (λ (row : Option RowData). row) found) ≡ true → FitsChild plan (Some k) (option_and_then (λ (row : Option RowData). row) found)
    at None is some = absurd (false≢true some)
    at (Some None) is some = absurd (false≢true some)
    at (Some (Some row)) is some = kept k row is

child_fits : (plan : PlanData) (rows : List (Option RowData)) (child : Option ℕ) → AreKept plan rows → ((c : ℕ) → child ≡ Some c → IsKept rows c) → FitsChild plan child (kept_row rows child)
child_fits plan rows None kept each = tt
child_fits plan rows (Some c) kept each = kept_fits plan rows c kept (each c refl)

-- the rows that are kept of a node's children fit below it
pub below_kept : (plan : PlanData) (rows : List (Option RowData)) (k : ℕ) (node : SkelNode) (left right : Option RowData) → AreKept plan rows → ChildrenKept plan.graph.nodes rows k → slice_get plan.graph.nodes k ≡ Some node
    → left ≡ kept_row rows node.left → right ≡ kept_row rows node.right → FitBelow plan k left right
below_kept plan rows k node left right kept children is is_left is_right =
    let nodes = plan.graph.nodes in
    let lefts : left ≡ kept_row rows (left_of nodes k) = is_left ∙ ap (kept_row rows) (sym (ap (option_and_then (λ (n : SkelNode). n.left)) is)) in
    let rights : right ≡ kept_row rows (right_of nodes k) = is_right ∙ ap (kept_row rows) (sym (ap (option_and_then (λ (n : SkelNode). n.right)) is)) in (
      subst (FitsChild plan (left_of nodes k)) (sym lefts) (child_fits plan rows (left_of nodes k) kept (λ c e. children c (inl e))),
      subst (FitsChild plan (right_of nodes k)) (sym rights) (child_fits plan rows (right_of nodes k) kept (λ c e. children c (inr e))),
    )

-- an element of a list of which one is set is that one, or was there
set_was : {X : Type 0} (xs : List X) (k j : ℕ) (x y : X) → slice_get (set xs k x) j ≡ Some y → ((j ≡ k) × (x ≡ y)) ⊎ (slice_get xs j ≡ Some y)
set_was [] k j x y is = inr is
set_was (z ∷ xs) zero zero x y is = inl (refl, same_Some x y is)
set_was (z ∷ xs) zero (suc j) x y is = inr is
set_was (z ∷ xs) (suc k) zero x y is = inr is
set_was (z ∷ xs) (suc k) (suc j) x y is = elim (set_was xs k j x y is) [ inl e ↦ inl (ap suc e.0, e.1) | inr was ↦ inr was ]

-- a row that is put in its place is kept, and all that were kept are
pub put_is : (rows : List (Option RowData)) (k : ℕ) (row : RowData) → k < length rows → IsKept (set rows k (Some row)) k
put_is [] k row below = absurd (let no : ⊥ = omega (arith, below) in no)
put_is (x ∷ rows) zero row below = refl
put_is (x ∷ rows) (suc k) row below = put_is rows k row (omega (arith, below))

pub put_still : (rows : List (Option RowData)) (k j : ℕ) (row : RowData) → IsKept rows j → IsKept (set rows k (Some row)) j
put_still [] k j row was = was
put_still (x ∷ rows) zero zero row was = refl
put_still (x ∷ rows) zero (suc j) row was = was
put_still (x ∷ rows) (suc k) zero row was = was
put_still (x ∷ rows) (suc k) (suc j) row was = put_still rows k j row was

pub put_kept : (plan : PlanData) (rows : List (Option RowData)) (k : ℕ) (row : RowData) → AreKept plan rows → fits row plan k ≡ true → AreKept plan (set rows k (Some row))
put_kept plan rows k row kept is =
    λ j there found.
    elim (set_was rows k j (Some row) (Some there) found) [
      | inl h ↦ subst (λ n. fits there plan n ≡ true) (sym h.0) (subst (λ (r : RowData). fits r plan k ≡ true) (same_Some row there h.1) is)
      | inr was ↦ kept j there was
    ]

-- the children of a job's node are kept, where what was filled before is
pub children_kept : (nodes : List SkelNode) (jobs : List Job) (rows : List (Option RowData)) (i : ℕ) (job : Job) → PartsComeFirst nodes jobs → slice_get jobs i ≡ Some job → FilledAreKept (take i jobs) rows → ChildrenKept nodes rows (node_of job)
children_kept nodes jobs rows i job first is filled = λ child told. filled child (first i child job is told)

-- of one job more the row is kept
pub filled_more : (jobs : List Job) (old new : List (Option RowData)) (i : ℕ) (job : Job) → slice_get jobs i ≡ Some job → FilledAreKept (take i jobs) old → ((k : ℕ) → IsKept old k → IsKept new k) → FilledAreKept (job ∷ []) new
    → FilledAreKept (take (i + 1) jobs) new
filled_more jobs old new i job is before still last =
    λ k there.
    let more : take (i + 1) jobs ≡ take i jobs ++ job ∷ [] = take_more jobs i job (slice_get_within jobs i job is) ∙ ap (λ j. take i jobs ++ j ∷ []) (get_or_from_slice_get jobs i job job is) in
    elim (in_append (Inner k) (take i jobs) (job ∷ []) (subst (In (Inner k)) more (contains_in (take (i + 1) jobs) (Inner k) there))) [
      | inl earlier ↦ still k (before k (in_contains (take i jobs) (Inner k) earlier))
      | inr now ↦ last k (in_contains (job ∷ []) (Inner k) now)
    ]

-- what one job more costs
pub cost_more : (task : TaskParts) (trees : List Tree) (jobs : List Job) (i : ℕ) (job : Job) (budget left after : ℕ) → slice_get jobs i ≡ Some job → left + sum_by (part_cost task trees) (take i jobs) ≡ budget
    → after + part_cost task trees job ≡ left → after + sum_by (part_cost task trees) (take (i + 1) jobs) ≡ budget
cost_more task trees jobs i job budget left after is before last =
    let f = part_cost task trees in
    let more = sum_by_more f jobs i job (slice_get_within jobs i job is) in
    let one : f (get_or jobs i job) ≡ f job = ap f (get_or_from_slice_get jobs i job job is) in
    omega (arith, more, one, before, last)

pub cost_over : (task : TaskParts) (trees : List Tree) (jobs : List Job) (i : ℕ) (job : Job) (budget left : ℕ) → slice_get jobs i ≡ Some job → left + sum_by (part_cost task trees) (take i jobs) ≡ budget
    → left < part_cost task trees job → budget < sum_by (part_cost task trees) jobs
cost_over task trees jobs i job budget left is before over =
    let f = part_cost task trees in
    let more = sum_by_more f jobs i job (slice_get_within jobs i job is) in
    let one : f (get_or jobs i job) ≡ f job = ap f (get_or_from_slice_get jobs i job job is) in
    let some = sum_by-take-le f jobs (i + 1) in
    omega (arith, more, one, some, before, over)

-- no row stands in empty places
pub none_there : (n k : ℕ) (row : RowData) → slice_get (replicate n None) k ≡ Some (Some row) → ⊥
none_there zero k row there = none-some (Some row) there
none_there (suc n) zero row there = none-some row (same_Some None (Some row) there)
none_there (suc n) (suc k) row there = none_there n k row there

-- before any job nothing has to be kept
pub filled_none : (rows : List (Option RowData)) → FilledAreKept [] rows
filled_none rows = λ k there. absurd (contains_in [] (Inner k) there)

-- whether a job fills a part
abbrev fills : Job → Bool
fills (Inner k) = true
fills (Root k) = false

-- a job that fills a part has its row kept, and one that searches a root fills none
pub filled_inner : (rows : List (Option RowData)) (k : ℕ) → IsKept rows k → FilledAreKept (Inner k ∷ []) rows
filled_inner rows k kept = λ j there. one j (contains_in (Inner k ∷ []) (Inner j) there)
  where
    one : (j : ℕ) → In (Inner j) (Inner k ∷ []) → IsKept rows j
    one j (inl e) = subst (IsKept rows) (sym (ap node_of e)) kept
    one j (inr gone) = absurd gone

pub filled_root : (rows : List (Option RowData)) (k : ℕ) → FilledAreKept (Root k ∷ []) rows
filled_root rows k = λ j there. one j (contains_in (Root k ∷ []) (Inner j) there)
  where
    one : (j : ℕ) → In (Inner j) (Root k ∷ []) → IsKept rows j
    one j (inl e) = absurd (true≢false (ap fills e))
    one j (inr gone) = absurd gone

-- the answers of one root more, in ascending order
pub found_more : (f : ℕ → List RankedQuery) (roots : List ℕ) (i root : ℕ) (old hits new : List RankedQuery) → slice_get roots i ≡ Some root
    → ascending comes_before old ≡ ascending comes_before (flat_map f (take i roots)) → hits ≡ ascending comes_before (f root) → new ≡ old ++ hits
    → ascending comes_before new ≡ ascending comes_before (flat_map f (take (i + 1) roots))
found_more f roots i root old hits new is before found pushed =
    let ordered : List RankedQuery → List RankedQuery = ascending comes_before in
    let more : take (i + 1) roots ≡ take i roots ++ root ∷ [] = take_more roots i root (slice_get_within roots i root is) ∙ ap (λ j. take i roots ++ j ∷ []) (get_or_from_slice_get roots i root root is) in
    let all : flat_map f (take (i + 1) roots) ≡ flat_map f (take i roots) ++ f root =
    ap (flat_map f) more ∙ flat_map-append f (take i roots) (root ∷ []) ∙ ap (λ xs. flat_map f (take i roots) ++ xs) (append-nil (f root)) in
    ap ordered (pushed ∙ ap (λ hs. old ++ hs) found)
    ∙ sym (ascending_parts comes_before queries_order old (ascending comes_before (f root)))
    ∙ ap₂ (λ xs ys. ordered (xs ++ ys)) before (ordered_ascends (ascending comes_before (f root)) (f root) refl)
    ∙ ascending_parts comes_before queries_order (flat_map f (take i roots)) (f root)
    ∙ ap ordered (sym all)

-- lists that are one in ascending order have one length
pub same_size : (xs ys : List RankedQuery) → ascending comes_before xs ≡ ascending comes_before ys → length xs ≡ length ys
same_size xs ys e = sym (ascending_size comes_before xs) ∙ ap length e ∙ ascending_size comes_before ys

-- the answers of a root are no more than those of all
pub found_one : (f : ℕ → List RankedQuery) (roots : List ℕ) (i root : ℕ) → slice_get roots i ≡ Some root → length (f root) ≤ length (flat_map f roots)
found_one f roots i root is =
    let all = length-flat_map f roots in
    let one = get_or-le-sum_by (λ k. length (f k)) roots i root (slice_get_within roots i root is) in
    let here = ap (λ k. length (f k)) (get_or_from_slice_get roots i root root is) in
    omega (arith, all, one, here)

-- where a search of a part or a root ends over the budget, the part or the root alone is more
pub only_heavy : (e : FillEnd) → search_end e ≡ OverBudget → e ≡ end.Heavy
only_heavy end.Heavy is = refl
only_heavy end.OutOfMemory is = cc

-- the answers of some first roots are no more than those of all
pub found_few : {X : Type 0} (f : ℕ → List X) (roots : List ℕ) (i : ℕ) → length (flat_map f (take i roots)) ≤ length (flat_map f roots)
found_few f roots i =
    let some = length-flat_map f (take i roots) in
    let all = length-flat_map f roots in
    let less = sum_by-take-le (λ k. length (f k)) roots i in
    omega (arith, some, all, less)

-- the children of a root are kept, where what the jobs fill is
pub root_children : (nodes : List SkelNode) (roots : List ℕ) (jobs : List Job) (rows : List (Option RowData)) (root : ℕ) → jobs ≡ jobs_of nodes roots → ChildrenAreInner nodes roots → In root roots → FilledAreKept jobs rows → ChildrenKept nodes rows root
root_children nodes roots jobs rows root listed inner there filled =
    λ child told.
    let numbers = inner_of nodes roots in
    let h = inner root child (inr (in_contains roots root there)) told in
    let first : In (Inner child) (jobs_of nodes roots) = in_front (Inner child) (map Inner numbers) (map Root roots) (map_in Inner child numbers (contains_in numbers child h.0)) in
    filled child (in_contains jobs (Inner child) (subst (In (Inner child)) (sym listed) first))

-- A search of the live skeletons needs what its task does, and finds the task's answers.
use Rattle.std.proofs.Common.{◌≡◌, refl, sym, ap, ap₂, ◌∙◌, subst, ℕ, zero, suc, ◌+◌, ◌<◌, Bool, true, false, ◌||◌, cond, inl, inr, List, [], ◌∷◌, ◌++◌, length, map, Some, arith}
use Rattle.std.specs.Prelude.{All, slice_get, flat_map, unwrap_or, Result, Ok, Err, IfOk}
use Rattle.std.specs.Prelude.{filter as list_filter}
use Rattle.std.specs.List.{enumerate_from, list_any, range_with_len, slice_index, sum_by}
use Rattle.std.specs.List.Sorted.{IsStrictlyIncreasing}
use Rattle.std.proofs.lemmas.Bool.{cases_Bool, false≢true}
use Rattle.std.proofs.lemmas.List.Elements.{All-nil, All-cons}
use Rattle.std.proofs.lemmas.List.Sums.{sum_by-append, sum_by-cons}
use Rattle.std.proofs.lemmas.Option.{slice_get_within}
use Rattle.predicate_core.proofs.OnceLists.{In, in_at, in_map}
use Rattle.table_core.specs.declared.task.TaskParts.{TaskParts}
use Rattle.query_core.specs.Tree.{Tree}
use Rattle.query_core.specs.Tree as t
use Rattle.query_core.specs.Grammar.{skeletons}
use Rattle.query_core.specs.Answers.{comes_before, ranked, found, answers}
use Rattle.query_laws.proofs.MemberLaws.{in_filter}
use Rattle.skeleton_graph.specs.Below.{has_below}
use Rattle.skeleton_graph.specs.Nodes.{above_of, is_among, tree_at, trees_of}
use Rattle.skeleton_graph.specs.declared.node.SkelNode.{SkelNode}
use Rattle.skeleton_graph.proofs.TreeLaws.{trees_size}
use Rattle.fill_core.specs.Plans.{is_inner, inner_of, jobs_of}
use Rattle.fill_core.specs.View.{weight_of}
use Rattle.fill_core.specs.declared.job.Job.{Job}
use Rattle.fill_core.specs.declared.job.Job.TheVariants.{Inner, Root}
use Rattle.over_eval.specs.Live.{live}
use Rattle.over_eval.specs.Laws.{live_skeletons, live_numbers, AnswersOfLive}
use Rattle.root_search.specs.Answers.{root_answers}
use Rattle.root_search.proofs.AnswerLaws.{answers_of}
use Rattle.root_search.proofs.HitLaws.{ascending_size}
use Rattle.top_call.specs.Need.{live_parts, need}
use Rattle.top_call.specs.Search.{part_cost, answers_at}

-- an element that has a number is at its place
numbered_at : {X : Type 0} (at : ℕ) (xs : List X) (s : ℕ × X) → In s (enumerate_from at xs) → (i : ℕ) × (s.0 ≡ at + i) × (slice_get xs i ≡ Some s.1)
numbered_at at [] s there = absurd there
numbered_at at (x ∷ xs) s (inl e) = let number : s.0 ≡ at = ap (λ p. p.0) e in (0, omega (arith, number), ap Some (sym (ap (λ p. p.1) e)))
numbered_at at (x ∷ xs) s (inr later) = let h = numbered_at (at + 1) xs s later in let number = h.1 in (suc h.0, omega (arith, number), h.2)

-- numbers that a list doesn't have before them ascend
ascends_from : (x : ℕ) (xs : List ℕ) → ((y : ℕ) → In y xs → x < y) → IsStrictlyIncreasing xs → IsStrictlyIncreasing (x ∷ xs)
ascends_from x [] above ascend zero within = absurd (let no : ⊥ = omega (arith, within) in no)
ascends_from x (y ∷ xs) above ascend zero within = above y (inl refl)
ascends_from x xs above ascend (suc k) within =
    let place : suc (k + 1) ≡ suc k + 1 = omega arith in
    subst (λ n. slice_index (x ∷ xs) (suc k) < slice_index (x ∷ xs) n) place (ascend k (omega (arith, within)))

-- the numbers of elements that pass a test ascend
numbers_ascend : (p : ℕ × Tree → Bool) (at : ℕ) (xs : List Tree) → IsStrictlyIncreasing (map (λ s. s.0) (list_filter p (enumerate_from at xs)))
numbers_ascend p at [] = λ k within. absurd (let no : ⊥ = omega (arith, within) in no)
numbers_ascend p at (x ∷ xs) =
    elim (cases_Bool (p (at, x))) [
      | inl passes ↦ rw passes (ascends_from at (map (λ s. s.0) rest) (λ n there. let h = in_map (λ (s : ℕ × Tree). s.0) n rest there in above n h.0 h.1 h.2) (numbers_ascend p (at + 1) xs))
      | inr fails ↦ rw fails (numbers_ascend p (at + 1) xs)
    ]
  where
    rest : List (ℕ × Tree)
    rest = list_filter p (enumerate_from (at + 1) xs)

    above : (n : ℕ) (s : ℕ × Tree) → In s rest → n ≡ s.0 → at < n
    above n s there is =
        let place = numbered_at (at + 1) xs s (in_filter p s (enumerate_from (at + 1) xs) there).0 in
        let number = place.1 in
        omega (arith, is, number)

pub live_ascend : (task : TaskParts) (roots : List ℕ) → roots ≡ live_numbers task → IsStrictlyIncreasing roots
live_ascend task roots is = subst IsStrictlyIncreasing (sym is) (numbers_ascend (λ s. live task s.1) 0 (skeletons task))

-- where a live skeleton stands
live_at : (task : TaskParts) (s : ℕ × Tree) → In s (live_skeletons task) → slice_get (skeletons task) s.0 ≡ Some s.1
live_at task s there =
    let h = numbered_at 0 (skeletons task) s (in_filter (λ s. live task s.1) s (enumerate_from 0 (skeletons task)) there).0 in
    let number = h.1 in
    let same : s.0 ≡ h.0 = omega (arith, number) in
    ap (slice_get (skeletons task)) same ∙ h.2

each_within : (n : ℕ) (ss : List (ℕ × Tree)) → ((s : ℕ × Tree) → In s ss → s.0 < n) → All (λ k. k < n) (map (λ s. s.0) ss)
each_within n [] low = All-nil (λ k. k < n)
each_within n (s ∷ ss) low = All-cons (λ k. k < n) s.0 (map (λ t. t.0) ss) (low s (inl refl)) (each_within n ss (λ t i. low t (inr i)))

pub live_within : (task : TaskParts) (nodes : List SkelNode) (roots : List ℕ) → trees_of nodes ≡ skeletons task → roots ≡ live_numbers task → All (λ k. k < length nodes) roots
live_within task nodes roots trees is =
    let size = trees_size nodes in
    let same : length (trees_of nodes) ≡ length (skeletons task) = ap length trees in
    subst (All (λ k. k < length nodes)) (sym is)
    (each_within (length nodes) (live_skeletons task) (λ s there. let low = slice_get_within (skeletons task) s.0 s.1 (live_at task s there) in omega (arith, low, size, same)))

-- the answers of the roots are those of the live skeletons
answers_by : (task : TaskParts) (trees : List Tree) (ss : List (ℕ × Tree)) → ((s : ℕ × Tree) → In s ss → slice_get trees s.0 ≡ Some s.1) → flat_map (answers_at task trees) (map (λ s. s.0) ss) ≡ flat_map (root_answers task) ss
answers_by task trees [] each = refl
answers_by task trees (s ∷ ss) each =
    ap₂ (λ t rest. root_answers task (s.0, t) ++ rest) (ap (λ o. unwrap_or o (t.base 0)) (each s (inl refl))) (answers_by task trees ss (λ x i. each x (inr i)))

-- a plan of the live skeletons finds what a task's answers are before they are put into order
pub plan_finds : (task : TaskParts) (nodes : List SkelNode) (roots : List ℕ) → trees_of nodes ≡ skeletons task → roots ≡ live_numbers task → AnswersOfLive task
    → flat_map (answers_at task (trees_of nodes)) roots ≡ map (ranked task) (found task)
plan_finds task nodes roots trees is live_law =
    ap (flat_map (answers_at task (trees_of nodes))) is
    ∙ answers_by task (trees_of nodes) (live_skeletons task) (λ s there. ap (λ ts. slice_get ts s.0) trees ∙ live_at task s there)
    ∙ sym (answers_of task (live_skeletons task) (λ s there. in_at (skeletons task) s.0 s.1 (live_at task s there)))
    ∙ ap (map (ranked task)) (sym live_law)

-- what is summed over the numbers of a list's elements is summed over the elements
summed : (w : Tree → ℕ) (g : ℕ → Tree) (p : ℕ → Bool) (q : Tree → Bool) (at : ℕ) (xs : List Tree) → ((i : ℕ) (x : Tree) → slice_get xs i ≡ Some x → (g (at + i) ≡ x) × (p (at + i) ≡ q x))
    → sum_by (λ k. w (g k)) (list_filter p (range_with_len at (length xs))) ≡ sum_by w (list_filter q xs)
summed w g p q at [] each = refl
summed w g p q at (x ∷ xs) each =
    let here : at + 0 ≡ at = omega arith in
    let first : g at ≡ x = ap g (sym here) ∙ (each 0 x refl).0 in
    let same : p at ≡ q x = ap p (sym here) ∙ (each 0 x refl).1 in
    let rest = summed w g p q (at + 1) xs (λ i y there. let place : (at + 1) + i ≡ at + suc i = omega arith in let h = each (suc i) y there in (ap g place ∙ h.0, ap p place ∙ h.1)) in
    one (q x) (p at) same first rest
  where
    one : (b c : Bool) → c ≡ b → g at ≡ x → sum_by (λ k. w (g k)) (list_filter p (range_with_len (at + 1) (length xs))) ≡ sum_by w (list_filter q xs)
        → sum_by (λ k. w (g k)) (cond c (at ∷ list_filter p (range_with_len (at + 1) (length xs))) (list_filter p (range_with_len (at + 1) (length xs)))) ≡ sum_by w (cond b (x ∷ list_filter q xs) (list_filter q xs))
    one true true e first rest =
        sum_by-cons (λ k. w (g k)) at (list_filter p (range_with_len (at + 1) (length xs))) ∙ ap₂ (λ t n. w t + n) first rest ∙ sym (sum_by-cons w x (list_filter q xs))
    one false false e first rest = rest
    one true false e first rest = absurd (false≢true e)
    one false true e first rest = absurd (false≢true (sym e))

-- what is above a node, by trees
abbrev pub AboveHasBelow : List SkelNode → Type 0
AboveHasBelow nodes = (k j : ℕ) → k < length nodes → j < length nodes → is_among (above_of nodes k) j ≡ has_below (tree_at (trees_of nodes) j) (tree_at (trees_of nodes) k)

any_by_tree : (nodes : List SkelNode) (part : Tree) (k : ℕ) (ss : List (ℕ × Tree)) → ((s : ℕ × Tree) → In s ss → is_among (above_of nodes k) s.0 ≡ has_below s.1 part)
    → list_any (λ root. is_among (above_of nodes k) root) (map (λ s. s.0) ss) ≡ list_any (λ s. has_below s.1 part) ss
any_by_tree nodes part k [] each = refl
any_by_tree nodes part k (s ∷ ss) each = ap₂ (λ a b. a || b) (each s (inl refl)) (any_by_tree nodes part k ss (λ t i. each t (inr i)))

-- a node is inner exactly where some live skeleton has its tree below itself
inner_by_tree : (task : TaskParts) (nodes : List SkelNode) (roots : List ℕ) → trees_of nodes ≡ skeletons task → roots ≡ live_numbers task → AboveHasBelow nodes → (k : ℕ) (part : Tree) → slice_get (skeletons task) k ≡ Some part
    → is_inner nodes roots k ≡ list_any (λ s. has_below s.1 part) (live_skeletons task)
inner_by_tree task nodes roots trees is above k part there =
    let size = trees_size nodes in
    let same : length (trees_of nodes) ≡ length (skeletons task) = ap length trees in
    let at : (n : ℕ) (tree : Tree) → slice_get (skeletons task) n ≡ Some tree → tree_at (trees_of nodes) n ≡ tree = λ n tree is_there. ap (λ ts. tree_at ts n) trees ∙ ap (λ o. unwrap_or o (t.base 0)) is_there in
    let low : (n : ℕ) (tree : Tree) → slice_get (skeletons task) n ≡ Some tree → n < length nodes = λ n tree is_there. let w = slice_get_within (skeletons task) n tree is_there in omega (arith, w, size, same) in
    ap (λ rs. is_inner nodes rs k) is
    ∙ any_by_tree nodes part k (live_skeletons task) (λ s i.
    let found = live_at task s i in
    above k s.0 (low k part there) (low s.0 s.1 found) ∙ ap₂ has_below (at s.0 s.1 found) (at k part there))

-- the jobs of roots fill nothing
roots_free : (task : TaskParts) (trees : List Tree) (roots : List ℕ) → sum_by (part_cost task trees) (map Root roots) ≡ 0
roots_free task trees [] = refl
roots_free task trees (k ∷ roots) =
    let first = sum_by-cons (part_cost task trees) (Root k) (map Root roots) in
    let rest = roots_free task trees roots in
    omega (arith, first, rest)

inner_costs : (task : TaskParts) (trees : List Tree) (inner : List ℕ) → sum_by (part_cost task trees) (map Inner inner) ≡ sum_by (λ k. weight_of task (tree_at trees k)) inner
inner_costs task trees [] = refl
inner_costs task trees (k ∷ inner) =
    sum_by-cons (part_cost task trees) (Inner k) (map Inner inner)
    ∙ ap (λ n. weight_of task (tree_at trees k) + n) (inner_costs task trees inner)
    ∙ sym (sum_by-cons (λ n. weight_of task (tree_at trees n)) k inner)

-- the parts of a plan of the live skeletons weigh what the task's do
parts_are : (task : TaskParts) (nodes : List SkelNode) (roots : List ℕ) → trees_of nodes ≡ skeletons task → roots ≡ live_numbers task → AboveHasBelow nodes
    → sum_by (part_cost task (trees_of nodes)) (jobs_of nodes roots) ≡ sum_by (weight_of task) (live_parts task)
parts_are task nodes roots trees is above =
    let cost = part_cost task (trees_of nodes) in
    let both = sum_by-append cost (map Inner (inner_of nodes roots)) (map Root roots) in
    let free = roots_free task (trees_of nodes) roots in
    let inner = inner_costs task (trees_of nodes) (inner_of nodes roots) in
    let len : length nodes ≡ length (skeletons task) = sym (trees_size nodes) ∙ ap length trees in
    let p : ℕ → Bool = is_inner nodes roots in
    let q : Tree → Bool = λ part. list_any (λ s. has_below s.1 part) (live_skeletons task) in
    let g : ℕ → Tree = tree_at (trees_of nodes) in
    let numbers : sum_by (λ k. weight_of task (g k)) (inner_of nodes roots) ≡ sum_by (weight_of task) (live_parts task) =
    ap (λ n. sum_by (λ k. weight_of task (g k)) (list_filter p (range_with_len 0 n))) len
    ∙ summed (weight_of task) g p q 0 (skeletons task) (λ i x there.
    let place : 0 + i ≡ i = omega arith in
    (ap g place ∙ ap (λ ts. tree_at ts i) trees ∙ ap (λ o. unwrap_or o (t.base 0)) there, ap p place ∙ inner_by_tree task nodes roots trees is above i x there)) in
    omega (arith, both, free, inner, numbers)

-- a plan of the live skeletons needs what the task does
pub need_is : (task : TaskParts) (nodes : List SkelNode) (roots : List ℕ) (jobs : List Job) → trees_of nodes ≡ skeletons task → roots ≡ live_numbers task → jobs ≡ jobs_of nodes roots → AboveHasBelow nodes → AnswersOfLive task
    → sum_by (part_cost task (trees_of nodes)) jobs + length (flat_map (answers_at task (trees_of nodes)) roots) ≡ need task
need_is task nodes roots jobs trees is listed above live_law =
    let parts = ap (sum_by (part_cost task (trees_of nodes))) listed ∙ parts_are task nodes roots trees is above in
    let finds : length (flat_map (answers_at task (trees_of nodes)) roots) ≡ length (answers task) =
    ap length (plan_finds task nodes roots trees is live_law) ∙ sym (ascending_size comes_before (map (ranked task) (found task))) in
    omega (arith, parts, finds)

-- what holds of an answer gives what else holds of it
pub ok_more : {T E : Type 0} (r : Result T E) (P Q : T → Type 0) → ((x : T) → P x → Q x) → IfOk r P → IfOk r Q
ok_more (Ok x) P Q h p = h x p
ok_more (Err e) P Q h p = tt

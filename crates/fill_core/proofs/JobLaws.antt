-- Laws of jobs: what a job stands on is done before it.
use Rattle.std.proofs.Common.{◌≡◌, refl, sym, ap, subst, ℕ, zero, suc, ◌+◌, ◌<◌, ◌≤◌, Bool, true, false, ◌⊎◌, inl, inr, List, [], ◌∷◌, ◌++◌, length, map, take, Some, arith}
use Rattle.std.specs.Prelude.{All, filter, slice_get}
use Rattle.std.specs.List.{range_with_len}
use Rattle.std.proofs.lemmas.Bool.{cases_Bool}
use Rattle.std.proofs.lemmas.List.{take_all, length-map}
use Rattle.std.proofs.lemmas.List.Elements.{All-nil, All-cons, All-append, All-head, All-tail}
use Rattle.std.proofs.lemmas.Option.{none-some, same_Some}
use Rattle.predicate_core.proofs.OnceLists.{In, in_at}
use Rattle.query_laws.proofs.ListLaws.{contains_in, in_contains}
use Rattle.query_laws.proofs.MemberLaws.{map_in, in_filter, in_range}
use Rattle.skeleton_graph.specs.declared.node.SkelNode.{SkelNode}
use Rattle.skeleton_graph.proofs.AboveLaws.{Falls}
use Rattle.fill_core.specs.declared.job.Job.{Job}
use Rattle.fill_core.specs.declared.job.Job.TheVariants.{Inner, Root}
use Rattle.fill_core.specs.Plans.{is_inner, inner_of, jobs_of, node_of, PartsComeFirst}
use Rattle.fill_core.proofs.PlanLaws.{children_inner}

-- a number of a list stands before another, wherever that stands
abbrev Again : List ℕ → ℕ → ℕ → Type 0
Again xs k lower = (j : ℕ) → slice_get xs j ≡ Some k → In lower xs → In lower (take j xs)

-- of a range's numbers that pass a test, each lower one stands before a number
lower_first : (p : ℕ → Bool) (at n i k lower : ℕ) → slice_get (filter p (range_with_len at n)) i ≡ Some k → In lower (filter p (range_with_len at n)) → lower < k → In lower (take i (filter p (range_with_len at n)))
lower_first p at zero i k lower is there less = absurd there
lower_first p at (suc n) i k lower is there less =
    let again : Again (filter p (range_with_len (at + 1) n)) k lower = λ j is_later later. lower_first p (at + 1) n j k lower is_later later less in
    elim (cases_Bool (p at)) [ inl passes ↦ kept passes again | inr fails ↦ left_out fails again ]
  where
    rest : List ℕ
    rest = filter p (range_with_len (at + 1) n)

    from : (j : ℕ) → Again rest k lower → slice_get (at ∷ rest) j ≡ Some k → In lower (at ∷ rest) → In lower (take j (at ∷ rest))
    from zero again is_first (inl e) = absurd (let same = same_Some at k is_first in omega (arith, same, e, less))
    from zero again is_first (inr later) = absurd (let same = same_Some at k is_first in let low = in_range (at + 1) n lower (in_filter p lower (range_with_len (at + 1) n) later).0 in omega (arith, same, low.0, less))
    from (suc j) again is_later (inl e) = inl e
    from (suc j) again is_later (inr later) = inr (again j is_later later)

    kept : p at ≡ true → Again rest k lower → In lower (take i (filter p (range_with_len at (suc n))))
    kept passes again = rw passes (from i again (rw passes at is) (rw passes at there))

    left_out : p at ≡ false → Again rest k lower → In lower (take i (filter p (range_with_len at (suc n))))
    left_out fails again = rw fails (again i (rw fails at is) (rw fails at there))

-- what is taken of a list is taken of a longer one
take_longer : {X : Type 0} (x : X) (xs ys : List X) (i : ℕ) → In x (take i xs) → In x (take i (xs ++ ys))
take_longer x [] ys zero there = absurd there
take_longer x [] ys (suc i) there = absurd there
take_longer x (y ∷ xs) ys zero there = absurd there
take_longer x (y ∷ xs) ys (suc i) (inl e) = inl e
take_longer x (y ∷ xs) ys (suc i) (inr later) = inr (take_longer x xs ys i later)

taken_mapped : {X Y : Type 0} (f : X → Y) (x : X) (xs : List X) (i : ℕ) → In x (take i xs) → In (f x) (take i (map f xs))
taken_mapped f x [] zero there = absurd there
taken_mapped f x [] (suc i) there = absurd there
taken_mapped f x (y ∷ xs) zero there = absurd there
taken_mapped f x (y ∷ xs) (suc i) (inl e) = inl (ap f e)
taken_mapped f x (y ∷ xs) (suc i) (inr later) = inr (taken_mapped f x xs i later)

-- a job at a place is of an inner node there, or of a root behind all of them
job_at : (inner roots : List ℕ) (i : ℕ) (job : Job) → slice_get (map Inner inner ++ map Root roots) i ≡ Some job → (slice_get inner i ≡ Some (node_of job)) ⊎ ((length inner ≤ i) × In (node_of job) roots)
job_at [] roots i job is = inr (omega arith, root_at roots i is)
  where
    root_at : (rs : List ℕ) (j : ℕ) → slice_get (map Root rs) j ≡ Some job → In (node_of job) rs
    root_at [] j is_at = absurd (none-some job is_at)
    root_at (r ∷ rs) zero is_at = inl (ap node_of (sym (same_Some (Root r) job is_at)))
    root_at (r ∷ rs) (suc j) is_at = inr (root_at rs j is_at)
job_at (k ∷ inner) roots zero job is = inl (ap (λ j. Some (node_of j)) (same_Some (Inner k) job is))
job_at (k ∷ inner) roots (suc i) job is = elim (job_at inner roots i job is) [ inl e ↦ inl e | inr h ↦ let past = h.0 in inr (omega (arith, past), h.1) ]

-- each child of a job's node is filled by a job before it
pub parts_first : (nodes : List SkelNode) (roots : List ℕ) → Falls nodes → PartsComeFirst nodes (jobs_of nodes roots)
parts_first nodes roots falls =
    λ i child job is told.
    let inner = inner_of nodes roots in
    in_contains (take i (jobs_of nodes roots)) (Inner child)
    (take_longer (Inner child) (map Inner inner) (map Root roots) i
    (elim (job_at inner roots i job is) [
      | inl here ↦
          let h = children_inner nodes roots falls (node_of job) child (inl (in_contains inner (node_of job) (in_at inner i (node_of job) here))) told in
          taken_mapped Inner child inner i (lower_first (is_inner nodes roots) 0 (length nodes) i (node_of job) child here (contains_in inner child h.0) h.1)
      | inr behind ↦
          let h = children_inner nodes roots falls (node_of job) child (inr (in_contains roots (node_of job) behind.1)) told in
          let past = behind.0 in
          let size = length-map inner Inner in
          let whole : take i (map Inner inner) ≡ map Inner inner = take_all i (map Inner inner) (omega (arith, past, size)) in
          subst (λ js. In (Inner child) js) (sym whole) (map_in Inner child inner (contains_in inner child h.0))
    ]))

-- what holds of all elements holds of one
All-in : {X : Type 0} (P : X → Type 0) (xs : List X) (x : X) → All P xs → In x xs → P x
All-in P (y ∷ xs) x all (inl e) = subst P (sym e) (All-head P y xs all)
All-in P (y ∷ xs) x all (inr later) = All-in P xs x (All-tail P y xs all) later
All-in P [] x all there = absurd there

-- the node of each job is one of the graph
each_node : (f : ℕ → Job) (n : ℕ) (numbers : List ℕ) → ((k : ℕ) → node_of (f k) ≡ k) → ((k : ℕ) → In k numbers → k < n) → All (λ job. node_of job < n) (map f numbers)
each_node f n [] is below = All-nil (λ job. node_of job < n)
each_node f n (k ∷ numbers) is below =
    let low = below k (inl refl) in
    let same = is k in
    All-cons (λ job. node_of job < n) (f k) (map f numbers) (omega (arith, low, same)) (each_node f n numbers is (λ j i. below j (inr i)))

pub jobs_within : (nodes : List SkelNode) (roots : List ℕ) → All (λ k. k < length nodes) roots → All (λ job. node_of job < length nodes) (jobs_of nodes roots)
jobs_within nodes roots within =
    All-append (λ job. node_of job < length nodes) (map Inner (inner_of nodes roots)) (map Root roots)
    (each_node Inner (length nodes) (inner_of nodes roots) (λ k. refl) (λ k i. let h = in_range 0 (length nodes) k (in_filter (is_inner nodes roots) k (range_with_len 0 (length nodes)) i).0 in omega (arith, h.1)))
    (each_node Root (length nodes) roots (λ k. refl) (λ k i. All-in (λ n. n < length nodes) roots k within i))

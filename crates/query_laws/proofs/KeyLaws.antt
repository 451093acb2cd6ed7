-- Two different queries of a task have different keys.
use Rattle.std.proofs.Common.{◌≡◌, refl, sym, ap, ◌∙◌, subst, ℕ, ◌+◌, ◌≤◌, Bool, true, false, inl, inr, List, [], ◌∷◌, map, Some, option_map, arith}
use Rattle.std.specs.Prelude.{slice_get}
use Rattle.std.specs.List.{enumerate_from}
use Rattle.std.specs.declared.cmp.Ordering.{Ordering}
use Rattle.std.specs.declared.cmp.Ordering.TheVariants.{Less, Equal, Greater}
use Rattle.std.specs.Ordering.{nat_cmp, ordering_then}
use Rattle.std.specs.Cmp.Lexicographic.{slice_cmp}
use Rattle.std.proofs.lemmas.Bool.{false≢true}
use Rattle.std.proofs.lemmas.Option.{slice_get-map}
use Rattle.std.proofs.lemmas.Map.Lookups.{exact_unsigned, exact_bytes}
use Rattle.predicate_core.proofs.OnceLists.{In, Once, in_map, each_once}
use Rattle.table_core.specs.declared.task.TaskParts.{TaskParts}
use Rattle.table_core.specs.Rows.{types_of}
use Rattle.query_core.specs.Tree.{Tree}
use Rattle.query_core.specs.Meaning.{columns}
use Rattle.query_core.specs.Grammar.{Numbered, maps, with_flags, queries_of_body, queries_of, fillings, numbered, queries, skeletons}
use Rattle.query_core.specs.Rank.{Key, key, key_order, distinct_cost, pred_numbers}
use Rattle.query_core.proofs.MapLaws.{map_twice}
use Rattle.query_laws.specs.Laws.{key_of, KeysApart, TiesAreEqual}
use Rattle.query_laws.proofs.JoinedLists.{once_joined}
use Rattle.query_laws.proofs.FillingLaws.{once_fillings}
use Rattle.query_laws.proofs.NumberLaws.{numbers_tell}
use Rattle.query_laws.proofs.QueryLaws.{once_maps, in_flags, in_body_queries}

-- an order of two parts says equal only where each says it
then_equal : (first second : Ordering) → ordering_then first second ≡ Equal → (first ≡ Equal) × (second ≡ Equal)
then_equal Less second e = cc
then_equal Equal second e = (refl, e)
then_equal Greater second e = cc

flag_ties : (a b : Bool) → distinct_cost a ≡ distinct_cost b → a ≡ b
flag_ties true true e = refl
flag_ties true false e = let never : ⊥ = omega arith in absurd never
flag_ties false true e = let never : ⊥ = omega arith in absurd never
flag_ties false false e = refl

-- the key of these parts
abbrev made : ℕ → ℕ → ℕ → List ℕ → List ℕ → Bool → Key
made unused cost skeleton numbers picks distinct = record { unused = unused; cost = cost; skeleton = skeleton; numbers = numbers; picks = picks; distinct = distinct }

-- two keys tie only where they are equal
pub ties_equal : TiesAreEqual key_order
ties_equal a b e =
    let u = then_equal (nat_cmp a.unused b.unused) _ e in
    let c = then_equal (nat_cmp a.cost b.cost) _ u.1 in
    let s = then_equal (nat_cmp a.skeleton b.skeleton) _ c.1 in
    let n = then_equal (slice_cmp nat_cmp a.numbers b.numbers) _ s.1 in
    let p = then_equal (slice_cmp nat_cmp a.picks b.picks) _ n.1 in
    let unused : a.unused ≡ b.unused = exact_unsigned a.unused b.unused u.0 in
    let cost : a.cost ≡ b.cost = exact_unsigned a.cost b.cost c.0 in
    let skeleton : a.skeleton ≡ b.skeleton = exact_unsigned a.skeleton b.skeleton s.0 in
    let numbers : a.numbers ≡ b.numbers = exact_bytes a.numbers b.numbers n.0 in
    let picks : a.picks ≡ b.picks = exact_bytes a.picks b.picks p.0 in
    let flags : a.distinct ≡ b.distinct = flag_ties a.distinct b.distinct (exact_unsigned (distinct_cost a.distinct) (distinct_cost b.distinct) p.1) in
    let parts : made a.unused a.cost a.skeleton a.numbers a.picks a.distinct ≡ made b.unused b.cost b.skeleton b.numbers b.picks b.distinct = cc in
    parts

-- the numbers of a list's elements don't come before its first number
number_from : {X : Type 0} (n : ℕ) (s : X) (xs : List X) (at : ℕ) → In (n, s) (enumerate_from at xs) → at ≤ n
number_from n s [] at i = absurd i
number_from {X} n s (x ∷ xs) at (inl e) = let number : ℕ × X → ℕ = λ p. p.0 in let first : n ≡ at = ap number e in omega arith
number_from n s (x ∷ xs) at (inr i) = let later = number_from n s xs (at + 1) i in omega (arith, later)

once_numbered : {X : Type 0} (xs : List X) (at : ℕ) → Once (enumerate_from at xs)
once_numbered [] at = tt
once_numbered (x ∷ xs) at = (λ i. let later = number_from at x xs (at + 1) i in omega (arith, later), once_numbered xs (at + 1))

number_of_one : {X : Type 0} (n : ℕ) (s u : X) (xs : List X) (at : ℕ) → In (n, s) (enumerate_from at xs) → In (n, u) (enumerate_from at xs) → s ≡ u
number_of_one n s u [] at i j = absurd i
number_of_one {X} n s u (x ∷ xs) at (inl e) (inl f) = let element : ℕ × X → X = λ p. p.1 in ap element (e ∙ sym f)
number_of_one {X} n s u (x ∷ xs) at (inl e) (inr j) =
    let number : ℕ × X → ℕ = λ p. p.0 in let first : n ≡ at = ap number e in let later = number_from n u xs (at + 1) j in absurd (omega (arith, first, later))
number_of_one {X} n s u (x ∷ xs) at (inr i) (inl f) =
    let number : ℕ × X → ℕ = λ p. p.0 in let first : n ≡ at = ap number f in let later = number_from n s xs (at + 1) i in absurd (omega (arith, first, later))
number_of_one n s u (x ∷ xs) at (inr i) (inr j) = number_of_one n s u xs (at + 1) i j

-- the keys of the queries with one body and map
once_of_map : (task : TaskParts) (n : ℕ) (body : Tree) (picks : List ℕ) → Once (map (key task n) (with_flags body picks))
once_of_map task n body picks = (λ i. elim i [ inl e ↦ let flags : false ≡ true = ap (λ k. k.distinct) e in false≢true flags | inr never ↦ never ], ((λ i. i), tt))

-- the keys of the queries with one body
once_of_body : (task : TaskParts) (n : ℕ) (body : Tree) → Once (map (key task n) (queries_of_body task body))
once_of_body task n body =
    once_joined (key task n) (with_flags body) (maps (columns task.inputs body) (types_of task.output)) (once_maps (columns task.inputs body) (types_of task.output))
    (λ picks i. once_of_map task n body picks)
    (λ x y i j a b k l e. let picks : a.picks ≡ b.picks = ap (λ z. z.picks) e in sym (in_flags body x a k).1 ∙ picks ∙ (in_flags body y b l).1)

-- the keys of the queries of one skeleton
once_of_skeleton : (task : TaskParts) (n : ℕ) (s : Tree) → Once (map (key task n) (queries_of task s))
once_of_skeleton task n s =
    once_joined (key task n) (queries_of_body task) (fillings task s) (once_fillings task s) (λ body i. once_of_body task n body)
    (λ x y i j a b k l e.
    let numbers : pred_numbers task a.body ≡ pred_numbers task b.body = ap (λ z. z.numbers) e in
    numbers_tell task s x y i j (sym (ap (pred_numbers task) (in_body_queries task x a k).0) ∙ numbers ∙ ap (pred_numbers task) (in_body_queries task y b l).0))

-- the number of a numbered query
in_numbered : (task : TaskParts) (s : ℕ × Tree) (n : Numbered) → In n (numbered task s) → n.skeleton ≡ s.0
in_numbered task s n i = let h = in_map (λ q. record { skeleton = s.0; query = q }) n (queries_of task s.1) i in ap (λ x. x.skeleton) h.2

-- two numbered skeletons with one number are one
numbered_same : (xs : List Tree) (s u : ℕ × Tree) → In s (enumerate_from 0 xs) → In u (enumerate_from 0 xs) → s.0 ≡ u.0 → s ≡ u
numbered_same xs s u i j e =
    let k : In (s.0, u.1) (enumerate_from 0 xs) = subst (λ (n : ℕ). In (n, u.1) (enumerate_from 0 xs)) (sym e) j in
    let trees : s.1 ≡ u.1 = number_of_one s.0 s.1 u.1 xs 0 i k in
    let parts : ◌≡◌ {A = ℕ × Tree} (s.0, s.1) (u.0, u.1) = cc in
    parts

once_keys : (task : TaskParts) → Once (map (key_of task) (queries task))
once_keys task =
    once_joined (key_of task) (numbered task) (enumerate_from 0 (skeletons task)) (once_numbered (skeletons task) 0)
    (λ s i. rw (map_twice (key_of task) (λ q. record { skeleton = s.0; query = q }) (queries_of task s.1)) (once_of_skeleton task s.0 s.1))
    (λ s u i j a b k l e.
    let numbers : a.skeleton ≡ b.skeleton = ap (λ z. z.skeleton) e in
    numbered_same (skeletons task) s u i j (sym (in_numbered task s a k) ∙ numbers ∙ in_numbered task u b l))

-- queries at different places have different keys
pub keys_apart : (task : TaskParts) → KeysApart task
keys_apart task i j a b at_i at_j e =
    let here : slice_get (map (key_of task) (queries task)) i ≡ Some (key_of task a) = slice_get-map (key_of task) (queries task) i ∙ ap (option_map (key_of task)) at_i in
    let there : slice_get (map (key_of task) (queries task)) j ≡ Some (key_of task a) = slice_get-map (key_of task) (queries task) j ∙ ap (option_map (key_of task)) at_j ∙ ap Some (sym e) in
    each_once (map (key_of task) (queries task)) (once_keys task) i j (key_of task a) here there

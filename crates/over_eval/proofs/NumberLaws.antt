-- The numbers of the live skeletons, found one after the other.
use Rattle.std.proofs.Common.{◌≡◌, ◌+◌, ◌<◌, ◌≤◌, ℕ, Bool, drop, append_assoc, List, [], ◌∷◌, ◌++◌, length, map, Some, refl, sym, ap, subst, ◌∙◌, inl, inr, get_or, arith}
use Rattle.std.specs.Prelude.{filter, if◌then◌else◌, false, unwrap_or, Result, Ok, Err, IfOk, MatchResult}
use Rattle.std.specs.List.{AllZip, enumerate_from, range_with_len, slice_get}
use Rattle.std.proofs.lemmas.Bool.{cases_Bool}
use Rattle.std.proofs.lemmas.List.{append-nil, at_drop_more, drop_all, get_or-map, length-map}
use Rattle.std.proofs.lemmas.List.FromFn.{fill_by_all}
use Rattle.std.proofs.lemmas.Option.{get_or_from_slice_get, slice_get-get_or, slice_get_within}
use Rattle.table_core.specs.declared.task.TaskParts.{TaskParts}
use Rattle.query_core.specs.Tree.{Tree}
use Rattle.query_core.specs.Tree as t
use Rattle.skeleton_graph.specs.Nodes.{tree_at}
use Rattle.over_eval.specs.Live.{live}

-- the numbers of the live ones among some skeletons, which are numbered from a number on
abbrev pub live_from : TaskParts → ℕ → List Tree → List ℕ
live_from task n trees = map (λ (s : ℕ × Tree). s.0) (filter (λ (s : ℕ × Tree). live task s.1) (enumerate_from n trees))

-- the number of one skeleton, where it is live
abbrev pub live_one : TaskParts → ℕ → Tree → List ℕ
live_one task n tree = if live task tree then n ∷ [] else []

live_first : (task : TaskParts) (n : ℕ) (tree : Tree) (trees : List Tree) → live_from task n (tree ∷ trees) ≡ live_one task n tree ++ live_from task (n + 1) trees
live_first task n tree trees = elim (cases_Bool (live task tree)) [ inl lives ↦ rw lives refl | inr dead ↦ rw dead refl ]

-- the skeletons from a place on, where one is there
from_place : (trees : List Tree) (i : ℕ) (tree : Tree) → slice_get trees i ≡ Some tree → drop i trees ≡ tree ∷ drop (i + 1) trees
from_place trees i tree there =
    at_drop_more (λ (ys : List Tree). ys) trees i tree (slice_get_within trees i tree there) ∙ ap (λ (y : Tree). y ∷ drop (i + 1) trees) (get_or_from_slice_get trees i tree tree there)

-- one skeleton more is looked at
pub live_more : (task : TaskParts) (trees : List Tree) (i : ℕ) (tree : Tree) (front more whole : List ℕ)
    → slice_get trees i ≡ Some tree → front ++ live_from task i (drop i trees) ≡ whole → more ≡ front ++ live_one task i tree
    → more ++ live_from task (i + 1) (drop (i + 1) trees) ≡ whole
live_more task trees i tree front more whole there so_far pushed =
    let rest = live_from task (i + 1) (drop (i + 1) trees) in
    ap (λ (out : List ℕ). out ++ rest) pushed
    ∙ append_assoc front (live_one task i tree) rest
    ∙ ap (λ (out : List ℕ). front ++ out) (sym (ap (live_from task i) (from_place trees i tree there) ∙ live_first task i tree (drop (i + 1) trees)))
    ∙ so_far

-- all skeletons are looked at
pub live_all : (task : TaskParts) (trees : List Tree) (i : ℕ) (front whole : List ℕ)
    → length trees ≤ i → front ++ live_from task i (drop i trees) ≡ whole → front ≡ whole
live_all task trees i front whole past so_far =
    sym (append-nil front) ∙ ap (λ (ts : List Tree). front ++ live_from task i ts) (sym (drop_all i trees past)) ∙ so_far

-- the tree of a number is there
pub tree_there : (trees : List Tree) (i : ℕ) → i < length trees → slice_get trees i ≡ Some (tree_at trees i)
tree_there trees i within =
    let there = slice_get-get_or trees i (t.base 0) within in
    there ∙ ap Some (ap (λ o. unwrap_or o (t.base 0)) (sym there))

-- a list that says of each skeleton whether it is live is as long as theirs
pub live_long : (task : TaskParts) (trees : List Tree) (lives : List Bool) → lives ≡ map (live task) trees → length lives ≡ length trees
live_long task trees lives are = ap length are ∙ length-map trees (live task)

-- whether the skeleton of a number is live, read from a list of them
pub live_read : (task : TaskParts) (trees : List Tree) (lives : List Bool) (i : ℕ) (d : Bool) → i < length trees → lives ≡ map (live task) trees → get_or lives i d ≡ live task (tree_at trees i)
live_read task trees lives i d within are =
    ap (λ (bs : List Bool). get_or bs i d) are
    ∙ get_or-map (live task) trees i (t.base 0) d within
    ∙ ap (live task) (ap (λ o. unwrap_or o (t.base 0)) (sym (slice_get-get_or trees i (t.base 0) within)))

-- what each test of some numbers says, where each says something
tests_are : (E : Type 0) (f : ℕ → Bool) (numbers : List ℕ) (said : List Bool) → AllZip (λ n (r : Result Bool E). IfOk r (λ b. b ≡ f n)) numbers (map Ok said) → said ≡ map f numbers
tests_are E f [] [] all = refl
tests_are E f [] (b ∷ bs) all = absurd all
tests_are E f (n ∷ ns) [] all = absurd all
tests_are E f (n ∷ ns) (b ∷ bs) all = λ i. all.0 i ∷ tests_are E f ns bs all.1 i

-- whether each skeleton is live, by the tests of their numbers
pub tested_are : (E : Type 0) (task : TaskParts) (trees : List Tree) (size : ℕ) (numbers : List ℕ) (tests : List (Result Bool E)) (said : List Bool) → length trees ≡ size
    → numbers ≡ range_with_len 0 size → tests ≡ map Ok said → AllZip (λ n (r : Result Bool E). IfOk r (λ b. b ≡ live task (tree_at trees n))) numbers tests → said ≡ map (live task) trees
tested_are E task trees size numbers tests said is are_numbers are_said all =
    let lives_at : ℕ → Bool = λ n. live task (tree_at trees n) in
    let Says : ℕ → Result Bool E → Type 0 = λ n r. IfOk r (λ b. b ≡ lives_at n) in
    tests_are E lives_at (range_with_len 0 size) said (subst (λ rs. AllZip Says (range_with_len 0 size) rs) are_said (subst (λ ns. AllZip Says ns tests) are_numbers all))
    ∙ sym (fill_by_all lives_at (map (live task) trees) size false (length-map trees (live task) ∙ is) each)
  where
    each : (k : ℕ) → k < size → get_or (map (live task) trees) k false ≡ live task (tree_at trees k)
    each k below = live_read task trees (map (live task) trees) k false (omega (arith, below, is)) refl

-- what follows from what an `Ok` has, where an `Err` says something else
pub said_where_ok : {X E : Type 0} (r : Result X E) (P Q : X → Type 0) (Says : E → Type 0) → MatchResult r P Says → ((x : X) → P x → Q x) → IfOk r Q
said_where_ok (Ok x) P Q Says told follows = follows x told
said_where_ok (Err e) P Q Says told follows = tt

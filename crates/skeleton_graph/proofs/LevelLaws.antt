-- The trees of the skeletons that are listed are the trees of the grammar, level by level.
use Rattle.std.proofs.Common.{◌≡◌, ℕ, ◌-◌, Bool, true, false, List, [], ◌∷◌, ◌++◌, map, length, Option, Some, None, option_map, refl, sym, ap, ap₂, ◌∙◌, append_assoc}
use Rattle.std.specs.Prelude.{filter as list_filter, slice_get, unwrap_or}
use Rattle.std.specs.List.{flat_map, range_with_len}
use Rattle.std.proofs.lemmas.List.{length-map, map-append}
use Rattle.std.proofs.lemmas.Option.{slice_get-map}
use Rattle.value_core.specs.declared.value.ColType.{ColType}
use Rattle.predicate_core.specs.declared.pred.Pred.TheVariants.{Always}
use Rattle.table_core.specs.declared.task.TaskParts.{TaskParts}
use Rattle.query_core.specs.Tree.{Tree}
use Rattle.query_core.specs.Tree as t
use Rattle.query_core.specs.Meaning.{columns}
use Rattle.query_core.specs.Grammar.{leaves, takes_filter, may_pair, may_unite, level_at, products, level_pairs, last_level, filters_over, pairs_of, unions_of, key_lists, agg_list, groups_of, next_level, bases}
use Rattle.query_core.proofs.MapLaws.{single, flat_map_same, flat_map_of_map, flat_map_singles, map_twice, kept_joined}
use Rattle.query_core.specs.declared.agg.Agg.{Agg}
use Rattle.query_core.specs.declared.kinds.Pairing.{Pairing}
use Rattle.query_core.specs.declared.kinds.Pairing.TheVariants.{Join, Left}
use Rattle.query_core.specs.declared.kinds.Uniting.{Uniting}
use Rattle.query_core.specs.declared.kinds.Uniting.TheVariants.{All, Firsts}
use Rattle.skeleton_graph.specs.declared.meeting.Meeting.{Meeting}
use Rattle.skeleton_graph.specs.declared.meeting.Meeting.TheVariants.{Pair, Union}
use Rattle.skeleton_graph.specs.declared.part.Part.{Part}
use Rattle.skeleton_graph.specs.Nodes.{tree_at, made_tree}
use Rattle.skeleton_graph.specs.Seen.{Seen, kind_takes_filter, base_part, base_parts, filter_part, filter_on, met, pair_on, pairs_between, seen_at, pairs_at, pairs_on, group_on, keyed_on, groups_on, last_seen, next_parts}

-- a tree with what is asked of it as a part of others
pub record Told : Type 0 where
  pub tree : Tree
  pub takes_filter : Bool
  pub leaves : List ℕ
  pub types : List ColType

-- a tree of the grammar so
abbrev pub told : TaskParts → Tree → Told
told task tree = record { tree = tree; takes_filter = takes_filter tree; leaves = leaves tree; types = columns task.inputs tree }

-- a listed skeleton so, over the trees of those before it
abbrev pub part_told : List Tree → Part → Told
part_told trees part = record { tree = made_tree trees part.kind part.left part.right; takes_filter = kind_takes_filter part.kind; leaves = part.leaves; types = part.types }

-- what is asked of the tree of a number
abbrev pub seen_of : TaskParts → List Tree → ℕ → Seen
seen_of task trees n = record { number = n; takes_filter = takes_filter (tree_at trees n); leaves = leaves (tree_at trees n); types = columns task.inputs (tree_at trees n) }

-- what is asked of the trees of levels of numbers, and these trees
abbrev pub seen_levels : TaskParts → List Tree → List (List ℕ) → List (List Seen)
seen_levels task trees ls = map (map (seen_of task trees)) ls

abbrev pub tree_levels : List Tree → List (List ℕ) → List (List Tree)
tree_levels trees ls = map (map (tree_at trees)) ls

-- the numbers of a level
abbrev numbers_at : List (List ℕ) → ℕ → List ℕ
numbers_at ls n = unwrap_or (slice_get ls n) []

mapped_or : {A B : Type 0} (f : A → B) (o : Option (List A)) → unwrap_or (option_map (map f) o) [] ≡ map f (unwrap_or o [])
mapped_or f None = refl
mapped_or f (Some xs) = refl

at_mapped : {A B : Type 0} (f : A → B) (ls : List (List A)) (n : ℕ) → unwrap_or (slice_get (map (map f) ls) n) [] ≡ map f (unwrap_or (slice_get ls n) [])
at_mapped f ls n = ap (λ o. unwrap_or o []) (slice_get-map (map f) ls n) ∙ mapped_or f (slice_get ls n)

seen_is : (task : TaskParts) (trees : List Tree) (ls : List (List ℕ)) (n : ℕ) → seen_at (seen_levels task trees ls) n ≡ map (seen_of task trees) (numbers_at ls n)
seen_is task trees ls n = at_mapped (seen_of task trees) ls n

tree_is : (trees : List Tree) (ls : List (List ℕ)) (n : ℕ) → level_at (tree_levels trees ls) n ≡ map (tree_at trees) (numbers_at ls n)
tree_is trees ls n = at_mapped (tree_at trees) ls n

last_seen_is : (task : TaskParts) (trees : List Tree) (ls : List (List ℕ)) → last_seen (seen_levels task trees ls) ≡ map (seen_of task trees) (numbers_at ls (length ls - 1))
last_seen_is task trees ls = ap (λ n. seen_at (seen_levels task trees ls) (n - 1)) (length-map ls (map (seen_of task trees))) ∙ seen_is task trees ls (length ls - 1)

last_tree_is : (trees : List Tree) (ls : List (List ℕ)) → last_level (tree_levels trees ls) ≡ map (tree_at trees) (numbers_at ls (length ls - 1))
last_tree_is trees ls = ap (λ n. level_at (tree_levels trees ls) (n - 1)) (length-map ls (map (tree_at trees))) ∙ tree_is trees ls (length ls - 1)

map_joined : {A B C : Type 0} (f : B → C) (g : A → List B) (xs : List A) → map f (flat_map g xs) ≡ flat_map (λ x. map f (g x)) xs
map_joined f g [] = refl
map_joined f g (x ∷ xs) = map-append f (g x) (flat_map g xs) ∙ ap (λ t. map f (g x) ++ t) (map_joined f g xs)

-- to map what is joined of mapped elements
map_flat : {A B C D : Type 0} (f : C → D) (g : B → List C) (s : A → B) (xs : List A) → map f (flat_map g (map s xs)) ≡ flat_map (λ x. map f (g (s x))) xs
map_flat f g s xs = map_joined f g (map s xs) ∙ flat_map_of_map (λ b. map f (g b)) s xs

map_single : {A B : Type 0} (f : A → B) (b : Bool) (x : A) → map f (single b x) ≡ single b (f x)
map_single f true x = refl
map_single f false x = refl

filters_are : (task : TaskParts) (trees : List Tree) (ns : List ℕ) → map (part_told trees) (flat_map filter_on (map (seen_of task trees) ns)) ≡ map (told task) (filters_over (map (tree_at trees) ns))
filters_are task trees ns =
    let made : Tree → Told = λ child. told task (t.filter child Always) in
    map_flat (part_told trees) filter_on (seen_of task trees) ns
    ∙ flat_map_same (λ n. map (part_told trees) (filter_on (seen_of task trees n))) (λ n. single (takes_filter (tree_at trees n)) (made (tree_at trees n))) ns
    (λ n. map_single (part_told trees) (takes_filter (tree_at trees n)) (filter_part (seen_of task trees n)))
    ∙ sym (flat_map_of_map (λ x. single (takes_filter x) (made x)) (tree_at trees) ns)
    ∙ flat_map_singles made takes_filter (map (tree_at trees) ns)
    ∙ sym (map_twice (told task) (λ child. t.filter child Always) (list_filter takes_filter (map (tree_at trees) ns)))

-- the tree of two parts that meet so, and the test of two trees
abbrev met_tree : Meeting → Tree → Tree → Tree
met_tree (Pair kind) a b = t.pair kind a b Always
met_tree (Union kind) a b = t.unite kind a b

abbrev test_of : TaskParts → Meeting → Tree × Tree → Bool
test_of task (Pair kind) p = may_pair task kind p
test_of task (Union kind) p = may_unite task p

abbrev made_of : TaskParts → Meeting → Tree × Tree → Told
made_of task how p = told task (met_tree how p.0 p.1)

met_is : (task : TaskParts) (trees : List Tree) (how : Meeting) (a b : ℕ) → part_told trees (met how (seen_of task trees a) (seen_of task trees b)) ≡ made_of task how (tree_at trees a, tree_at trees b)
met_is task trees (Pair Join) a b = refl
met_is task trees (Pair Left) a b = refl
met_is task trees (Union All) a b = refl
met_is task trees (Union Firsts) a b = refl

on_is : (task : TaskParts) (trees : List Tree) (how : Meeting) (a b : ℕ) → pair_on task how (seen_of task trees a) (seen_of task trees b) ≡ single (test_of task how (tree_at trees a, tree_at trees b)) (met how (seen_of task trees a) (seen_of task trees b))
on_is task trees (Pair Join) a b = refl
on_is task trees (Pair Left) a b = refl
on_is task trees (Union kind) a b = refl

pair_is : (task : TaskParts) (trees : List Tree) (how : Meeting) (a b : ℕ)
    → map (part_told trees) (pair_on task how (seen_of task trees a) (seen_of task trees b)) ≡ single (test_of task how (tree_at trees a, tree_at trees b)) (made_of task how (tree_at trees a, tree_at trees b))
pair_is task trees how a b =
    ap (map (part_told trees)) (on_is task trees how a b)
    ∙ map_single (part_told trees) (test_of task how (tree_at trees a, tree_at trees b)) (met how (seen_of task trees a) (seen_of task trees b))
    ∙ ap (single (test_of task how (tree_at trees a, tree_at trees b))) (met_is task trees how a b)

with_is : (task : TaskParts) (trees : List Tree) (how : Meeting) (a : ℕ) (rights : List ℕ)
    → map (part_told trees) (flat_map (pair_on task how (seen_of task trees a)) (map (seen_of task trees) rights))
    ≡ map (made_of task how) (list_filter (test_of task how) (map (λ b. (tree_at trees a, b)) (map (tree_at trees) rights)))
with_is task trees how a rights =
    let pair : Tree → Tree × Tree = λ b. (tree_at trees a, b) in
    let kept : Tree × Tree → List Told = λ p. single (test_of task how p) (made_of task how p) in
    map_flat (part_told trees) (pair_on task how (seen_of task trees a)) (seen_of task trees) rights
    ∙ flat_map_same (λ b. map (part_told trees) (pair_on task how (seen_of task trees a) (seen_of task trees b))) (λ b. kept (pair (tree_at trees b))) rights (λ b. pair_is task trees how a b)
    ∙ sym (flat_map_of_map (λ x. kept (pair x)) (tree_at trees) rights)
    ∙ sym (flat_map_of_map kept pair (map (tree_at trees) rights))
    ∙ flat_map_singles (made_of task how) (test_of task how) (map pair (map (tree_at trees) rights))

between_is : (task : TaskParts) (trees : List Tree) (how : Meeting) (lefts rights : List ℕ)
    → map (part_told trees) (pairs_between task how (map (seen_of task trees) lefts) (map (seen_of task trees) rights))
    ≡ map (made_of task how) (list_filter (test_of task how) (products (map (tree_at trees) lefts) (map (tree_at trees) rights)))
between_is task trees how lefts rights =
    let others : List Tree = map (tree_at trees) rights in
    let kept : Tree → List Told = λ a. map (made_of task how) (list_filter (test_of task how) (map (λ b. (a, b)) others)) in
    map_flat (part_told trees) (λ a. flat_map (pair_on task how a) (map (seen_of task trees) rights)) (seen_of task trees) lefts
    ∙ flat_map_same (λ a. map (part_told trees) (flat_map (pair_on task how (seen_of task trees a)) (map (seen_of task trees) rights))) (λ a. kept (tree_at trees a)) lefts (λ a. with_is task trees how a rights)
    ∙ sym (flat_map_of_map kept (tree_at trees) lefts)
    ∙ sym (kept_joined (made_of task how) (test_of task how) (λ a. map (λ b. (a, b)) others) (map (tree_at trees) lefts))

at_is : (task : TaskParts) (trees : List Tree) (how : Meeting) (ls : List (List ℕ)) (i : ℕ)
    → map (part_told trees) (pairs_at task how (seen_levels task trees ls) i)
    ≡ map (made_of task how) (list_filter (test_of task how) (products (level_at (tree_levels trees ls) i) (level_at (tree_levels trees ls) (length (tree_levels trees ls) - 1 - i))))
at_is task trees how ls i =
    let j : ℕ = length ls - 1 - i in
    ap (λ n. map (part_told trees) (pairs_between task how (seen_at (seen_levels task trees ls) i) (seen_at (seen_levels task trees ls) (n - 1 - i)))) (length-map ls (map (seen_of task trees)))
    ∙ ap₂ (λ lefts rights. map (part_told trees) (pairs_between task how lefts rights)) (seen_is task trees ls i) (seen_is task trees ls j)
    ∙ between_is task trees how (numbers_at ls i) (numbers_at ls j)
    ∙ sym (ap₂ (λ lefts rights. map (made_of task how) (list_filter (test_of task how) (products lefts rights))) (tree_is trees ls i) (tree_is trees ls j))
    ∙ sym (ap (λ n. map (made_of task how) (list_filter (test_of task how) (products (level_at (tree_levels trees ls) i) (level_at (tree_levels trees ls) (n - 1 - i))))) (length-map ls (map (tree_at trees))))

pairs_are : (task : TaskParts) (trees : List Tree) (how : Meeting) (ls : List (List ℕ))
    → map (part_told trees) (pairs_on task how (seen_levels task trees ls)) ≡ map (made_of task how) (list_filter (test_of task how) (level_pairs (tree_levels trees ls)))
pairs_are task trees how ls =
    let seen = seen_levels task trees ls in
    let gl = tree_levels trees ls in
    let pairs : ℕ → List (Tree × Tree) = λ i. products (level_at gl i) (level_at gl (length gl - 1 - i)) in
    let size : length seen ≡ length gl = length-map ls (map (seen_of task trees)) ∙ sym (length-map ls (map (tree_at trees))) in
    map_joined (part_told trees) (pairs_at task how seen) (range_with_len 0 (length seen))
    ∙ ap (λ n. flat_map (λ i. map (part_told trees) (pairs_at task how seen i)) (range_with_len 0 n)) size
    ∙ flat_map_same (λ i. map (part_told trees) (pairs_at task how seen i)) (λ i. map (made_of task how) (list_filter (test_of task how) (pairs i))) (range_with_len 0 (length gl)) (at_is task trees how ls)
    ∙ sym (kept_joined (made_of task how) (test_of task how) pairs (range_with_len 0 (length gl)))

of_pairs : (task : TaskParts) (trees : List Tree) (kind : Pairing) (ls : List (List ℕ)) → map (part_told trees) (pairs_on task (Pair kind) (seen_levels task trees ls)) ≡ map (told task) (pairs_of task kind (level_pairs (tree_levels trees ls)))
of_pairs task trees kind ls = pairs_are task trees (Pair kind) ls ∙ sym (map_twice (told task) (λ p. t.pair kind p.0 p.1 Always) _)

of_unions : (task : TaskParts) (trees : List Tree) (kind : Uniting) (ls : List (List ℕ)) → map (part_told trees) (pairs_on task (Union kind) (seen_levels task trees ls)) ≡ map (told task) (unions_of task kind (level_pairs (tree_levels trees ls)))
of_unions task trees kind ls = pairs_are task trees (Union kind) ls ∙ sym (map_twice (told task) (λ p. t.unite kind p.0 p.1) _)

groups_over : (task : TaskParts) (trees : List Tree) (n : ℕ) → map (part_told trees) (groups_on task (seen_of task trees n)) ≡ map (told task) (groups_of task (tree_at trees n))
groups_over task trees n =
    let x = tree_at trees n in
    let aggs : List ℕ → List Agg = λ keys. agg_list task.aggregates (columns task.inputs x) keys in
    let lists = key_lists (length (columns task.inputs x)) in
    map_joined (part_told trees) (keyed_on task (seen_of task trees n)) lists
    ∙ flat_map_same (λ keys. map (part_told trees) (keyed_on task (seen_of task trees n) keys)) (λ keys. map (told task) (map (t.group x keys) (aggs keys))) lists
    (λ keys. map_twice (part_told trees) (group_on (seen_of task trees n) keys) (aggs keys) ∙ sym (map_twice (told task) (t.group x keys) (aggs keys)))
    ∙ sym (map_joined (told task) (λ keys. map (t.group x keys) (aggs keys)) lists)

groups_are : (task : TaskParts) (trees : List Tree) (ns : List ℕ) → map (part_told trees) (flat_map (groups_on task) (map (seen_of task trees) ns)) ≡ map (told task) (flat_map (groups_of task) (map (tree_at trees) ns))
groups_are task trees ns =
    map_flat (part_told trees) (groups_on task) (seen_of task trees) ns
    ∙ flat_map_same (λ n. map (part_told trees) (groups_on task (seen_of task trees n))) (λ n. map (told task) (groups_of task (tree_at trees n))) ns (groups_over task trees)
    ∙ sym (map_flat (told task) (groups_of task) (tree_at trees) ns)

six : {A B C : Type 0} (v : A → C) (f : B → C) (a b c d e g : List A) (a1 b1 c1 d1 e1 g1 : List B)
    → map v a ≡ map f a1 → map v b ≡ map f b1 → map v c ≡ map f c1 → map v d ≡ map f d1 → map v e ≡ map f e1 → map v g ≡ map f g1
    → map v ((a ++ (b ++ c)) ++ (d ++ (e ++ g))) ≡ map f (a1 ++ (b1 ++ (c1 ++ (d1 ++ (e1 ++ g1)))))
six v f a b c d e g a1 b1 c1 d1 e1 g1 ea eb ec ed ee eg = simp (map-append, append_assoc, ea, eb, ec, ed, ee, eg) refl

-- the next level, with what is asked of it
pub next_is : (task : TaskParts) (trees : List Tree) (ls : List (List ℕ)) → map (part_told trees) (next_parts task (seen_levels task trees ls)) ≡ map (told task) (next_level task (tree_levels trees ls))
next_is task trees ls =
    let ns = numbers_at ls (length ls - 1) in
    let ps = level_pairs (tree_levels trees ls) in
    let filters = ap (λ l. map (part_told trees) (flat_map filter_on l)) (last_seen_is task trees ls) ∙ filters_are task trees ns ∙ ap (λ l. map (told task) (filters_over l)) (sym (last_tree_is trees ls)) in
    let groups = ap (λ l. map (part_told trees) (flat_map (groups_on task) l)) (last_seen_is task trees ls) ∙ groups_are task trees ns ∙ ap (λ l. map (told task) (flat_map (groups_of task) l)) (sym (last_tree_is trees ls)) in
    six (part_told trees) (told task) _ _ _ _ _ _ (filters_over (last_level (tree_levels trees ls))) (pairs_of task Join ps) (pairs_of task Left ps) (flat_map (groups_of task) (last_level (tree_levels trees ls))) (unions_of task All ps) (unions_of task Firsts ps)
    filters (of_pairs task trees Join ls) (of_pairs task trees Left ls) groups (of_unions task trees All ls) (of_unions task trees Firsts ls)

-- the inputs, with what is asked of them
pub bases_are : (task : TaskParts) (trees : List Tree) → map (part_told trees) (base_parts task) ≡ map (told task) (bases task)
bases_are task trees = map_twice (part_told trees) (base_part task) (range_with_len 0 (length task.inputs)) ∙ sym (map_twice (told task) t.base (range_with_len 0 (length task.inputs)))

-- Each skeleton stands once in the list of skeletons.
use Rattle.std.proofs.Common.{◌≡◌, refl, sym, ap, ◌∙◌, subst, subst₂, ℕ, zero, suc, ◌+◌, ◌-◌, ◌≤◌, Bool, true, false, not, ◌==◌, ◌⊎◌, inl, inr, List, [], ◌∷◌, ◌++◌, map, length, arith}
use Rattle.std.specs.Prelude.{filter as list_filter, flat_map}
use Rattle.std.specs.List.{range_with_len, list_any}
use Rattle.value_core.specs.Value.{same_type}
use Rattle.value_core.specs.declared.value.ColType.{ColType}
use Rattle.value_core.specs.declared.value.ColType.TheVariants as type
use Rattle.predicate_core.specs.Atoms.{pairs}
use Rattle.predicate_core.specs.declared.pred.Pred.TheVariants.{Always}
use Rattle.predicate_core.specs.Laws.{EachOnce}
use Rattle.predicate_core.proofs.OnceLists.{In, Once, in_same, in_append, in_map, once_append, once_map, each_once, once_pairs}
use Rattle.table_core.specs.declared.agg_set.AggSet.{AggSet}
use Rattle.table_core.specs.declared.task.TaskParts.{TaskParts}
use Rattle.query_core.specs.Tree.{Tree}
use Rattle.query_core.specs.Tree as t
use Rattle.query_core.specs.Meaning.{columns, type_at}
use Rattle.query_core.specs.declared.agg.Agg.{Agg}
use Rattle.query_core.specs.declared.agg.Agg.TheVariants.{CountAll, Count, CountDistinct, Sum, Min, Max}
use Rattle.query_core.specs.declared.kinds.Pairing.{Pairing}
use Rattle.query_core.specs.declared.kinds.Pairing.TheVariants.{Join, Left}
use Rattle.query_core.specs.declared.kinds.Uniting.{Uniting}
use Rattle.query_core.specs.declared.kinds.Uniting.TheVariants.{All, Firsts}
use Rattle.query_core.specs.Grammar.{takes_filter, may_pair, may_unite, level_at, products, level_pairs, last_level, key_lists, free_columns, int_columns, allowed, agg_list, groups_of, next_level, bases, levels, skeletons}
use Rattle.query_core.specs.Skeleton.{operators}
use Rattle.query_laws.proofs.LevelLaws.{levels_length, pair_with, in_products, pairs_from, in_pairs_of_levels}
use Rattle.query_laws.proofs.MemberLaws.{in_one, in_flat_map}
use Rattle.query_laws.proofs.JoinedLists.{once_one, once_filter, once_flat_map, once_range, Each, each_append, each_kept, IsOf, from_of, from_both, of_map}

-- an aggregate's kind, in the order of the list
abbrev agg_kind : Agg → ℕ
agg_kind CountAll = 0
agg_kind (Count column) = 1
agg_kind (CountDistinct column) = 2
agg_kind (Sum column) = 3
agg_kind (Min column) = 4
agg_kind (Max column) = 5

-- the aggregates of one kind, where they are allowed
of_allowed : (n : ℕ) (flag : Bool) (f : ℕ → Agg) → ((a b : ℕ) → f a ≡ f b → a ≡ b) → ((column : ℕ) → agg_kind (f column) ≡ n) → (places : List ℕ) → Once places → IsOf agg_kind n (allowed flag (map f places))
of_allowed n true f apart is places once = of_map agg_kind n f apart is places once
of_allowed n false f apart is places once = (tt, λ x i. absurd i)

of_count_all : (flag : Bool) → IsOf agg_kind 0 (allowed flag (CountAll ∷ []))
of_count_all true = (once_one CountAll, λ x i. ap agg_kind (in_one x CountAll i))
of_count_all false = (tt, λ x i. absurd i)

-- the columns that may be aggregated, each once
once_free : (width : ℕ) (keys : List ℕ) → Once (free_columns width keys)
once_free width keys = once_filter (λ i. not (list_any (λ k. k == i) keys)) (range_with_len 0 width) (once_range 0 width)

once_ints : (types : List ColType) (places : List ℕ) → Once places → Once (int_columns types places)
once_ints types places once = once_filter (λ i. same_type (type_at types i) type.Int) places once

-- each aggregate stands once
once_aggs : (set : AggSet) (types : List ColType) (keys : List ℕ) → Once (agg_list set types keys)
once_aggs set types keys =
    let free = free_columns (length types) keys in
    let once = once_free (length types) keys in
    let counts = of_allowed 1 set.count Count (λ a b e. cc) (λ c. refl) free once in
    let distincts = of_allowed 2 set.count_distinct CountDistinct (λ a b e. cc) (λ c. refl) free once in
    let sums = of_allowed 3 set.sum Sum (λ a b e. cc) (λ c. refl) (int_columns types free) (once_ints types free once) in
    let minima = of_allowed 4 set.min Min (λ a b e. cc) (λ c. refl) free once in
    let maxima = from_of agg_kind 5 _ (of_allowed 5 set.max Max (λ a b e. cc) (λ c. refl) free once) in
    (from_both agg_kind 0 _ _ (of_count_all set.count_all) (from_both agg_kind 1 _ _ counts (from_both agg_kind 2 _ _ distincts (from_both agg_kind 3 _ _ sums (from_both agg_kind 4 _ _ minima maxima))))).0

-- each list of keys stands once

one_key_same : (a b : ℕ) → ◌≡◌ {A = List ℕ} (a ∷ []) (b ∷ []) → a ≡ b
one_key_same a b e = cc

two_keys_same : (p q : ℕ × ℕ) → ◌≡◌ {A = List ℕ} (p.0 ∷ p.1 ∷ []) (q.0 ∷ q.1 ∷ []) → p ≡ q
two_keys_same (a, b) (c, d) e = let x : a ≡ c = cc in let y : b ≡ d = cc in cc

once_keys : (width : ℕ) → Once (key_lists width)
once_keys width =
    let once = once_range 0 width in
    let none : IsOf {X = List ℕ} length 0 ([] ∷ []) = (once_one {X = List ℕ} [], λ x i. ap length (in_one x [] i)) in
    let ones = of_map length 1 (λ i. i ∷ []) one_key_same (λ i. refl) (range_with_len 0 width) once in
    let twos = of_map length 2 (λ p. p.0 ∷ p.1 ∷ []) two_keys_same (λ p. refl) (pairs (range_with_len 0 width)) (once_pairs (range_with_len 0 width) once) in
    (from_both length 0 ([] ∷ []) _ none (from_both length 1 _ _ ones (from_of length 2 _ twos))).0

-- the groups over a tree with these keys
abbrev groups_by : TaskParts → Tree → List ℕ → List Tree
groups_by task child keys = map (t.group child keys) (agg_list task.aggregates (columns task.inputs child) keys)

in_groups_by : (task : TaskParts) (child : Tree) (keys : List ℕ) (x : Tree) → In x (groups_by task child keys) → (agg : Agg) × (x ≡ t.group child keys agg)
in_groups_by task child keys x i = let h = in_map (t.group child keys) x (agg_list task.aggregates (columns task.inputs child) keys) i in (h.0, h.2)

pub in_groups : (task : TaskParts) (child x : Tree) → In x (groups_of task child) → (keys : List ℕ) × (agg : Agg) × (x ≡ t.group child keys agg)
in_groups task child x i =
    let h = in_flat_map (groups_by task child) x (key_lists (length (columns task.inputs child))) i in
    let g = in_groups_by task child h.0 x h.2 in
    (h.0, g.0, g.1)

-- a group tells its keys
keys_same : (task : TaskParts) (child : Tree) (keys others : List ℕ) (x : Tree) → In x (groups_by task child keys) → In x (groups_by task child others) → keys ≡ others
keys_same task child keys others x a b =
    let g = in_groups_by task child keys x a in
    let h = in_groups_by task child others x b in
    let e : t.group child keys g.0 ≡ t.group child others h.0 = sym g.1 ∙ h.1 in
    cc

-- each group over a tree stands once
once_groups : (task : TaskParts) (child : Tree) → Once (groups_of task child)
once_groups task child =
    once_flat_map (groups_by task child) (λ keys. once_map (t.group child keys) (λ a b e. cc) _ (once_aggs task.aggregates (columns task.inputs child) keys)) (keys_same task child) (key_lists (length (columns task.inputs child))) (once_keys (length (columns task.inputs child)))

-- and its child
child_same : (task : TaskParts) (child other x : Tree) → In x (groups_of task child) → In x (groups_of task other) → child ≡ other
child_same task child other x a b =
    let g = in_groups task child x a in
    let h = in_groups task other x b in
    let e : t.group child g.0 g.1 ≡ t.group other h.0 h.1 = sym g.2 ∙ h.2 in
    cc

-- what holds of each group over a tree
each_group : (P : Tree → Type 0) (task : TaskParts) (children : List Tree) → ((keys : List ℕ) (agg : Agg) → Each (λ child. P (t.group child keys agg)) children) → Each P (flat_map (groups_of task) children)
each_group P task children each x i =
    let h = in_flat_map (groups_of task) x children i in
    let g = in_groups task h.0 x h.2 in
    subst P (sym g.2) (each g.0 g.1 h.0 h.1)

in_pair_with : (rights : List Tree) (a : Tree) (p : Tree × Tree) → In p (pair_with rights a) → (p.0 ≡ a) × In p.1 rights
in_pair_with rights a p i =
    let pair : Tree → Tree × Tree = λ b. (a, b) in
    let h = in_map pair p rights i in
    (ap (λ q. q.0) h.2, in_same p.1 h.0 rights (ap (λ q. q.1) h.2) h.1)

once_products : (lefts rights : List Tree) → Once lefts → Once rights → Once (products lefts rights)
once_products lefts rights left right =
    once_flat_map (pair_with rights) (λ a. once_map (λ b. (a, b)) (λ b c e. ap (λ q. q.1) e) rights right)
    (λ a c p i j. sym (in_pair_with rights a p i).0 ∙ (in_pair_with rights c p j).0) lefts left

-- each tree of the level of a number has so many operators, and stands once there
abbrev LevelsOnce : List (List Tree) → Type 0
LevelsOnce ls = (k : ℕ) → IsOf operators k (level_at ls k)

once_level_pairs : (ls : List (List Tree)) → LevelsOnce ls → Once (level_pairs ls)
once_level_pairs ls once =
    once_flat_map (pairs_from ls) (λ i. once_products (level_at ls i) (level_at ls (length ls - 1 - i)) (once i).0 (once (length ls - 1 - i)).0)
    (λ i j p a b.
    let left = (in_products (level_at ls i) (level_at ls (length ls - 1 - i)) p a).0 in
    let right = (in_products (level_at ls j) (level_at ls (length ls - 1 - j)) p b).0 in
    sym ((once i).1 p.0 left) ∙ (once j).1 p.0 right)
    (range_with_len 0 (length ls)) (once_range 0 (length ls))

-- the next level

-- what holds of each kind of tree of the next level holds of each tree of it
pub next_each : (task : TaskParts) (ls : List (List Tree)) (P : Tree → Type 0)
    → Each (λ child. P (t.filter child Always)) (last_level ls)
    → Each (λ p. ((kind : Pairing) → P (t.pair kind p.0 p.1 Always)) × ((kind : Uniting) → P (t.unite kind p.0 p.1))) (level_pairs ls)
    → ((keys : List ℕ) (agg : Agg) → Each (λ child. P (t.group child keys agg)) (last_level ls))
    → Each P (next_level task ls)
next_each task ls P on_filter on_pair on_group =
    let last = last_level ls in
    let ps = level_pairs ls in
    let filters = each_kept P (λ child. t.filter child Always) takes_filter last on_filter in
    let pairs = λ (kind : Pairing). each_kept P (λ p. t.pair kind p.0 p.1 Always) (may_pair task kind) ps (λ p i. (on_pair p i).0 kind) in
    let groups = each_group P task last on_group in
    let unions = λ (kind : Uniting). each_kept P (λ p. t.unite kind p.0 p.1) (may_unite task) ps (λ p i. (on_pair p i).1 kind) in
    each_append P _ _ filters (each_append P _ _ (pairs Join) (each_append P _ _ (pairs Left) (each_append P _ _ groups (each_append P _ _ (unions All) (unions Firsts)))))

-- a tree's kind, in the order of the next level
abbrev pair_place : Pairing → ℕ
pair_place Join = 1
pair_place Left = 2

abbrev union_place : Uniting → ℕ
union_place All = 4
union_place Firsts = 5

abbrev tree_kind : Tree → ℕ
tree_kind (t.filter child p) = 0
tree_kind (t.pair kind a b p) = pair_place kind
tree_kind (t.group child keys agg) = 3
tree_kind (t.unite kind a b) = union_place kind
tree_kind (t.base table) = 6

pair_same : (kind : Pairing) (p q : Tree × Tree) → t.pair kind p.0 p.1 Always ≡ t.pair kind q.0 q.1 Always → p ≡ q
pair_same kind (a, b) (c, d) e = let x : a ≡ c = cc in let y : b ≡ d = cc in cc

union_same : (kind : Uniting) (p q : Tree × Tree) → t.unite kind p.0 p.1 ≡ t.unite kind q.0 q.1 → p ≡ q
union_same kind (a, b) (c, d) e = let x : a ≡ c = cc in let y : b ≡ d = cc in cc

-- the trees of one kind over those of a list that pass a test
of_kept : {X : Type 0} (n : ℕ) (f : X → Tree) → ((a b : X) → f a ≡ f b → a ≡ b) → ((x : X) → tree_kind (f x) ≡ n) → (test : X → Bool) (xs : List X) → Once xs → IsOf tree_kind n (map f (list_filter test xs))
of_kept n f apart is test xs once = of_map tree_kind n f apart is (list_filter test xs) (once_filter test xs once)

of_groups : (task : TaskParts) (last : List Tree) → Once last → IsOf tree_kind 3 (flat_map (groups_of task) last)
of_groups task last once = (
  once_flat_map (groups_of task) (once_groups task) (child_same task) last once,
  λ x i. let h = in_flat_map (groups_of task) x last i in ap tree_kind (in_groups task h.0 x h.2).2,
)

-- each tree of the next level stands once
once_next : (task : TaskParts) (ls : List (List Tree)) → LevelsOnce ls → Once (next_level task ls)
once_next task ls once =
    let last = last_level ls in
    let of_last = (once (length ls - 1)).0 in
    let ps = level_pairs ls in
    let of_pairs = once_level_pairs ls once in
    let filters = of_kept 0 (λ child. t.filter child Always) (λ a b e. cc) (λ c. refl) takes_filter last of_last in
    let pairs = λ (kind : Pairing). of_kept (pair_place kind) (λ p. t.pair kind p.0 p.1 Always) (pair_same kind) (λ p. refl) (may_pair task kind) ps of_pairs in
    let groups = of_groups task last of_last in
    let unions = λ (kind : Uniting). of_kept (union_place kind) (λ p. t.unite kind p.0 p.1) (union_same kind) (λ p. refl) (may_unite task) ps of_pairs in
    (from_both tree_kind 0 _ _ filters (from_both tree_kind 1 _ _ (pairs Join) (from_both tree_kind 2 _ _ (pairs Left) (from_both tree_kind 3 _ _ groups (from_both tree_kind 4 _ _ (unions All) (from_of tree_kind 5 _ (unions Firsts))))))).0

-- each tree of the next level has an operator more
next_operators : (task : TaskParts) (ls : List (List Tree)) → 1 ≤ length ls → LevelsOnce ls → Each (λ x. operators x ≡ length ls) (next_level task ls)
next_operators task ls some once =
    next_each task ls (λ x. operators x ≡ length ls)
    (λ child i. over child i)
    (λ p i. let sum = of_pair p i in (λ kind. sum, λ kind. sum))
    (λ keys agg child i. over child i)
  where
    over : (child : Tree) → In child (last_level ls) → operators child + 1 ≡ length ls
    over child i = omega (arith, (once (length ls - 1)).1 child i)

    of_pair : (p : Tree × Tree) → In p (level_pairs ls) → (operators p.0 + operators p.1) + 1 ≡ length ls
    of_pair p i =
        let h = in_pairs_of_levels ls p i in
        omega (arith, h.1, (once h.0).1 p.0 h.2, (once (length ls - 1 - h.0)).1 p.1 h.3)

-- the level of a number, where there is one level more
level_more : (ls : List (List Tree)) (next : List Tree) (k : ℕ) → (level_at (ls ++ next ∷ []) k ≡ level_at ls k) ⊎ ((k ≡ length ls) × (level_at (ls ++ next ∷ []) k ≡ next))
level_more [] next zero = inr (refl, refl)
level_more [] next (suc k) = inl refl
level_more (l ∷ ls) next zero = inl refl
level_more (l ∷ ls) next (suc k) = elim (level_more ls next k) [ inl e ↦ inl e | inr h ↦ inr (ap suc h.0, h.1) ]

-- what holds of no trees, of the inputs, and of a next level where it holds of the levels before, holds of all levels
pub levels_each : (task : TaskParts) (P : ℕ → List Tree → Type 0) → ((k : ℕ) → P k []) → P 0 (bases task) → ((ls : List (List Tree)) → 1 ≤ length ls → ((k : ℕ) → P k (level_at ls k)) → P (length ls) (next_level task ls))
    → (n k : ℕ) → P k (level_at (levels task n) k)
levels_each task P none first next zero zero = first
levels_each task P none first next zero (suc k) = none (suc k)
levels_each task P none first next (suc n) k =
    let before = levels_each task P none first next n in
    elim (level_more (levels task n) (next_level task (levels task n)) k) [
      | inl e ↦ subst (λ trees. P k trees) (sym e) (before k)
      | inr h ↦ subst₂ P (sym h.0) (sym h.1) (next (levels task n) (omega (arith, levels_length task n)) before)
    ]

levels_once : (task : TaskParts) (n : ℕ) → LevelsOnce (levels task n)
levels_once task n =
    levels_each task (IsOf operators) (λ k. (tt, λ x i. absurd i))
    (of_map operators 0 t.base (λ a b e. cc) (λ table. refl) (range_with_len 0 (length task.inputs)) (once_range 0 (length task.inputs)))
    (λ ls some once. (once_next task ls once, next_operators task ls some once)) n

-- all levels together

pub in_levels : (ls : List (List Tree)) (x : Tree) → In x (flat_map (λ level. level) ls) → (k : ℕ) × In x (level_at ls k)
in_levels [] x i = absurd i
in_levels (l ∷ ls) x i =
    elim (in_append x l (flat_map (λ level. level) ls) i) [
      | inl a ↦ (zero, a)
      | inr b ↦ let h = in_levels ls x b in (suc h.0, h.1)
    ]

-- where each stands once in its level, and no two levels have a common tree, each stands once in all levels
once_levels : (ls : List (List Tree)) → ((k : ℕ) → Once (level_at ls k)) → ((j k : ℕ) (x : Tree) → In x (level_at ls j) → In x (level_at ls k) → j ≡ k) → Once (flat_map (λ level. level) ls)
once_levels [] once apart = tt
once_levels (l ∷ ls) once apart =
    once_append l (flat_map (λ level. level) ls) (once zero) (once_levels ls (λ k. once (suc k)) (λ j k x a b. omega (arith, apart (suc j) (suc k) x a b)))
    (λ x a b. let h = in_levels ls x b in omega (arith, apart zero (suc h.0) x a h.1))

-- each skeleton stands once, from the front
pub skeletons_stand_once : (task : TaskParts) → Once (skeletons task)
skeletons_stand_once task =
    let once = levels_once task task.ops in
    once_levels (levels task task.ops) (λ k. (once k).0) (λ j k x a b. sym ((once j).1 x a) ∙ (once k).1 x b)

-- and by places
pub skeletons_once : (task : TaskParts) → EachOnce (skeletons task)
skeletons_once task = each_once (skeletons task) (skeletons_stand_once task)

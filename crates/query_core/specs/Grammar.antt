-- The bounded grammar: skeletons by levels, and the queries of each.
use Rattle.std.specs.Prelude.{ℕ, zero, suc, ◌+◌, ◌-◌, Bool, true, false, not, ◌&&◌, ◌==◌, nat_le, List, [], ◌∷◌, ◌++◌, map, flat_map, length, drop, slice_get, unwrap_or, if◌then◌else◌}
use Rattle.std.specs.Prelude.{filter as list_filter}
use Rattle.std.specs.List.{range_with_len, enumerate_from, list_any}
use Rattle.std.specs.Ordering.{nat_cmp, is_gt}
use Rattle.std.specs.Cmp.Lexicographic.{slice_cmp, pointwise}
use Rattle.value_core.specs.Value.{same_type}
use Rattle.value_core.specs.declared.value.ColType.{ColType}
use Rattle.value_core.specs.declared.value.ColType.TheVariants as kind
use Rattle.predicate_core.specs.Atoms.{atom_list, pred_list, pairs}
use Rattle.predicate_core.specs.declared.pred.Pred.{Pred}
use Rattle.predicate_core.specs.declared.pred.Pred.TheVariants.{Always}
use Rattle.table_core.specs.Rows.{types_of}
use Rattle.table_core.specs.declared.agg_set.AggSet.{AggSet}
use Rattle.table_core.specs.declared.task.TaskParts.{TaskParts}
use Rattle.query_core.specs.Tree.{Tree, Select}
use Rattle.query_core.specs.Tree as t
use Rattle.query_core.specs.Meaning.{columns, hole_types, type_at}
use Rattle.query_core.specs.declared.agg.Agg.{Agg}
use Rattle.query_core.specs.declared.agg.Agg.TheVariants.{CountAll, Count, CountDistinct, Sum, Min, Max}
use Rattle.query_core.specs.declared.kinds.Pairing.{Pairing}
use Rattle.query_core.specs.declared.kinds.Pairing.TheVariants.{Join, Left}
use Rattle.query_core.specs.declared.kinds.Uniting.{Uniting}
use Rattle.query_core.specs.declared.kinds.Uniting.TheVariants.{All, Firsts}

-- A skeleton is a tree whose predicates are still open: each stands as Always.

-- the table numbers of a tree's leaves, from left to right
abbrev pub leaves : Tree → List ℕ
leaves (t.base table) = table ∷ []
leaves (t.filter child p) = leaves child
leaves (t.pair kind a b p) = leaves a ++ leaves b
leaves (t.group child keys agg) = leaves child
leaves (t.unite kind a b) = leaves a ++ leaves b

-- whether a filter may stand over a pair: not over a join, whose own predicate says the same
abbrev pub pair_takes_filter : Pairing → Bool
pair_takes_filter Join = false
pair_takes_filter Left = true

-- whether a filter may stand over a tree: not over another filter, nor over a join
abbrev pub takes_filter : Tree → Bool
takes_filter (t.base table) = true
takes_filter (t.filter child p) = false
takes_filter (t.pair kind a b p) = pair_takes_filter kind
takes_filter (t.group child keys agg) = true
takes_filter (t.unite kind a b) = true

-- whether two trees may be parts of one: they have no more leaves than the task allows
abbrev pub may_meet : TaskParts → Tree × Tree → Bool
may_meet task p = nat_le (length (leaves p.0) + length (leaves p.1)) task.leaves

-- whether two parts stand in order: the left part's leaves don't come after the right part's
abbrev pub in_order : Tree × Tree → Bool
in_order p = not (is_gt (slice_cmp nat_cmp (leaves p.0) (leaves p.1)))

-- whether two parts have the same column types
abbrev pub same_types : TaskParts → Tree × Tree → Bool
same_types task p = pointwise same_type (columns task.inputs p.0) (columns task.inputs p.1)

-- whether two parts may stand in this order in a pair: those of a join in the order of their leaves
abbrev pub pair_in_order : Pairing → Tree × Tree → Bool
pair_in_order Join p = in_order p
pair_in_order Left p = true

-- whether two trees may be a pair
abbrev pub may_pair : TaskParts → Pairing → Tree × Tree → Bool
may_pair task kind p = may_meet task p && pair_in_order kind p

-- whether two trees may be united
abbrev pub may_unite : TaskParts → Tree × Tree → Bool
may_unite task p = (may_meet task p && in_order p) && same_types task p

-- the level of a number, empty where there is none
abbrev pub level_at : List (List Tree) → ℕ → List Tree
level_at levels n = unwrap_or (slice_get levels n) []

-- each tree of one list with each of another
abbrev pub products : List Tree → List Tree → List (Tree × Tree)
products lefts rights = flat_map (λ a. map (λ b. (a, b)) rights) lefts

-- the pairs of trees of the levels so far that together have an operator less than so many levels have
abbrev pub level_pairs : List (List Tree) → List (Tree × Tree)
level_pairs levels = flat_map (λ i. products (level_at levels i) (level_at levels (length levels - 1 - i))) (range_with_len 0 (length levels))

-- the trees of the last level
abbrev pub last_level : List (List Tree) → List Tree
last_level levels = level_at levels (length levels - 1)

-- the filters over some trees
abbrev pub filters_over : List Tree → List Tree
filters_over last = map (λ child. t.filter child Always) (list_filter takes_filter last)

-- the pairs of a kind, and the unions of a kind, of some two trees
abbrev pub pairs_of : TaskParts → Pairing → List (Tree × Tree) → List Tree
pairs_of task kind ps = map (λ p. t.pair kind p.0 p.1 Always) (list_filter (may_pair task kind) ps)

abbrev pub unions_of : TaskParts → Uniting → List (Tree × Tree) → List Tree
unions_of task kind ps = map (λ p. t.unite kind p.0 p.1) (list_filter (may_unite task) ps)

-- the key lists over so many columns: none, then single columns, then pairs of ascending columns
abbrev pub key_lists : ℕ → List (List ℕ)
key_lists width = ([] ∷ map (λ i. i ∷ []) (range_with_len 0 width)) ++ map (λ p. p.0 ∷ p.1 ∷ []) (pairs (range_with_len 0 width))

-- the columns that are no keys, ascending
abbrev pub free_columns : ℕ → List ℕ → List ℕ
free_columns width keys = list_filter (λ i. not (list_any (λ k. k == i) keys)) (range_with_len 0 width)

-- the columns of these that have whole numbers
abbrev pub int_columns : List ColType → List ℕ → List ℕ
int_columns types places = list_filter (λ i. same_type (type_at types i) kind.Int) places

-- these, where they are allowed
abbrev pub allowed : {A : Type 0} → Bool → List A → List A
allowed flag xs = if flag then xs else []

-- the aggregates that the task allows over columns of these types, with these keys
abbrev pub agg_list : AggSet → List ColType → List ℕ → List Agg
agg_list set types keys =
    allowed set.count_all (CountAll ∷ []) ++ (
    allowed set.count (map Count (free_columns (length types) keys)) ++ (
    allowed set.count_distinct (map CountDistinct (free_columns (length types) keys)) ++ (
    allowed set.sum (map Sum (int_columns types (free_columns (length types) keys))) ++ (
    allowed set.min (map Min (free_columns (length types) keys)) ++
    allowed set.max (map Max (free_columns (length types) keys))))))

-- the groups over a tree: for each list of keys each aggregate
abbrev pub groups_of : TaskParts → Tree → List Tree
groups_of task child =
    flat_map (λ keys. map (t.group child keys) (agg_list task.aggregates (columns task.inputs child) keys)) (key_lists (length (columns task.inputs child)))

-- the skeletons with one operator more than the levels so far have
abbrev pub next_level : TaskParts → List (List Tree) → List Tree
next_level task levels =
    filters_over (last_level levels) ++ (
    pairs_of task Join (level_pairs levels) ++ (
    pairs_of task Left (level_pairs levels) ++ (
    flat_map (groups_of task) (last_level levels) ++ (
    unions_of task All (level_pairs levels) ++
    unions_of task Firsts (level_pairs levels)))))

-- the skeletons with no operator: the inputs in order
abbrev pub bases : TaskParts → List Tree
bases task = map t.base (range_with_len 0 (length task.inputs))

-- the levels of the skeletons with at most so many operators
abbrev pub levels : TaskParts → ℕ → List (List Tree)
levels task zero = bases task ∷ []
levels task (suc n) = levels task n ++ next_level task (levels task n) ∷ []

-- all skeletons of a task, level by level; the number of a skeleton is its place
abbrev pub skeletons : TaskParts → List Tree
skeletons task = flat_map (λ level. level) (levels task task.ops)

-- the predicates over columns of these types
abbrev pub predicates : TaskParts → List ColType → List Pred
predicates task types = pred_list (atom_list types task.constants) task.atoms

-- the predicates that a filter may have: all but the first, which is Always
abbrev pub filter_predicates : TaskParts → List ColType → List Pred
filter_predicates task types = drop 1 (predicates task types)

-- what a function gives of each tree of one list with each of another
abbrev pub of_each : {A : Type 0} → (Tree → Tree → List A) → List Tree → List Tree → List A
of_each f xs ys = flat_map (λ x. flat_map (f x) ys) xs

-- the trees of a filter over a filled child, and of a pair of filled parts, one for each predicate
abbrev pub filters_filled : TaskParts → Tree → List Tree
filters_filled task child = map (t.filter child) (filter_predicates task (columns task.inputs child))

abbrev pub pairs_filled : TaskParts → Pairing → Tree → Tree → List Tree
pairs_filled task kind a b = map (t.pair kind a b) (predicates task (hole_types task.inputs a b))

-- each way to fill the holes of a skeleton
abbrev pub fillings : TaskParts → Tree → List Tree
fillings task (t.base table) = t.base table ∷ []
fillings task (t.filter child p) = flat_map (filters_filled task) (fillings task child)
fillings task (t.pair kind a b p) = of_each (pairs_filled task kind) (fillings task a) (fillings task b)
fillings task (t.group child keys agg) = map (λ c. t.group c keys agg) (fillings task child)
fillings task (t.unite kind a b) = of_each (λ x y. t.unite kind x y ∷ []) (fillings task a) (fillings task b)

-- the places of the columns of a type, numbered from `at`
abbrev pub places_of : ColType → ℕ → List ColType → List ℕ
places_of t at [] = []
places_of t at (u ∷ us) = if same_type t u then at ∷ places_of t (at + 1) us else places_of t (at + 1) us

-- each choice of body columns for output columns of these types, in order
abbrev pub maps : List ColType → List ColType → List (List ℕ)
maps body [] = [] ∷ []
maps body (t ∷ ts) = flat_map (λ at. map (λ rest. at ∷ rest) (maps body ts)) (places_of t 0 body)

-- a body with this map, with and without removal of duplicates
abbrev pub with_flags : Tree → List ℕ → List Select
with_flags body picks = record { body = body; picks = picks; distinct = false } ∷ record { body = body; picks = picks; distinct = true } ∷ []

-- the queries of a body
abbrev pub queries_of_body : TaskParts → Tree → List Select
queries_of_body task body = flat_map (with_flags body) (maps (columns task.inputs body) (types_of task.output))

-- the queries of a skeleton
abbrev pub queries_of : TaskParts → Tree → List Select
queries_of task skeleton = flat_map (queries_of_body task) (fillings task skeleton)

-- a query with the number of its skeleton
pub record Numbered : Type 0 where
  pub skeleton : ℕ
  pub query : Select

-- the queries of a skeleton of this number, numbered
abbrev pub numbered : TaskParts → ℕ × Tree → List Numbered
numbered task s = map (λ q. record { skeleton = s.0; query = q }) (queries_of task s.1)

-- all queries of a task's grammar, each with the number of its skeleton
abbrev pub queries : TaskParts → List Numbered
queries task = flat_map (numbered task) (enumerate_from 0 (skeletons task))

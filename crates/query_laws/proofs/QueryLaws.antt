-- Each query stands once in the grammar.
use Rattle.std.proofs.Common.{◌≡◌, refl, sym, ap, ◌∙◌, subst, ap₂, ℕ, ◌+◌, Bool, true, false, inl, inr, List, [], ◌∷◌, ◌++◌, map, arith, map-id, length, ◌-◌}
use Rattle.std.specs.Prelude.{flat_map}
use Rattle.std.specs.List.{enumerate_from}
use Rattle.std.proofs.lemmas.Bool.{false≢true}
use Rattle.std.proofs.lemmas.List.{map-append}
use Rattle.value_core.specs.declared.value.ColType.{ColType}
use Rattle.value_core.specs.Value.{same_type}
use Rattle.predicate_core.specs.declared.pred.Pred.TheVariants.{Always}
use Rattle.predicate_core.specs.Laws.{EachOnce}
use Rattle.predicate_core.proofs.OnceLists.{In, Once, in_same, in_map, once_map, each_once}
use Rattle.table_core.specs.Rows.{types_of}
use Rattle.table_core.specs.declared.task.TaskParts.{TaskParts}
use Rattle.query_core.specs.Tree.{Tree, Select}
use Rattle.query_core.specs.Tree as t
use Rattle.query_core.specs.Meaning.{columns}
use Rattle.query_core.specs.Grammar.{level_at, levels, next_level, skeletons, fillings, places_of, maps, with_flags, queries_of_body, queries_of, numbered}
use Rattle.query_core.proofs.MapLaws.{map_twice}
use Rattle.query_laws.specs.Laws.{plain_queries}
use Rattle.query_laws.proofs.LevelLaws.{in_pairs_of_levels}
use Rattle.query_laws.proofs.MemberLaws.{in_one, in_flat_map}
use Rattle.query_laws.proofs.JoinedLists.{once_one, once_flat_map, once_flat_map_in, Each, each_map, IsFrom, from_both}
use Rattle.query_laws.proofs.FillingLaws.{in_filter_fillings, in_pair_fillings, in_group_fillings, in_union_fillings, once_fillings}
use Rattle.query_laws.proofs.SkeletonOnceLaws.{next_each, levels_each, in_levels, skeletons_stand_once}

-- a tree with each of its predicates open
abbrev pub opened : Tree → Tree
opened (t.base table) = t.base table
opened (t.filter child p) = t.filter (opened child) Always
opened (t.pair kind a b p) = t.pair kind (opened a) (opened b) Always
opened (t.group child keys agg) = t.group (opened child) keys agg
opened (t.unite kind a b) = t.unite kind (opened a) (opened b)

-- what fills a skeleton tells it
pub opened_fillings : (task : TaskParts) (skeleton body : Tree) → In body (fillings task skeleton) → opened body ≡ opened skeleton
opened_fillings task (t.base table) body i = ap opened (in_one body (t.base table) i)
opened_fillings task (t.filter child p) body i =
    let h = in_filter_fillings task child p body i in
    ap opened h.4 ∙ ap (λ c. t.filter c Always) (opened_fillings task child h.0 h.2)
opened_fillings task (t.pair kind a b p) body i =
    let h = in_pair_fillings task kind a b p body i in
    ap opened h.6 ∙ ap₂ (λ x y. t.pair kind x y Always) (opened_fillings task a h.0 h.3) (opened_fillings task b h.1 h.4)
opened_fillings task (t.group child keys agg) body i =
    let h = in_group_fillings task child keys agg body i in
    ap opened h.2 ∙ ap (λ c. t.group c keys agg) (opened_fillings task child h.0 h.1)
opened_fillings task (t.unite kind a b) body i =
    let h = in_union_fillings task kind a b body i in
    ap opened h.4 ∙ ap₂ (t.unite kind) (opened_fillings task a h.0 h.2) (opened_fillings task b h.1 h.3)

-- the skeletons are open already

opened_next : (task : TaskParts) (ls : List (List Tree)) → ((k : ℕ) → Each (λ x. opened x ≡ x) (level_at ls k)) → Each (λ x. opened x ≡ x) (next_level task ls)
opened_next task ls each =
    next_each task ls (λ x. opened x ≡ x)
    (λ child i. ap (λ c. t.filter c Always) (each (length ls - 1) child i))
    (λ p i.
    let h = in_pairs_of_levels ls p i in
    let a = each h.0 p.0 h.2 in
    let b = each (length ls - 1 - h.0) p.1 h.3 in
    (λ kind. ap₂ (λ x y. t.pair kind x y Always) a b, λ kind. ap₂ (t.unite kind) a b))
    (λ keys agg child i. ap (λ c. t.group c keys agg) (each (length ls - 1) child i))

pub opened_skeletons : (task : TaskParts) → Each (λ x. opened x ≡ x) (skeletons task)
opened_skeletons task skeleton i =
    let h = in_levels (levels task task.ops) skeleton i in
    let each = levels_each task (λ k trees. Each (λ x. opened x ≡ x) trees) (λ k x i. absurd i) (each_map (λ x. opened x ≡ x) t.base _ (λ table i. refl)) (λ ls some each. opened_next task ls each) task.ops in
    each h.0 skeleton h.1

-- the places of the columns of a type ascend

once_places_next : (type other : ColType) (at : ℕ) (types : List ColType) (b : Bool) → same_type type other ≡ b → IsFrom (λ place. place) (at + 1) (places_of type (at + 1) types)
    → IsFrom (λ place. place) at (places_of type at (other ∷ types))
once_places_next type other at types true is rest = rw is (from_both (λ place. place) at (at ∷ []) (places_of type (at + 1) types) (once_one at, λ place i. in_one place at i) rest)
once_places_next type other at types false is rest = rw is (rest.0, λ place i. omega (arith, rest.1 place i))

places_from : (type : ColType) (at : ℕ) (types : List ColType) → IsFrom (λ place. place) at (places_of type at types)
places_from type at [] = (tt, λ place i. absurd i)
places_from type at (other ∷ types) = once_places_next type other at types (same_type type other) refl (places_from type (at + 1) types)

-- the maps that begin with a place
abbrev maps_from : List ColType → List ColType → ℕ → List (List ℕ)
maps_from body types at = map (λ rest. at ∷ rest) (maps body types)

-- a map tells the place that it begins with
place_same : (body types : List ColType) (at other : ℕ) (picks : List ℕ) → In picks (maps_from body types at) → In picks (maps_from body types other) → at ≡ other
place_same body types at other picks i j =
    let h = in_map (λ rest. at ∷ rest) picks (maps body types) i in
    let g = in_map (λ rest. other ∷ rest) picks (maps body types) j in
    let e : at ∷ h.0 ≡ other ∷ g.0 = sym h.2 ∙ g.2 in
    cc

-- each map stands once
pub once_maps : (body types : List ColType) → Once (maps body types)
once_maps body [] = (λ i. absurd i, tt)
once_maps body (type ∷ types) =
    once_flat_map (maps_from body types) (λ at. once_map (λ rest. at ∷ rest) (λ a b e. cc) (maps body types) (once_maps body types)) (place_same body types)
    (places_of type 0 body) (places_from type 0 body).0

-- the queries of a body, and of a skeleton

pub in_flags : (body : Tree) (picks : List ℕ) (q : Select) → In q (with_flags body picks) → (q.body ≡ body) × (q.picks ≡ picks)
in_flags body picks q (inl e) = (ap (λ s. s.body) e, ap (λ s. s.picks) e)
in_flags body picks q (inr (inl e)) = (ap (λ s. s.body) e, ap (λ s. s.picks) e)
in_flags body picks q (inr (inr i)) = absurd i

once_flags : (body : Tree) (picks : List ℕ) → Once (with_flags body picks)
once_flags body picks = (λ i. elim i [ inl e ↦ false≢true (ap (λ s. s.distinct) e) | inr j ↦ absurd j ], (λ i. absurd i, tt))

pub in_body_queries : (task : TaskParts) (body : Tree) (q : Select) → In q (queries_of_body task body) → (q.body ≡ body) × In q.picks (maps (columns task.inputs body) (types_of task.output))
in_body_queries task body q i =
    let picked = maps (columns task.inputs body) (types_of task.output) in
    let h = in_flat_map (with_flags body) q picked i in
    let g = in_flags body h.0 q h.2 in
    (g.0, in_same q.picks h.0 picked g.1 h.1)

once_body_queries : (task : TaskParts) (body : Tree) → Once (queries_of_body task body)
once_body_queries task body =
    once_flat_map (with_flags body) (once_flags body) (λ picks others q i j. sym (in_flags body picks q i).1 ∙ (in_flags body others q j).1)
    (maps (columns task.inputs body) (types_of task.output)) (once_maps (columns task.inputs body) (types_of task.output))

pub in_queries_of : (task : TaskParts) (skeleton : Tree) (q : Select) → In q (queries_of task skeleton) → In q.body (fillings task skeleton) × In q.picks (maps (columns task.inputs q.body) (types_of task.output))
in_queries_of task skeleton q i =
    let h = in_flat_map (queries_of_body task) q (fillings task skeleton) i in
    let g = in_body_queries task h.0 q h.2 in
    (in_same q.body h.0 (fillings task skeleton) g.0 h.1, subst (λ body. In q.picks (maps (columns task.inputs body) (types_of task.output))) (sym g.0) g.1)

pub once_queries_of : (task : TaskParts) (skeleton : Tree) → Once (queries_of task skeleton)
once_queries_of task skeleton =
    once_flat_map (queries_of_body task) (once_body_queries task) (λ body other q i j. sym (in_body_queries task body q i).0 ∙ (in_body_queries task other q j).0)
    (fillings task skeleton) (once_fillings task skeleton)

-- a query tells its skeleton
pub skeleton_same : (task : TaskParts) (skeleton other : Tree) (q : Select) → In skeleton (skeletons task) → In other (skeletons task) → In q (queries_of task skeleton) → In q (queries_of task other) → skeleton ≡ other
skeleton_same task skeleton other q a b i j =
    let first = opened_fillings task skeleton q.body (in_queries_of task skeleton q i).0 in
    let second = opened_fillings task other q.body (in_queries_of task other q j).0 in
    sym (opened_skeletons task skeleton a) ∙ sym first ∙ second ∙ opened_skeletons task other b

-- the queries, without the numbers of their skeletons, are those of each skeleton in order

plain_from : (task : TaskParts) (at : ℕ) (trees : List Tree) → map (λ n. n.query) (flat_map (numbered task) (enumerate_from at trees)) ≡ flat_map (queries_of task) trees
plain_from task at [] = refl
plain_from task at (tree ∷ trees) =
    map-append (λ n. n.query) (numbered task (at, tree)) (flat_map (numbered task) (enumerate_from (at + 1) trees))
    ∙ ap₂ (λ front back. front ++ back) (map_twice (λ n. n.query) _ (queries_of task tree) ∙ map-id (queries_of task tree)) (plain_from task (at + 1) trees)

pub plain_queries_are : (task : TaskParts) → plain_queries task ≡ flat_map (queries_of task) (skeletons task)
plain_queries_are task = plain_from task 0 (skeletons task)

-- each query stands once, from the front
pub once_plain_queries : (task : TaskParts) → Once (plain_queries task)
once_plain_queries task =
    rw (plain_queries_are task) (once_flat_map_in (queries_of task) (skeletons task) (λ s i. once_queries_of task s) (skeleton_same task) (skeletons_stand_once task))

-- and by places
pub queries_once : (task : TaskParts) → EachOnce (plain_queries task)
queries_once task = each_once (plain_queries task) (once_plain_queries task)

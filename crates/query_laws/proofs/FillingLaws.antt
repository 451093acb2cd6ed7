-- The bodies that fill a skeleton: what they are by its kind, each once.
use Rattle.std.proofs.Common.{◌≡◌, sym, ◌∙◌, ℕ, List, [], ◌∷◌}
use Rattle.std.specs.Prelude.{flat_map}
use Rattle.value_core.specs.declared.value.ColType.{ColType}
use Rattle.predicate_core.specs.Atoms.{atom_list}
use Rattle.predicate_core.specs.declared.pred.Pred.{Pred}
use Rattle.predicate_core.proofs.OnceLists.{In, Once, in_map, once_map}
use Rattle.predicate_core.proofs.OnceLaws.{once_atoms, once_preds}
use Rattle.table_core.specs.declared.task.TaskParts.{TaskParts}
use Rattle.query_core.specs.Tree.{Tree, Select}
use Rattle.query_core.specs.Tree as t
use Rattle.query_core.specs.Meaning.{columns, hole_types}
use Rattle.query_core.specs.declared.agg.Agg.{Agg}
use Rattle.query_core.specs.declared.kinds.Pairing.{Pairing}
use Rattle.query_core.specs.declared.kinds.Uniting.{Uniting}
use Rattle.query_core.specs.Grammar.{predicates, filter_predicates, of_each, filters_filled, pairs_filled, fillings}
use Rattle.query_laws.proofs.MemberLaws.{in_one, in_flat_map, flat_map_in}
use Rattle.query_laws.proofs.JoinedLists.{once_one, once_flat_map}

-- the predicates, each once

pub once_predicates : (task : TaskParts) (types : List ColType) → Once (predicates task types)
once_predicates task types = once_preds (atom_list types task.constants) task.atoms (once_atoms types task.constants)

pub once_filter_predicates : (task : TaskParts) (types : List ColType) → Once (filter_predicates task types)
once_filter_predicates task types = (once_predicates task types).1

-- what a function gives of each tree of one list with each of another

pub in_of_each : {A : Type 0} (f : Tree → Tree → List A) (z : A) (xs ys : List Tree) → In z (of_each f xs ys) → (x y : Tree) × In x xs × In y ys × In z (f x y)
in_of_each f z xs ys i =
    let h = in_flat_map (λ x. flat_map (f x) ys) z xs i in
    let g = in_flat_map (f h.0) z ys h.2 in
    (h.0, g.0, h.1, g.1, g.2)

pub of_each_in : {A : Type 0} (f : Tree → Tree → List A) (z : A) (x y : Tree) (xs ys : List Tree) → In x xs → In y ys → In z (f x y) → In z (of_each f xs ys)
of_each_in f z x y xs ys i j k = flat_map_in (λ x. flat_map (f x) ys) z x xs i (flat_map_in (f x) z y ys j k)

pub once_of_each : {A : Type 0} (f : Tree → Tree → List A) → ((x y : Tree) → Once (f x y)) → ((a b c d : Tree) (z : A) → In z (f a b) → In z (f c d) → (a ≡ c) × (b ≡ d))
    → (xs ys : List Tree) → Once xs → Once ys → Once (of_each f xs ys)
once_of_each f each apart xs ys left right =
    once_flat_map (λ x. flat_map (f x) ys)
    (λ x. once_flat_map (f x) (each x) (λ b d z i j. (apart x b x d z i j).1) ys right)
    (λ a c z i j. let h = in_flat_map (f a) z ys i in let g = in_flat_map (f c) z ys j in (apart a h.0 c g.0 z h.2 g.2).0)
    xs left

-- the bodies that fill a skeleton, by its kind

pub in_filter_fillings : (task : TaskParts) (child : Tree) (p : Pred) (body : Tree) → In body (fillings task (t.filter child p))
    → (c : Tree) × (q : Pred) × In c (fillings task child) × In q (filter_predicates task (columns task.inputs c)) × (body ≡ t.filter c q)
in_filter_fillings task child p body i =
    let h = in_flat_map (filters_filled task) body (fillings task child) i in
    let g = in_map (t.filter h.0) body (filter_predicates task (columns task.inputs h.0)) h.2 in
    (h.0, g.0, h.1, g.1, g.2)

pub in_pair_fillings : (task : TaskParts) (kind : Pairing) (a b : Tree) (p : Pred) (body : Tree) → In body (fillings task (t.pair kind a b p))
    → (x y : Tree) × (q : Pred) × In x (fillings task a) × In y (fillings task b) × In q (predicates task (hole_types task.inputs x y)) × (body ≡ t.pair kind x y q)
in_pair_fillings task kind a b p body i =
    let h = in_of_each (pairs_filled task kind) body (fillings task a) (fillings task b) i in
    let g = in_map (t.pair kind h.0 h.1) body (predicates task (hole_types task.inputs h.0 h.1)) h.4 in
    (h.0, h.1, g.0, h.2, h.3, g.1, g.2)

pub in_group_fillings : (task : TaskParts) (child : Tree) (keys : List ℕ) (agg : Agg) (body : Tree) → In body (fillings task (t.group child keys agg))
    → (c : Tree) × In c (fillings task child) × (body ≡ t.group c keys agg)
in_group_fillings task child keys agg body i = in_map (λ c. t.group c keys agg) body (fillings task child) i

pub in_union_fillings : (task : TaskParts) (kind : Uniting) (a b body : Tree) → In body (fillings task (t.unite kind a b))
    → (x y : Tree) × In x (fillings task a) × In y (fillings task b) × (body ≡ t.unite kind x y)
in_union_fillings task kind a b body i =
    let h = in_of_each (λ x y. t.unite kind x y ∷ []) body (fillings task a) (fillings task b) i in
    (h.0, h.1, h.2, h.3, in_one body (t.unite kind h.0 h.1) h.4)

-- a filled node tells its filled parts

filters_apart : (task : TaskParts) (c d body : Tree) → In body (filters_filled task c) → In body (filters_filled task d) → c ≡ d
filters_apart task c d body i j =
    let h = in_map (t.filter c) body (filter_predicates task (columns task.inputs c)) i in
    let g = in_map (t.filter d) body (filter_predicates task (columns task.inputs d)) j in
    let e : t.filter c h.0 ≡ t.filter d g.0 = sym h.2 ∙ g.2 in
    cc

pairs_apart : (task : TaskParts) (kind : Pairing) (a b c d body : Tree) → In body (pairs_filled task kind a b) → In body (pairs_filled task kind c d) → (a ≡ c) × (b ≡ d)
pairs_apart task kind a b c d body i j =
    let h = in_map (t.pair kind a b) body (predicates task (hole_types task.inputs a b)) i in
    let g = in_map (t.pair kind c d) body (predicates task (hole_types task.inputs c d)) j in
    let e : t.pair kind a b h.0 ≡ t.pair kind c d g.0 = sym h.2 ∙ g.2 in
    (cc, cc)

unions_apart : (kind : Uniting) (a b c d body : Tree) → In body (t.unite kind a b ∷ []) → In body (t.unite kind c d ∷ []) → (a ≡ c) × (b ≡ d)
unions_apart kind a b c d body i j =
    let e : t.unite kind a b ≡ t.unite kind c d = sym (in_one body (t.unite kind a b) i) ∙ in_one body (t.unite kind c d) j in
    (cc, cc)

-- the fillings of a skeleton, each once

once_filters_filled : (task : TaskParts) (child : Tree) → Once (filters_filled task child)
once_filters_filled task child = once_map (t.filter child) (λ p q e. cc) (filter_predicates task (columns task.inputs child)) (once_filter_predicates task (columns task.inputs child))

once_pairs_filled : (task : TaskParts) (kind : Pairing) (a b : Tree) → Once (pairs_filled task kind a b)
once_pairs_filled task kind a b = once_map (t.pair kind a b) (λ p q e. cc) (predicates task (hole_types task.inputs a b)) (once_predicates task (hole_types task.inputs a b))

pub once_fillings : (task : TaskParts) (skeleton : Tree) → Once (fillings task skeleton)
once_fillings task (t.base table) = once_one (t.base table)
once_fillings task (t.filter child p) = once_flat_map (filters_filled task) (once_filters_filled task) (filters_apart task) (fillings task child) (once_fillings task child)
once_fillings task (t.pair kind a b p) =
    once_of_each (pairs_filled task kind) (once_pairs_filled task kind) (pairs_apart task kind) (fillings task a) (fillings task b) (once_fillings task a) (once_fillings task b)
once_fillings task (t.group child keys agg) = once_map (λ c. t.group c keys agg) (λ c d e. cc) (fillings task child) (once_fillings task child)
once_fillings task (t.unite kind a b) =
    once_of_each (λ x y. t.unite kind x y ∷ []) (λ x y. once_one (t.unite kind x y)) (unions_apart kind) (fillings task a) (fillings task b) (once_fillings task a) (once_fillings task b)

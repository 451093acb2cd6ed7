-- What is filled from the inside out is what is standard and has rows among all ways to fill.
use Rattle.std.proofs.Common.{◌≡◌, ℕ, Bool, true, false, not, ◌&&◌, List, [], ◌∷◌, ◌++◌, map, length, Option, Some, None, is_some, refl, sym, ap, ◌∙◌, if◌then◌else◌}
use Rattle.std.specs.Prelude.{filter as list_filter}
use Rattle.std.specs.List.{flat_map}
use Rattle.std.proofs.lemmas.List.{append-nil}
use Rattle.value_core.specs.declared.value.Value.{Value}
use Rattle.predicate_core.specs.declared.pred.Pred.{Pred}
use Rattle.predicate_core.specs.declared.pred.Pred.TheVariants.{Always}
use Rattle.predicate_core.specs.Truth.{keeps}
use Rattle.table_core.specs.Rows.{Row}
use Rattle.table_core.specs.declared.task.TaskParts.{TaskParts}
use Rattle.query_core.specs.declared.agg.Agg.{Agg}
use Rattle.query_core.specs.declared.kinds.Pairing.{Pairing}
use Rattle.query_core.specs.declared.kinds.Uniting.{Uniting}
use Rattle.query_core.specs.Tree.{Tree}
use Rattle.query_core.specs.Tree as t
use Rattle.query_core.specs.Groups.{grouped}
use Rattle.query_core.specs.Meaning.{columns, hole_types, rows}
use Rattle.query_core.specs.Grammar.{predicates, filter_predicates, fillings, filters_filled, pairs_filled}
use Rattle.query_core.specs.Standard.{rows_or_none, is_standard_tree, is_standard_filter, is_standard_pair, is_first, keeps_all}
use Rattle.query_core.specs.Filled.{Filled, tree_preds, is_filled, filled, standard_fillings, filled_base, filled_filter, may_filter, filled_filters, filled_pair, filled_pairs, filled_groups, filled_union}
use Rattle.query_laws.specs.Filled.{BaseFilled, FilterFilled, PairFilled, GroupFilled, UnionFilled, unions_on}
use Rattle.query_core.proofs.MapLaws.{single, flat_map_twice, flat_map_same, flat_map_none, flat_map_of_map, flat_map_filter, flat_map_singles, map_twice, of_each_filled_is}

-- what is kept of a tree that is standard and has rows
abbrev pub filled_of : TaskParts → Tree → List Filled
filled_of task tree = single (is_filled task tree) (filled task tree)

-- Always keeps all
always_keeps : (constants : List Value) (candidates : List Row) → keeps_all constants candidates Always ≡ true
always_keeps constants [] = refl
always_keeps constants (row ∷ candidates) = always_keeps constants candidates

single_same : {A : Type 0} (a b : Bool) (x y : A) → a ≡ b → x ≡ y → single a x ≡ single b y
single_same a b x y tests made = ap (λ t. single t x) tests ∙ ap (single b) made

and_true : (a b c : Bool) → a ≡ true → b ≡ c → (a && b) ≡ c
and_true a b c first second = rw first second

and_not : (a b : Bool) → b ≡ true → (a && not b) ≡ false
and_not true b e = rw e refl
and_not false b e = refl

-- a filter over a filled child, for each predicate
filter_by : (task : TaskParts) (x : Tree) (found : List Row) (p : Pred) → rows task.inputs task.constants x ≡ Some found → is_standard_tree task x ≡ true
    → filled_of task (t.filter x p) ≡ single (may_filter task (filled task x) p) (filled_filter task (filled task x) p)
filter_by task x found p has standard =
    let has_rows : is_some (rows task.inputs task.constants (t.filter x p)) ≡ true = rw has refl in
    let is_standard : is_standard_tree task (t.filter x p) ≡ may_filter task (filled task x) p = and_true (is_standard_tree task x) (is_standard_filter task x p) (is_standard_filter task x p) standard refl in
    let same_rows : rows_or_none task (t.filter x p) ≡ list_filter (keeps task.constants p) (rows_or_none task x) = rw has refl in
    let made : filled task (t.filter x p) ≡ filled_filter task (filled task x) p =
    ap (λ kept. record { types = columns task.inputs x; preds = tree_preds x ++ p ∷ []; rows = kept }) same_rows in
    single_same (is_filled task (t.filter x p)) (may_filter task (filled task x) p) (filled task (t.filter x p)) (filled_filter task (filled task x) p) (and_true _ _ _ has_rows is_standard) made

filter_none : (task : TaskParts) (x : Tree) (o : Option (List Row)) (b : Bool) (p : Pred) → rows task.inputs task.constants x ≡ o → is_standard_tree task x ≡ b → is_some o && b ≡ false → filled_of task (t.filter x p) ≡ []
filter_none task x None b p has standard not_both = rw has refl
filter_none task x (Some found) true p has standard not_both = cc
filter_none task x (Some found) false p has standard not_both = rw (has, standard) refl

-- the filters over a child that is filled
filters_filled_on : (task : TaskParts) (x : Tree) (found : List Row) → rows task.inputs task.constants x ≡ Some found → is_standard_tree task x ≡ true → flat_map (filled_of task) (filters_filled task x) ≡ filled_filters task (filled task x)
filters_filled_on task x found has standard =
    let c = filled task x in
    let preds = predicates task (columns task.inputs x) in
    let chosen : Pred → List Filled = λ p. single (may_filter task c p) (filled_filter task c p) in
    let open_out : chosen Always ≡ [] = ap (λ b. single b (filled_filter task c Always)) (and_not (is_first task c.types c.rows Always) (keeps_all task.constants c.rows Always) (always_keeps task.constants c.rows)) in
    flat_map_of_map (filled_of task) (t.filter x) (filter_predicates task (columns task.inputs x))
    ∙ flat_map_same (λ p. filled_of task (t.filter x p)) chosen (filter_predicates task (columns task.inputs x)) (λ p. filter_by task x found p has standard)
    ∙ sym (ap (λ t. t ++ flat_map chosen (filter_predicates task (columns task.inputs x))) open_out)
    ∙ flat_map_singles (filled_filter task c) (may_filter task c) preds

filters_of : (task : TaskParts) (x : Tree) (o : Option (List Row)) (b : Bool) → rows task.inputs task.constants x ≡ o → is_standard_tree task x ≡ b → flat_map (filled_of task) (filters_filled task x) ≡ flat_map (filled_filters task) (filled_of task x)
filters_of task x None b has standard =
    flat_map_of_map (filled_of task) (t.filter x) (filter_predicates task (columns task.inputs x))
    ∙ flat_map_none (λ p. filled_of task (t.filter x p)) (filter_predicates task (columns task.inputs x)) (λ p. filter_none task x None b p has standard refl)
    ∙ rw has refl
filters_of task x (Some found) false has standard =
    flat_map_of_map (filled_of task) (t.filter x) (filter_predicates task (columns task.inputs x))
    ∙ flat_map_none (λ p. filled_of task (t.filter x p)) (filter_predicates task (columns task.inputs x)) (λ p. filter_none task x (Some found) false p has standard refl)
    ∙ rw (has, standard) refl
filters_of task x (Some found) true has standard =
    let one : filled_of task x ≡ filled task x ∷ [] = rw (has, standard) refl in
    filters_filled_on task x found has standard ∙ sym (ap (flat_map (filled_filters task)) one ∙ append-nil (filled_filters task (filled task x)))

-- a pair of filled parts, for each predicate
pair_by : (task : TaskParts) (kind : Pairing) (x y : Tree) (lefts rights : List Row) (p : Pred) → rows task.inputs task.constants x ≡ Some lefts → rows task.inputs task.constants y ≡ Some rights → is_standard_tree task x ≡ true → is_standard_tree task y ≡ true
    → filled_of task (t.pair kind x y p) ≡ single (is_standard_pair task x y p) (filled_pair task kind (filled task x) (filled task y) p)
pair_by task kind x y lefts rights p left_has right_has left_standard right_standard =
    rw (left_has, right_has, left_standard, right_standard) refl

-- a pair of which a part isn't filled
pair_none : (task : TaskParts) (kind : Pairing) (x y : Tree) (ox oy : Option (List Row)) (bx by : Bool) (p : Pred) → rows task.inputs task.constants x ≡ ox → rows task.inputs task.constants y ≡ oy → is_standard_tree task x ≡ bx → is_standard_tree task y ≡ by
    → (is_some ox && bx) && (is_some oy && by) ≡ false → filled_of task (t.pair kind x y p) ≡ []
pair_none task kind x y None oy bx by p hx hy sx sy none = rw (hx) refl
pair_none task kind x y (Some lefts) None bx by p hx hy sx sy none = rw (hx, hy) refl
pair_none task kind x y (Some lefts) (Some rights) false by p hx hy sx sy none = rw (hx, hy, sx) refl
pair_none task kind x y (Some lefts) (Some rights) true false p hx hy sx sy none = rw (hx, hy, sx, sy) refl
pair_none task kind x y (Some lefts) (Some rights) true true p hx hy sx sy none = cc

-- the pairs of two parts, one for each predicate
pairs_none : (task : TaskParts) (kind : Pairing) (x y : Tree) (ox oy : Option (List Row)) (bx by : Bool) → rows task.inputs task.constants x ≡ ox → rows task.inputs task.constants y ≡ oy → is_standard_tree task x ≡ bx → is_standard_tree task y ≡ by
    → (is_some ox && bx) && (is_some oy && by) ≡ false → flat_map (filled_of task) (pairs_filled task kind x y) ≡ []
pairs_none task kind x y ox oy bx by hx hy sx sy none =
    flat_map_of_map (filled_of task) (t.pair kind x y) (predicates task (hole_types task.inputs x y))
    ∙ flat_map_none (λ p. filled_of task (t.pair kind x y p)) (predicates task (hole_types task.inputs x y)) (λ p. pair_none task kind x y ox oy bx by p hx hy sx sy none)

pairs_some : (task : TaskParts) (kind : Pairing) (x y : Tree) (lefts rights : List Row) → rows task.inputs task.constants x ≡ Some lefts → rows task.inputs task.constants y ≡ Some rights → is_standard_tree task x ≡ true → is_standard_tree task y ≡ true
    → flat_map (filled_of task) (pairs_filled task kind x y) ≡ filled_pairs task kind (filled task x) (filled task y)
pairs_some task kind x y lefts rights hx hy sx sy =
    let preds = predicates task (hole_types task.inputs x y) in
    let made : Pred → Filled = filled_pair task kind (filled task x) (filled task y) in
    flat_map_of_map (filled_of task) (t.pair kind x y) preds
    ∙ flat_map_same (λ p. filled_of task (t.pair kind x y p)) (λ p. single (is_standard_pair task x y p) (made p)) preds (λ p. pair_by task kind x y lefts rights p hx hy sx sy)
    ∙ flat_map_singles made (is_standard_pair task x y) preds

pairs_of : (task : TaskParts) (kind : Pairing) (x y : Tree) (ox oy : Option (List Row)) (bx by : Bool) → rows task.inputs task.constants x ≡ ox → rows task.inputs task.constants y ≡ oy → is_standard_tree task x ≡ bx → is_standard_tree task y ≡ by
    → flat_map (filled_of task) (pairs_filled task kind x y) ≡ flat_map (λ u. flat_map (filled_pairs task kind u) (filled_of task y)) (filled_of task x)
pairs_of task kind x y None oy bx by hx hy sx sy = pairs_none task kind x y None oy bx by hx hy sx sy refl ∙ rw hx refl
pairs_of task kind x y (Some lefts) oy false by hx hy sx sy = pairs_none task kind x y (Some lefts) oy false by hx hy sx sy refl ∙ rw (hx, sx) refl
pairs_of task kind x y (Some lefts) None true by hx hy sx sy = pairs_none task kind x y (Some lefts) None true by hx hy sx sy refl ∙ rw (hx, sx, hy) refl
pairs_of task kind x y (Some lefts) (Some rights) true false hx hy sx sy = pairs_none task kind x y (Some lefts) (Some rights) true false hx hy sx sy refl ∙ rw (hx, sx, hy, sy) refl
pairs_of task kind x y (Some lefts) (Some rights) true true hx hy sx sy =
    let here : filled_of task x ≡ filled task x ∷ [] = rw (hx, sx) refl in
    let there : filled_of task y ≡ filled task y ∷ [] = rw (hy, sy) refl in
    let nil = append-nil (filled_pairs task kind (filled task x) (filled task y)) in
    pairs_some task kind x y lefts rights hx hy sx sy ∙ sym nil ∙ sym (append-nil _)
    ∙ sym (ap (λ us. flat_map (λ u. flat_map (filled_pairs task kind u) (filled_of task y)) us) here ∙ ap (λ vs. flat_map (filled_pairs task kind (filled task x)) vs ++ []) there)

pairs_up : (task : TaskParts) (kind : Pairing) (xs ys : List Tree)
    → flat_map (filled_of task) (flat_map (λ x. flat_map (pairs_filled task kind x) ys) xs) ≡ flat_map (λ u. flat_map (filled_pairs task kind u) (flat_map (filled_of task) ys)) (flat_map (filled_of task) xs)
pairs_up task kind xs ys =
    of_each_filled_is (filled_of task) (pairs_filled task kind) (filled_pairs task kind) (is_filled task) (filled task) xs ys (λ x. refl) (λ x y. pairs_of task kind x y (rows task.inputs task.constants x) (rows task.inputs task.constants y) (is_standard_tree task x) (is_standard_tree task y) refl refl refl refl)

-- a group over a child
group_of : (task : TaskParts) (keys : List ℕ) (agg : Agg) (x : Tree) (o : Option (List Row)) (b : Bool) → rows task.inputs task.constants x ≡ o → is_standard_tree task x ≡ b
    → filled_of task (t.group x keys agg) ≡ flat_map (filled_groups keys agg) (filled_of task x)
group_of task keys agg x None b has standard = rw has refl
group_of task keys agg x (Some found) b has standard = grouped_of (grouped keys agg found) refl b standard
  where
    grouped_of : (g : Option (List Row)) → grouped keys agg found ≡ g → (s : Bool) → is_standard_tree task x ≡ s → filled_of task (t.group x keys agg) ≡ flat_map (filled_groups keys agg) (filled_of task x)
    grouped_of None is true s = rw (has, s, is) refl
    grouped_of None is false s = rw (has, s, is) refl
    grouped_of (Some groups) is true s = rw (has, s, is) refl
    grouped_of (Some groups) is false s = rw (has, s, is) refl

-- a union of two parts
union_of : (task : TaskParts) (kind : Uniting) (x y : Tree) (ox oy : Option (List Row)) (bx by : Bool) → rows task.inputs task.constants x ≡ ox → rows task.inputs task.constants y ≡ oy → is_standard_tree task x ≡ bx → is_standard_tree task y ≡ by
    → flat_map (filled_of task) (t.unite kind x y ∷ []) ≡ flat_map (λ u. flat_map (unions_on kind u) (filled_of task y)) (filled_of task x)
union_of task kind x y None oy bx by hx hy sx sy = rw (hx) refl
union_of task kind x y (Some lefts) None true by hx hy sx sy = rw (hx, hy, sx) refl
union_of task kind x y (Some lefts) None false by hx hy sx sy = rw (hx, hy, sx) refl
union_of task kind x y (Some lefts) (Some rights) false by hx hy sx sy = rw (hx, hy, sx) refl
union_of task kind x y (Some lefts) (Some rights) true false hx hy sx sy = rw (hx, hy, sx, sy) refl
union_of task kind x y (Some lefts) (Some rights) true true hx hy sx sy =
    rw (hx, hy, sx, sy) refl

unions_up : (task : TaskParts) (kind : Uniting) (xs ys : List Tree)
    → flat_map (filled_of task) (flat_map (λ x. flat_map (λ y. t.unite kind x y ∷ []) ys) xs) ≡ flat_map (λ u. flat_map (unions_on kind u) (flat_map (filled_of task) ys)) (flat_map (filled_of task) xs)
unions_up task kind xs ys =
    of_each_filled_is (filled_of task) (λ x y. t.unite kind x y ∷ []) (unions_on kind) (is_filled task) (filled task) xs ys (λ x. refl) (λ x y. union_of task kind x y (rows task.inputs task.constants x) (rows task.inputs task.constants y) (is_standard_tree task x) (is_standard_tree task y) refl refl refl refl)

-- what a function gives of each filled part, where the parts' fillings are known
of_parts : (f : Filled → Filled → List Filled) (xs ys us vs : List Filled) → xs ≡ us → ys ≡ vs → flat_map (λ x. flat_map (f x) ys) xs ≡ flat_map (λ u. flat_map (f u) vs) us
of_parts f xs ys us vs left right = ap (λ zs. flat_map (λ x. flat_map (f x) zs) xs) right ∙ ap (flat_map (λ x. flat_map (f x) vs)) left

-- the standard fillings as what is kept of each tree
pub fillings_kept : (task : TaskParts) (s : Tree) → flat_map (filled_of task) (fillings task s) ≡ standard_fillings task s
fillings_kept task s = flat_map_singles (filled task) (is_filled task) (fillings task s)

-- the standard fillings of a skeleton are those of its parts, put together
pub base_filled : (task : TaskParts) → BaseFilled task
base_filled task table = refl

pub filter_filled : (task : TaskParts) → FilterFilled task
filter_filled task child p =
    sym (fillings_kept task (t.filter child p))
    ∙ flat_map_twice (filled_of task) (filters_filled task) (fillings task child)
    ∙ flat_map_same (λ x. flat_map (filled_of task) (filters_filled task x)) (λ x. flat_map (filled_filters task) (filled_of task x)) (fillings task child) (λ x. filters_of task x (rows task.inputs task.constants x) (is_standard_tree task x) refl refl)
    ∙ sym (flat_map_twice (filled_filters task) (filled_of task) (fillings task child))
    ∙ ap (flat_map (filled_filters task)) (fillings_kept task child)

pub pair_filled : (task : TaskParts) → PairFilled task
pair_filled task kind a b p =
    sym (fillings_kept task (t.pair kind a b p)) ∙ pairs_up task kind (fillings task a) (fillings task b) ∙ of_parts (filled_pairs task kind) _ _ _ _ (fillings_kept task a) (fillings_kept task b)

pub group_filled : (task : TaskParts) → GroupFilled task
group_filled task child keys agg =
    sym (fillings_kept task (t.group child keys agg))
    ∙ flat_map_of_map (filled_of task) (λ c. t.group c keys agg) (fillings task child)
    ∙ flat_map_same (λ x. filled_of task (t.group x keys agg)) (λ x. flat_map (filled_groups keys agg) (filled_of task x)) (fillings task child) (λ x. group_of task keys agg x (rows task.inputs task.constants x) (is_standard_tree task x) refl refl)
    ∙ sym (flat_map_twice (filled_groups keys agg) (filled_of task) (fillings task child))
    ∙ ap (flat_map (filled_groups keys agg)) (fillings_kept task child)

pub union_filled : (task : TaskParts) → UnionFilled task
union_filled task kind a b =
    sym (fillings_kept task (t.unite kind a b)) ∙ unions_up task kind (fillings task a) (fillings task b) ∙ of_parts (unions_on kind) _ _ _ _ (fillings_kept task a) (fillings_kept task b)

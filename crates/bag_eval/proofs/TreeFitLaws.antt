-- The rows of trees, of queries and of the steps over tables fit the types of their columns.
use Rattle.std.proofs.Common.{◌≡◌, ℕ, zero, suc, Bool, true, false, not, ◌&&◌, List, [], ◌∷◌, ◌++◌, map, length, unwrap_or, slice_get, Option, Some, None, option_map, IfSome, if◌then◌else◌, refl, sym, subst}
use Rattle.std.specs.Prelude.{filter}
use Rattle.std.specs.List.{list_all}
use Rattle.std.specs.Cmp.Lexicographic.{pointwise}
use Rattle.value_core.specs.Value.{same_type}
use Rattle.value_core.specs.declared.value.Value.{Value}
use Rattle.value_core.specs.declared.value.ColType.{ColType}
use Rattle.predicate_core.specs.Truth.{keeps}
use Rattle.predicate_core.specs.declared.pred.Pred.{Pred}
use Rattle.table_core.specs.Rows.{Row, TableData, empty_table, are_typed, types_of}
use Rattle.table_core.specs.declared.column.Column.{Column}
use Rattle.table_core.specs.declared.task.TaskParts.{TaskParts}
use Rattle.query_core.specs.Tree.{Tree, Select}
use Rattle.query_core.specs.Tree as t
use Rattle.query_core.specs.Firsts.{projected, united}
use Rattle.query_core.specs.Joins.{joined, left_joined, paired}
use Rattle.query_core.specs.Groups.{grouped}
use Rattle.query_core.specs.Columns.{names_inputs, names_columns, pred_agrees, agg_agrees, types_agree, columns_fault}
use Rattle.query_core.specs.Meaning.{type_at, group_types, columns, hole_types, of_both, of_rows, rows, given_rows, answer}
use Rattle.query_core.specs.declared.agg.Agg.{Agg}
use Rattle.query_core.specs.declared.kinds.Pairing.{Pairing}
use Rattle.query_core.specs.declared.kinds.Pairing.TheVariants.{Join, Left}
use Rattle.query_core.specs.declared.kinds.Uniting.{Uniting}
use Rattle.query_core.specs.declared.kinds.Uniting.TheVariants.{All, Firsts}
use Rattle.query_core.specs.declared.fault.QueryFault.{QueryFault}
use Rattle.query_core.specs.declared.fault.QueryFault.TheVariants.{BadTable, BadColumn, TypesDiffer}
use Rattle.bag_eval.specs.Results.{rows_fit}
use Rattle.bag_eval.proofs.FitLaws.{AllFit, both_true, all_to, typed_from, all-append, all-filter, joined_fit, left_fit, firsts_fit, types_are, selected_fit}
use Rattle.bag_eval.proofs.GroupFitLaws.{grouped_fit}

-- whether the rows of each table fit its columns
abbrev pub are_tables_typed : List TableData → Bool
are_tables_typed tables = list_all (λ t. are_typed t.columns t.rows) tables

input_fits : (tables : List TableData) (at : ℕ) → are_tables_typed tables ≡ true
    → AllFit (types_of (unwrap_or (slice_get tables at) (empty_table [] []))) (unwrap_or (slice_get tables at) (empty_table [] [])).rows
input_fits [] at e = tt
input_fits (t ∷ ts) zero e = let both = both_true (are_typed t.columns t.rows) (are_tables_typed ts) e in typed_from t.columns t.rows both.0
input_fits (t ∷ ts) (suc at) e = let both = both_true (are_typed t.columns t.rows) (are_tables_typed ts) e in input_fits ts at both.1

mapped_fit : (ts us : List ColType) (f : List Row → List Row) (o : Option (List Row)) → ((xs : List Row) → AllFit ts xs → AllFit us (f xs)) → IfSome o (AllFit ts) → IfSome (option_map f o) (AllFit us)
mapped_fit ts us f None keep g = tt
mapped_fit ts us f (Some xs) keep g = keep xs g

both_fit : (ts us vs : List ColType) (f : List Row → List Row → List Row) (o p : Option (List Row)) → ((xs ys : List Row) → AllFit ts xs → AllFit us ys → AllFit vs (f xs ys))
    → IfSome o (AllFit ts) → IfSome p (AllFit us) → IfSome (of_both f o p) (AllFit vs)
both_fit ts us vs f None p keep g h = tt
both_fit ts us vs f (Some xs) None keep g h = tt
both_fit ts us vs f (Some xs) (Some ys) keep g h = keep xs ys g h

groups_fit : (ts : List ColType) (keys : List ℕ) (agg : Agg) (o : Option (List Row)) → IfSome o (AllFit ts) → IfSome (of_rows (grouped keys agg) o) (AllFit (group_types ts keys agg))
groups_fit ts keys agg None g = tt
groups_fit ts keys agg (Some xs) g = grouped_fit ts keys agg xs g

all_fit_too : (ts us : List ColType) (rows : List Row) → pointwise same_type ts us ≡ true → AllFit us rows → AllFit ts rows
all_fit_too ts us rows same f = let P : List ColType → Type 0 = λ vs. AllFit vs rows in subst P (sym (types_are ts us same)) f

append_fits : (ts us : List ColType) (xs ys : List Row) → pointwise same_type ts us ≡ true → AllFit ts xs → AllFit us ys → AllFit ts (xs ++ ys)
append_fits ts us xs ys same f g = all-append ts xs ys f (all_fit_too ts us ys same g)

united_fit : (kind : Uniting) (ts us : List ColType) (xs ys : List Row) → pointwise same_type ts us ≡ true → AllFit ts xs → AllFit us ys → AllFit ts (united kind xs ys)
united_fit All ts us xs ys same f g = append_fits ts us xs ys same f g
united_fit Firsts ts us xs ys same f g = firsts_fit ts (xs ++ ys) (append_fits ts us xs ys same f g)

paired_fit : (kind : Pairing) (ts us : List ColType) (k : List Value) (p : Pred) (xs ys : List Row) → AllFit ts xs → AllFit us ys → AllFit (ts ++ us) (paired kind k p (length us) xs ys)
paired_fit Join ts us k p xs ys f g = joined_fit ts us k p xs ys f g
paired_fit Left ts us k p xs ys f g = left_fit ts us k p xs ys f g

tree_fits : (task : TaskParts) (tree : Tree) → are_tables_typed task.inputs ≡ true → types_agree task tree ≡ true → IfSome (rows task.inputs task.constants tree) (AllFit (columns task.inputs tree))
tree_fits task (t.base table) typed agree = input_fits task.inputs table typed
tree_fits task (t.filter child p) typed agree =
    let both = both_true (types_agree task child) (pred_agrees (columns task.inputs child) task.constants p) agree in
    mapped_fit (columns task.inputs child) (columns task.inputs child) (filter (keeps task.constants p)) (rows task.inputs task.constants child) (λ xs f. all-filter (columns task.inputs child) (keeps task.constants p) xs f) (tree_fits task child typed both.0)
tree_fits task (t.pair kind a b p) typed agree =
    let outer = both_true (types_agree task a && types_agree task b) (pred_agrees (hole_types task.inputs a b) task.constants p) agree in
    let both = both_true (types_agree task a) (types_agree task b) outer.0 in
    both_fit (columns task.inputs a) (columns task.inputs b) (columns task.inputs a ++ columns task.inputs b) (paired kind task.constants p (length (columns task.inputs b))) (rows task.inputs task.constants a) (rows task.inputs task.constants b)
    (λ xs ys f g. paired_fit kind (columns task.inputs a) (columns task.inputs b) task.constants p xs ys f g) (tree_fits task a typed both.0) (tree_fits task b typed both.1)
tree_fits task (t.group child keys agg) typed agree =
    let both = both_true (types_agree task child) (agg_agrees (columns task.inputs child) agg) agree in
    groups_fit (columns task.inputs child) keys agg (rows task.inputs task.constants child) (tree_fits task child typed both.0)
tree_fits task (t.unite kind a b) typed agree =
    let outer = both_true (types_agree task a && types_agree task b) (pointwise same_type (columns task.inputs a) (columns task.inputs b)) agree in
    let both = both_true (types_agree task a) (types_agree task b) outer.0 in
    both_fit (columns task.inputs a) (columns task.inputs b) (columns task.inputs a) (united kind) (rows task.inputs task.constants a) (rows task.inputs task.constants b)
    (λ xs ys f g. united_fit kind (columns task.inputs a) (columns task.inputs b) xs ys outer.1 f g) (tree_fits task a typed both.0) (tree_fits task b typed both.1)

third_holds : (a b c : Bool) (x y z : QueryFault) → (if not a then Some x else (if not b then Some y else (if not c then Some z else None))) ≡ None → c ≡ true
third_holds false b c x y z e = cc
third_holds true false c x y z e = cc
third_holds true true false x y z e = cc
third_holds true true true x y z e = refl

agrees : (task : TaskParts) (tree : Tree) → columns_fault task tree ≡ None → types_agree task tree ≡ true
agrees task tree e = third_holds (names_inputs task tree) (names_columns task tree) (types_agree task tree) BadTable BadColumn TypesDiffer e

or_none : (ts : List ColType) (o : Option (List Row)) → IfSome o (AllFit ts) → rows_fit ts (unwrap_or o []) ≡ true
or_none ts None f = refl
or_none ts (Some rows) f = all_to ts rows f

-- the rows of a tree in which nothing is wrong fit its columns' types
pub rows_fit_columns : (task : TaskParts) (tree : Tree) → are_tables_typed task.inputs ≡ true → columns_fault task tree ≡ None → rows_fit (columns task.inputs tree) (unwrap_or (rows task.inputs task.constants tree) []) ≡ true
rows_fit_columns task tree typed right = or_none (columns task.inputs tree) (rows task.inputs task.constants tree) (tree_fits task tree typed (agrees task tree right))

given_fit : (ts : List ColType) (picks : List ℕ) (distinct : Bool) (body : List Row) → AllFit ts body → AllFit (map (type_at ts) picks) (given_rows picks distinct body)
given_fit ts picks false body f = selected_fit ts picks body f
given_fit ts picks true body f = firsts_fit (map (type_at ts) picks) (map (projected picks) body) (selected_fit ts picks body f)

-- the rows of a query with such a body fit the types of the columns that it selects
pub answer_fits : (task : TaskParts) (q : Select) → are_tables_typed task.inputs ≡ true → columns_fault task q.body ≡ None
    → rows_fit (map (type_at (columns task.inputs q.body)) q.picks) (unwrap_or (answer task.inputs task.constants q) []) ≡ true
answer_fits task q typed right =
    let ts = columns task.inputs q.body in
    or_none (map (type_at ts) q.picks) (answer task.inputs task.constants q)
    (mapped_fit ts (map (type_at ts) q.picks) (given_rows q.picks q.distinct) (rows task.inputs task.constants q.body) (λ xs f. given_fit ts q.picks q.distinct xs f) (tree_fits task q.body typed (agrees task q.body right)))

-- ---- the steps over tables

pub filter_fits : (cs : List Column) (xs : List Row) (k : List Value) (p : Pred) → are_typed cs xs ≡ true → rows_fit (map (λ c. c.kind) cs) (filter (keeps k p) xs) ≡ true
filter_fits cs xs k p e = all_to (map (λ c. c.kind) cs) (filter (keeps k p) xs) (all-filter (map (λ c. c.kind) cs) (keeps k p) xs (typed_from cs xs e))

pub join_fits : (cs ds : List Column) (xs ys : List Row) (k : List Value) (p : Pred) → are_typed cs xs ≡ true → are_typed ds ys ≡ true
    → rows_fit (map (λ c. c.kind) cs ++ map (λ c. c.kind) ds) (joined k p xs ys) ≡ true
join_fits cs ds xs ys k p e g =
    let ts = map (λ c. c.kind) cs in
    let us = map (λ c. c.kind) ds in
    all_to (ts ++ us) (joined k p xs ys) (joined_fit ts us k p xs ys (typed_from cs xs e) (typed_from ds ys g))

pub left_fits : (cs ds : List Column) (xs ys : List Row) (k : List Value) (p : Pred) → are_typed cs xs ≡ true → are_typed ds ys ≡ true
    → rows_fit (map (λ c. c.kind) cs ++ map (λ c. c.kind) ds) (left_joined k p (length (map (λ c. c.kind) ds)) xs ys) ≡ true
left_fits cs ds xs ys k p e g =
    let ts = map (λ c. c.kind) cs in
    let us = map (λ c. c.kind) ds in
    all_to (ts ++ us) (left_joined k p (length us) xs ys) (left_fit ts us k p xs ys (typed_from cs xs e) (typed_from ds ys g))

pub group_fits : (cs : List Column) (xs : List Row) (keys : List ℕ) (agg : Agg) → are_typed cs xs ≡ true
    → rows_fit (group_types (map (λ c. c.kind) cs) keys agg) (unwrap_or (grouped keys agg xs) []) ≡ true
group_fits cs xs keys agg e =
    let ts = map (λ c. c.kind) cs in
    or_none (group_types ts keys agg) (grouped keys agg xs) (grouped_fit ts keys agg xs (typed_from cs xs e))

pub unions_fit : (cs ds : List Column) (xs ys : List Row) (kind : Uniting) → are_typed cs xs ≡ true → are_typed ds ys ≡ true → pointwise same_type (map (λ c. c.kind) cs) (map (λ c. c.kind) ds) ≡ true
    → rows_fit (map (λ c. c.kind) cs) (united kind xs ys) ≡ true
unions_fit cs ds xs ys kind e g same =
    let ts = map (λ c. c.kind) cs in
    all_to ts (united kind xs ys) (united_fit kind ts (map (λ c. c.kind) ds) xs ys same (typed_from cs xs e) (typed_from ds ys g))

pub projection_fits : (cs : List Column) (xs : List Row) (picks : List ℕ) (distinct : Bool) → are_typed cs xs ≡ true
    → rows_fit (map (type_at (map (λ c. c.kind) cs)) picks) (given_rows picks distinct xs) ≡ true
projection_fits cs xs picks distinct e =
    let ts = map (λ c. c.kind) cs in
    all_to (map (type_at ts) picks) (given_rows picks distinct xs) (given_fit ts picks distinct xs (typed_from cs xs e))

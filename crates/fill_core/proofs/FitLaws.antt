-- A row that fits a node of a plan has the node's fillings, which depend on nothing of a task but what is compared.
use Rattle.std.proofs.Common.{◌≡◌, ℕ, ◌<◌, Bool, true, ◌==◌, ◌&&◌, nat_eq, nat_lt, List, [], ◌∷◌, ◌++◌, map, length, is_some, Option, Some, None, refl, sym, ap, ap₂, ◌∙◌, subst, Decides}
use Rattle.std.specs.Prelude.{slice_get, unwrap_or, option_and_then}
use Rattle.std.specs.List.{flat_map, list_all}
use Rattle.std.specs.Cmp.Lexicographic.{pointwise}
use Rattle.std.proofs.lemmas.Bool.{and_parts, false≢true, eqb-true, eq-eqb, lt-ltb}
use Rattle.std.proofs.lemmas.List.Folds.{list_all-append}
use Rattle.std.proofs.lemmas.Slice.Eq.{slice_eq-Decides}
use Rattle.value_core.specs.Value.{same_type}
use Rattle.value_core.specs.declared.value.ColType.{ColType}
use Rattle.value_core.specs.declared.value.ColType.TheVariants as kind
use Rattle.value_core.specs.declared.value.Value.{Value}
use Rattle.value_core.proofs.ValueLaws.{same_decides}
use Rattle.table_core.specs.Bag.{same_cells}
use Rattle.table_core.specs.Limits.{same_column_name}
use Rattle.table_core.specs.Rows.{Row as Tuple, TableData, empty_table, types_of}
use Rattle.table_core.specs.declared.column.Column.{Column}
use Rattle.table_core.specs.declared.task.TaskParts.{TaskParts}
use Rattle.query_core.specs.Filled.{Filled, standard_fillings, filled_filters, filled_groups, filled_pairs}
use Rattle.query_core.specs.Grammar.{leaves}
use Rattle.query_core.specs.Meaning.{columns, group_types, input_at}
use Rattle.query_core.specs.Tree.{Tree}
use Rattle.query_core.specs.Tree as t
use Rattle.query_core.specs.View.{tree}
use Rattle.query_core.specs.declared.kinds.Pairing.{Pairing}
use Rattle.query_core.specs.declared.node.Node.{Node}
use Rattle.query_core.proofs.MapLaws.{flat_map_same}
use Rattle.query_laws.specs.Filled.{unions_on, of_each_filled}
use Rattle.query_laws.proofs.FilledLaws.{base_filled, filter_filled, pair_filled, group_filled, union_filled}
use Rattle.skeleton_graph.specs.Below.{same_tree}
use Rattle.skeleton_graph.specs.GraphData.{IsGraph, HasItsChildren}
use Rattle.skeleton_graph.specs.Nodes.{child_tree, kind_tree, tree_at, trees_of}
use Rattle.skeleton_graph.specs.declared.node.Kind.{Kind}
use Rattle.skeleton_graph.specs.declared.node.Kind.TheVariants as kinds
use Rattle.skeleton_graph.specs.declared.node.SkelNode.{SkelNode}
use Rattle.skeleton_graph.proofs.SameLaws.{same_tree_decides}
use Rattle.skeleton_graph.proofs.TreeLaws.{tree_made}
use Rattle.fill_core.specs.Fits.{RowData, same_column, same_table, same_input, same_inputs, same_source, has_skeleton, fits, FitsChild, FitBelow}
use Rattle.fill_core.specs.Plans.{PlanData}
use Rattle.fill_core.specs.View.{AreFillingsOf, IsPartOf, ArePartsOf}
use Rattle.fill_core.specs.declared.fillings.Fillings.{Fillings}

-- what a skeleton's fillings take of a table
abbrev AreAlike : TableData → TableData → Type 0
AreAlike u v = (types_of u ≡ types_of v) × (u.rows ≡ v.rows)

type_same : (a b : ColType) → same_type a b ≡ true → a ≡ b
type_same kind.Int kind.Int e = refl
type_same kind.Int kind.Text e = absurd (false≢true e)
type_same kind.Text kind.Int e = absurd (false≢true e)
type_same kind.Text kind.Text e = refl

types_same : (cs ds : List Column) → pointwise same_column cs ds ≡ true → map (λ (c : Column). c.kind) cs ≡ map (λ (c : Column). c.kind) ds
types_same [] [] e = refl
types_same [] (d ∷ ds) e = absurd (false≢true e)
types_same (c ∷ cs) [] e = absurd (false≢true e)
types_same (c ∷ cs) (d ∷ ds) e =
    let both = and_parts (same_column c d) (pointwise same_column cs ds) e in
    let here = and_parts (same_column_name c d) (same_type c.kind d.kind) both.0 in
    ap₂ (λ k ks. k ∷ ks) (type_same c.kind d.kind here.1) (types_same cs ds both.1)

cells_decide : (a b : Tuple) → Decides (same_cells a b) (a ≡ b)
cells_decide a b = slice_eq-Decides same_decides a b (same_cells a b) refl

table_alike : (u v : TableData) → same_table u v ≡ true → AreAlike u v
table_alike u v e =
    let both = and_parts (pointwise same_column u.columns v.columns) (pointwise same_cells u.rows v.rows) e in
    (types_same u.columns v.columns both.0, (slice_eq-Decides cells_decide u.rows v.rows (pointwise same_cells u.rows v.rows) refl).0 both.1)

input_alike : (o p : Option TableData) → same_input o p ≡ true → AreAlike (unwrap_or o (empty_table [] [])) (unwrap_or p (empty_table [] []))
input_alike None None e = (refl, refl)
input_alike None (Some v) e = absurd (false≢true e)
input_alike (Some u) None e = absurd (false≢true e)
input_alike (Some u) (Some v) e = table_alike u v e

base_alike : (these those : List TableData) (table : ℕ) → same_inputs these those (t.base table) ≡ true → AreAlike (input_at these table) (input_at those table)
base_alike these those table e =
    let here = and_parts (same_input (slice_get these table) (slice_get those table)) true e in
    input_alike (slice_get these table) (slice_get those table) here.0

-- what two parts read is the same where it is for each
both_same : (these those : List TableData) (a b : Tree) → list_all (λ table. same_input (slice_get these table) (slice_get those table)) (leaves a ++ leaves b) ≡ true → (same_inputs these those a ≡ true) × (same_inputs these those b ≡ true)
both_same these those a b e =
    let split = list_all-append (λ table. same_input (slice_get these table) (slice_get those table)) (leaves a) (leaves b) in
    and_parts (same_inputs these those a) (same_inputs these those b) (sym split ∙ e)

-- the types of a skeleton's columns depend on nothing but the inputs that it reads
columns_same : (these those : List TableData) (s : Tree) → same_inputs these those s ≡ true → columns these s ≡ columns those s
columns_same these those (t.base table) e = (base_alike these those table e).0
columns_same these those (t.filter child p) e = columns_same these those child e
columns_same these those (t.pair kind a b p) e = let both = both_same these those a b e in ap₂ (λ ls rs. ls ++ rs) (columns_same these those a both.0) (columns_same these those b both.1)
columns_same these those (t.group child keys agg) e = ap (λ types. group_types types keys agg) (columns_same these those child e)
columns_same these those (t.unite kind a b) e = columns_same these those a (both_same these those a b e).0

-- a task with these constants and this bound on atoms
abbrev with_choices : TaskParts → List Value → ℕ → TaskParts
with_choices task constants atoms =
    record { inputs = task.inputs; output = task.output; constants = constants; aggregates = task.aggregates; ops = task.ops; leaves = task.leaves; atoms = atoms; show = task.show; budget = task.budget }

-- the standard filters over a part, and pairs of two, depend on nothing but the constants and the bound on atoms
filters_same : (this that : TaskParts) → this.constants ≡ that.constants → this.atoms ≡ that.atoms → (f : Filled) → filled_filters this f ≡ filled_filters that f
filters_same this that constants atoms f = ap₂ (λ cs n. filled_filters (with_choices this cs n) f) constants atoms

pairs_same : (this that : TaskParts) → this.constants ≡ that.constants → this.atoms ≡ that.atoms → (kind : Pairing) (f g : Filled) → filled_pairs this kind f g ≡ filled_pairs that kind f g
pairs_same this that constants atoms kind f g = ap₂ (λ cs n. filled_pairs (with_choices this cs n) kind f g) constants atoms

-- the standard fillings of a skeleton depend on nothing but these and the inputs that it reads
fillings_same : (this that : TaskParts) → this.constants ≡ that.constants → this.atoms ≡ that.atoms → (s : Tree) → same_inputs this.inputs that.inputs s ≡ true → standard_fillings this s ≡ standard_fillings that s
fillings_same this that constants atoms (t.base table) e =
    let alike = base_alike this.inputs that.inputs table e in
    base_filled this table ∙ ap₂ (λ types rows. record { types = types; preds = []; rows = rows } ∷ []) alike.0 alike.1 ∙ sym (base_filled that table)
fillings_same this that constants atoms (t.filter child p) e =
    filter_filled this child p
    ∙ flat_map_same (filled_filters this) (filled_filters that) (standard_fillings this child) (filters_same this that constants atoms)
    ∙ ap (flat_map (filled_filters that)) (fillings_same this that constants atoms child e)
    ∙ sym (filter_filled that child p)
fillings_same this that constants atoms (t.pair kind a b p) e =
    let both = both_same this.inputs that.inputs a b e in
    let rights = standard_fillings this b in
    pair_filled this kind a b p
    ∙ flat_map_same (λ f. flat_map (filled_pairs this kind f) rights) (λ f. flat_map (filled_pairs that kind f) rights) (standard_fillings this a)
    (λ f. flat_map_same (filled_pairs this kind f) (filled_pairs that kind f) rights (pairs_same this that constants atoms kind f))
    ∙ ap₂ (of_each_filled (filled_pairs that kind)) (fillings_same this that constants atoms a both.0) (fillings_same this that constants atoms b both.1)
    ∙ sym (pair_filled that kind a b p)
fillings_same this that constants atoms (t.group child keys agg) e =
    group_filled this child keys agg ∙ ap (flat_map (filled_groups keys agg)) (fillings_same this that constants atoms child e) ∙ sym (group_filled that child keys agg)
fillings_same this that constants atoms (t.unite kind a b) e =
    let both = both_same this.inputs that.inputs a b e in
    union_filled this kind a b
    ∙ ap₂ (of_each_filled (unions_on kind)) (fillings_same this that constants atoms a both.0) (fillings_same this that constants atoms b both.1)
    ∙ sym (union_filled that kind a b)

-- a row that fits a node of a plan has the node's fillings
pub row_fits : (row : RowData) (plan : PlanData) (node : ℕ) → AreFillingsOf row.source (tree row.skeleton) row.fillings → fits row plan node ≡ true → AreFillingsOf plan.task (tree_at (trees_of plan.graph.nodes) node) row.fillings
row_fits row plan node made e =
    let this = row.source in
    let that = plan.task in
    let own = tree row.skeleton in
    let whole = tree_at (trees_of plan.graph.nodes) node in
    let both = and_parts (row.node == node && has_skeleton plan node own) (same_source this that own) e in
    let place = and_parts (row.node == node) (has_skeleton plan node own) both.0 in
    let skeleton : own ≡ whole = (same_tree_decides own whole).0 (and_parts (nat_lt node (length plan.graph.nodes)) (same_tree own whole) place.1).1 in
    let source = and_parts (same_inputs this.inputs that.inputs own) (same_cells this.constants that.constants && this.atoms == that.atoms) both.1 in
    let choices = and_parts (same_cells this.constants that.constants) (this.atoms == that.atoms) source.1 in
    let constants : this.constants ≡ that.constants = (cells_decide this.constants that.constants).0 choices.0 in
    let atoms : this.atoms ≡ that.atoms = eqb-true this.atoms that.atoms choices.1 in
    subst (λ s. AreFillingsOf that s row.fillings) skeleton (made.0 ∙ fillings_same this that constants atoms own source.0, made.1 ∙ columns_same this.inputs that.inputs own source.0)

-- what is made of a task for a node of its plan fits the node
all_same : {X : Type 0} (E : X → X → Bool) → ((x : X) → E x x ≡ true) → (xs : List X) → pointwise E xs xs ≡ true
all_same E same [] = refl
all_same E same (x ∷ xs) = ap₂ (λ a b. a && b) (same x) (all_same E same xs)

column_itself : (c : Column) → same_column c c ≡ true
column_itself c = ap₂ (λ a b. a && b) (all_same nat_eq (λ n. eq-eqb n n refl) c.name) (type_itself c.kind)
  where
    type_itself : (k : ColType) → same_type k k ≡ true
    type_itself kind.Int = refl
    type_itself kind.Text = refl

cells_itself : (a : Tuple) → same_cells a a ≡ true
cells_itself a = (cells_decide a a).1 refl

input_itself : (o : Option TableData) → same_input o o ≡ true
input_itself None = refl
input_itself (Some u) = ap₂ (λ a b. a && b) (all_same same_column column_itself u.columns) (all_same same_cells cells_itself u.rows)

inputs_itself : (these : List TableData) (tables : List ℕ) → list_all (λ table. same_input (slice_get these table) (slice_get these table)) tables ≡ true
inputs_itself these [] = refl
inputs_itself these (table ∷ tables) = ap₂ (λ a b. a && b) (input_itself (slice_get these table)) (inputs_itself these tables)

pub made_fits : (plan : PlanData) (node : ℕ) (skeleton : Node) (source : TaskParts) (fillings : Fillings) → node < length plan.graph.nodes → tree skeleton ≡ tree_at (trees_of plan.graph.nodes) node → source ≡ plan.task
    → fits (record { node = node; skeleton = skeleton; source = source; fillings = fillings }) plan node ≡ true
made_fits plan node skeleton source fillings below is same =
    let whole = tree_at (trees_of plan.graph.nodes) node in
    let place = ap₂ (λ a b. a && b) (eq-eqb node node refl) (ap₂ (λ a b. a && b) (lt-ltb node (length plan.graph.nodes) below) ((same_tree_decides (tree skeleton) whole).1 is)) in
    let choices = ap₂ (λ a b. a && b) (cells_itself plan.task.constants) (eq-eqb plan.task.atoms plan.task.atoms refl) in
    let task = ap₂ (λ a b. a && b) (inputs_itself plan.task.inputs (leaves (tree skeleton))) choices in
    ap₂ (λ a b. a && b) place (ap (λ s. same_source s plan.task (tree skeleton)) same ∙ task)

-- a child that a node has is its part, where the row that is there fits the child
child_part : (task : TaskParts) (trees : List Tree) (child : Option ℕ) (fillings : Option Fillings) → ((k : ℕ) → child ≡ Some k → IsPartOf task (tree_at trees k) fillings) → is_some child ≡ true → IsPartOf task (child_tree trees child) fillings
child_part task trees None fillings each there = absurd (false≢true there)
child_part task trees (Some k) fillings each there = each k refl

parts_of : (task : TaskParts) (k : Kind) (a b : Tree) (left right : Option Fillings) (l r : Option ℕ) → HasItsChildren k l r → (is_some l ≡ true → IsPartOf task a left) → (is_some r ≡ true → IsPartOf task b right)
    → ArePartsOf task (kind_tree k a b) left right
parts_of task (kinds.Base table) a b left right l r has first second = tt
parts_of task kinds.Filter a b left right l r has first second = first has.0
parts_of task kinds.Join a b left right l r has first second = (first has.0, second has.1)
parts_of task kinds.Left a b left right l r has first second = (first has.0, second has.1)
parts_of task (kinds.Group keys agg) a b left right l r has first second = first has.0
parts_of task kinds.UnionAll a b left right l r has first second = (first has.0, second has.1)
parts_of task kinds.Union a b left right l r has first second = (first has.0, second has.1)

-- the fillings of rows that fit the children of a node are those of its parts
pub parts_fit : (plan : PlanData) (k : ℕ) (node : SkelNode) (lefts rights : Option RowData) (left right : Option Fillings) → IsGraph plan.graph.nodes plan.graph.types → slice_get plan.graph.nodes k ≡ Some node
    → FitBelow plan k lefts rights
    → ((child : ℕ) → FitsChild plan (Some child) lefts → IsPartOf plan.task (tree_at (trees_of plan.graph.nodes) child) left)
    → ((child : ℕ) → FitsChild plan (Some child) rights → IsPartOf plan.task (tree_at (trees_of plan.graph.nodes) child) right)
    → ArePartsOf plan.task (tree_at (trees_of plan.graph.nodes) k) left right
parts_fit plan k node lefts rights left right graph is fit first second =
    let trees = trees_of plan.graph.nodes in
    let on_left : FitsChild plan node.left lefts = subst (λ c. FitsChild plan c lefts) (ap (option_and_then (λ (n : SkelNode). n.left)) is) fit.0 in
    let on_right : FitsChild plan node.right rights = subst (λ c. FitsChild plan c rights) (ap (option_and_then (λ (n : SkelNode). n.right)) is) fit.1 in
    subst (λ s. ArePartsOf plan.task s left right) (sym (tree_made plan.graph.nodes k node graph.lefts graph.rights is))
    (parts_of plan.task node.kind (child_tree trees node.left) (child_tree trees node.right) left right node.left node.right (graph.shaped k node is)
    (child_part plan.task trees node.left left (λ c e. first c (subst (λ o. FitsChild plan o lefts) e on_left)))
    (child_part plan.task trees node.right right (λ c e. second c (subst (λ o. FitsChild plan o rights) e on_right))))

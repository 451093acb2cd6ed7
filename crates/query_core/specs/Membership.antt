-- Which rule of the grammar a query breaks first.
use Rattle.std.specs.Prelude.{ℕ, Bool, true, false, not, ◌&&◌, ◌==◌, nat_lt, nat_le, List, [], ◌∷◌, map, length, Option, Some, None, if◌then◌else◌}
use Rattle.std.specs.List.{list_all}
use Rattle.std.specs.Option.{option_or}
use Rattle.std.specs.Ordering.{nat_cmp, is_lt}
use Rattle.std.specs.Cmp.Lexicographic.{slice_cmp, pointwise}
use Rattle.value_core.specs.Value.{same_type}
use Rattle.predicate_core.specs.Equal.{op_number, atoms_of}
use Rattle.predicate_core.specs.declared.atom.Atom.{Atom}
use Rattle.predicate_core.specs.declared.atom.Atom.TheVariants.{Cols, Const, IsNull, NotNull}
use Rattle.predicate_core.specs.declared.pred.Pred.{Pred}
use Rattle.table_core.specs.Rows.{types_of}
use Rattle.table_core.specs.declared.agg_set.AggSet.{AggSet}
use Rattle.table_core.specs.declared.task.TaskParts.{TaskParts}
use Rattle.query_core.specs.Tree.{Tree, Select}
use Rattle.query_core.specs.Tree as t
use Rattle.query_core.specs.Meaning.{columns, type_at}
use Rattle.query_core.specs.Grammar.{leaves, takes_filter, in_order, pair_in_order}
use Rattle.query_core.specs.Columns.{names_inputs, names_columns, types_agree}
use Rattle.query_core.specs.Skeleton.{operators, is_open, is_no_key}
use Rattle.query_core.specs.declared.agg.Agg.{Agg}
use Rattle.query_core.specs.declared.agg.Agg.TheVariants.{CountAll, Count, CountDistinct, Sum, Min, Max}
use Rattle.query_core.specs.declared.fault.QueryFault.{QueryFault}
use Rattle.query_core.specs.declared.fault.QueryFault.TheVariants.{BadTable, BadColumn, TypesDiffer, NotInGrammar, TooManyOps, TooManyLeaves, TooManyAtoms}

-- whether a map has one column for each of the output's, each among the body's
abbrev pub picks_in_range : TaskParts → Select → Bool
picks_in_range task q = (length q.picks == length task.output.columns) && list_all (λ k. nat_lt k (length (columns task.inputs q.body))) q.picks

-- whether the columns of a map have the types of the output's
abbrev pub picks_agree : TaskParts → Select → Bool
picks_agree task q = pointwise same_type (map (type_at (columns task.inputs q.body)) q.picks) (types_of task.output)

-- whether a test holds of each node of a tree
abbrev pub each_node : (Tree → Bool) → Tree → Bool
each_node test (t.base table) = test (t.base table)
each_node test (t.filter child p) = each_node test child && test (t.filter child p)
each_node test (t.pair kind a b p) = (each_node test a && each_node test b) && test (t.pair kind a b p)
each_node test (t.group child keys agg) = each_node test child && test (t.group child keys agg)
each_node test (t.unite kind a b) = (each_node test a && each_node test b) && test (t.unite kind a b)

-- whether a node that is a filter stands neither over a filter nor over a join
abbrev pub filter_placed : Tree → Bool
filter_placed (t.base table) = true
filter_placed (t.filter child p) = takes_filter child
filter_placed (t.pair kind a b p) = true
filter_placed (t.group child keys agg) = true
filter_placed (t.unite kind a b) = true

-- whether a node that is a filter has another predicate than Always
abbrev pub filter_asks : Tree → Bool
filter_asks (t.base table) = true
filter_asks (t.filter child p) = not (is_open p)
filter_asks (t.pair kind a b p) = true
filter_asks (t.group child keys agg) = true
filter_asks (t.unite kind a b) = true

-- whether the parts of a node that is a join or a union stand in the order of their leaves
abbrev pub parts_ordered : Tree → Bool
parts_ordered (t.base table) = true
parts_ordered (t.filter child p) = true
parts_ordered (t.pair kind a b p) = pair_in_order kind (a, b)
parts_ordered (t.group child keys agg) = true
parts_ordered (t.unite kind a b) = in_order (a, b)

-- whether there are at most two keys, ascending
abbrev pub are_few_ascending : List ℕ → Bool
are_few_ascending [] = true
are_few_ascending (i ∷ []) = true
are_few_ascending (i ∷ j ∷ []) = nat_lt i j
are_few_ascending (i ∷ j ∷ k ∷ more) = false

-- whether a node that is a group has such keys
abbrev pub keys_ascend : Tree → Bool
keys_ascend (t.base table) = true
keys_ascend (t.filter child p) = true
keys_ascend (t.pair kind a b p) = true
keys_ascend (t.group child keys agg) = are_few_ascending keys
keys_ascend (t.unite kind a b) = true

-- whether an aggregate's column is none of these keys
abbrev pub agg_is_no_key : List ℕ → Agg → Bool
agg_is_no_key keys CountAll = true
agg_is_no_key keys (Count column) = is_no_key keys column
agg_is_no_key keys (CountDistinct column) = is_no_key keys column
agg_is_no_key keys (Sum column) = is_no_key keys column
agg_is_no_key keys (Min column) = is_no_key keys column
agg_is_no_key keys (Max column) = is_no_key keys column

-- whether the aggregate of a node that is a group is over none of its keys
abbrev pub agg_apart : Tree → Bool
agg_apart (t.base table) = true
agg_apart (t.filter child p) = true
agg_apart (t.pair kind a b p) = true
agg_apart (t.group child keys agg) = agg_is_no_key keys agg
agg_apart (t.unite kind a b) = true

-- whether a set has the kind of an aggregate
abbrev pub allows : AggSet → Agg → Bool
allows set CountAll = set.count_all
allows set (Count column) = set.count
allows set (CountDistinct column) = set.count_distinct
allows set (Sum column) = set.sum
allows set (Min column) = set.min
allows set (Max column) = set.max

-- whether the task allows the aggregate of a node that is a group
abbrev pub agg_allowed : TaskParts → Tree → Bool
agg_allowed task (t.base table) = true
agg_allowed task (t.filter child p) = true
agg_allowed task (t.pair kind a b p) = true
agg_allowed task (t.group child keys agg) = allows task.aggregates agg
agg_allowed task (t.unite kind a b) = true

-- whether an atom that compares two columns has the earlier one first
abbrev pub columns_ascend : Atom → Bool
columns_ascend (Cols i op j) = nat_lt i j
columns_ascend (Const i op k) = true
columns_ascend (IsNull i) = true
columns_ascend (NotNull i) = true

-- the place of an atom among all: its group, what it is over, and its comparison
abbrev pub atom_key : Atom → List ℕ
atom_key (Cols i op j) = 0 ∷ i ∷ j ∷ op_number op ∷ []
atom_key (Const i op k) = 1 ∷ i ∷ k ∷ op_number op ∷ []
atom_key (IsNull i) = 2 ∷ i ∷ 0 ∷ 0 ∷ []
atom_key (NotNull i) = 2 ∷ i ∷ 1 ∷ 0 ∷ []

-- whether an atom stands before another in the list of atoms
abbrev pub atom_before : Atom → Atom → Bool
atom_before a b = is_lt (slice_cmp nat_cmp (atom_key a) (atom_key b))

-- whether each of some atoms stands before the next
abbrev pub atoms_ascend : List Atom → Bool
atoms_ascend [] = true
atoms_ascend (a ∷ []) = true
atoms_ascend (a ∷ b ∷ more) = atom_before a b && atoms_ascend (b ∷ more)

-- whether the atoms of a predicate are in order, each by itself and together
abbrev pub pred_in_order : Pred → Bool
pred_in_order p = list_all columns_ascend (atoms_of p) && atoms_ascend (atoms_of p)

-- whether the atoms of a node's predicate are in order
abbrev pub atoms_in_order : Tree → Bool
atoms_in_order (t.base table) = true
atoms_in_order (t.filter child p) = pred_in_order p
atoms_in_order (t.pair kind a b p) = pred_in_order p
atoms_in_order (t.group child keys agg) = true
atoms_in_order (t.unite kind a b) = true

-- whether a node's predicate has no more atoms than the task allows
abbrev pub atoms_few : TaskParts → Tree → Bool
atoms_few task (t.base table) = true
atoms_few task (t.filter child p) = nat_le (length (atoms_of p)) task.atoms
atoms_few task (t.pair kind a b p) = nat_le (length (atoms_of p)) task.atoms
atoms_few task (t.group child keys agg) = true
atoms_few task (t.unite kind a b) = true

-- a fault where a test fails, else what comes after
abbrev pub fault_unless : Bool → QueryFault → Option QueryFault → Option QueryFault
fault_unless holds fault after = if holds then after else Some fault

-- the first thing that is wrong with the numbers and the types of a query
abbrev pub names_fault : TaskParts → Select → Option QueryFault
names_fault task q =
    fault_unless (names_inputs task q.body) BadTable (
    fault_unless (names_columns task q.body && picks_in_range task q) BadColumn (
    fault_unless (types_agree task q.body && picks_agree task q) TypesDiffer None))

-- the first rule of the grammar that a node of a tree breaks
abbrev pub grammar_fault : TaskParts → Tree → Option QueryFault
grammar_fault task body =
    fault_unless (each_node filter_placed body) (NotInGrammar 1) (
    fault_unless (each_node filter_asks body) (NotInGrammar 2) (
    fault_unless (each_node parts_ordered body) (NotInGrammar 3) (
    fault_unless (each_node keys_ascend body) (NotInGrammar 4) (
    fault_unless (each_node agg_apart body) (NotInGrammar 5) (
    fault_unless (each_node (agg_allowed task) body) (NotInGrammar 6) (
    fault_unless (each_node atoms_in_order body) (NotInGrammar 7) None))))))

-- the first bound that a tree passes
abbrev pub size_fault : TaskParts → Tree → Option QueryFault
size_fault task body =
    fault_unless (nat_le (operators body) task.ops) TooManyOps (
    fault_unless (nat_le (length (leaves body)) task.leaves) TooManyLeaves (
    fault_unless (each_node (atoms_few task) body) TooManyAtoms None))

-- the first thing that keeps a query out of the grammar of a task
abbrev pub query_fault : TaskParts → Select → Option QueryFault
query_fault task q = option_or (names_fault task q) (option_or (grammar_fault task q.body) (size_fault task q.body))

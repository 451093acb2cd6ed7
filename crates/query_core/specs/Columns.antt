-- What is wrong with the numbers and the types of a tree.
use Rattle.std.specs.Prelude.{ℕ, Bool, true, not, ◌&&◌, nat_lt, List, length, Option, Some, None, if◌then◌else◌}
use Rattle.std.specs.List.{list_all}
use Rattle.std.specs.Cmp.Lexicographic.{pointwise}
use Rattle.value_core.specs.Value.{same_type, is_of_type}
use Rattle.value_core.specs.declared.value.Value.{Value}
use Rattle.value_core.specs.declared.value.ColType.{ColType}
use Rattle.value_core.specs.declared.value.ColType.TheVariants as kind
use Rattle.predicate_core.specs.Truth.{value_at}
use Rattle.predicate_core.specs.Equal.{atoms_of}
use Rattle.predicate_core.specs.declared.atom.Atom.{Atom}
use Rattle.predicate_core.specs.declared.atom.Atom.TheVariants.{Cols, Const, IsNull, NotNull}
use Rattle.predicate_core.specs.declared.pred.Pred.{Pred}
use Rattle.table_core.specs.declared.task.TaskParts.{TaskParts}
use Rattle.query_core.specs.Tree.{Tree}
use Rattle.query_core.specs.Tree as t
use Rattle.query_core.specs.Meaning.{columns, hole_types, type_at}
use Rattle.query_core.specs.declared.agg.Agg.{Agg}
use Rattle.query_core.specs.declared.agg.Agg.TheVariants.{CountAll, Count, CountDistinct, Sum, Min, Max}
use Rattle.query_core.specs.declared.fault.QueryFault.{QueryFault}
use Rattle.query_core.specs.declared.fault.QueryFault.TheVariants.{BadTable, BadColumn, TypesDiffer}

-- whether each leaf names an input
abbrev pub names_inputs : TaskParts → Tree → Bool
names_inputs task (t.base table) = nat_lt table (length task.inputs)
names_inputs task (t.filter child p) = names_inputs task child
names_inputs task (t.pair kind a b p) = names_inputs task a && names_inputs task b
names_inputs task (t.group child keys agg) = names_inputs task child
names_inputs task (t.unite kind a b) = names_inputs task a && names_inputs task b

-- whether the numbers of an atom are those of columns and constants, of which there are so many
abbrev pub atom_in_range : ℕ → ℕ → Atom → Bool
atom_in_range width constants (Cols i op j) = nat_lt i width && nat_lt j width
atom_in_range width constants (Const i op k) = nat_lt i width && nat_lt k constants
atom_in_range width constants (IsNull i) = nat_lt i width
atom_in_range width constants (NotNull i) = nat_lt i width

-- whether the numbers of a predicate are
abbrev pub pred_in_range : ℕ → ℕ → Pred → Bool
pred_in_range width constants p = list_all (atom_in_range width constants) (atoms_of p)

-- whether an aggregate's column is one of so many
abbrev pub agg_in_range : ℕ → Agg → Bool
agg_in_range width CountAll = true
agg_in_range width (Count column) = nat_lt column width
agg_in_range width (CountDistinct column) = nat_lt column width
agg_in_range width (Sum column) = nat_lt column width
agg_in_range width (Min column) = nat_lt column width
agg_in_range width (Max column) = nat_lt column width

-- whether each column and constant that a tree names is there
abbrev pub names_columns : TaskParts → Tree → Bool
names_columns task (t.base table) = true
names_columns task (t.filter child p) = names_columns task child && pred_in_range (length (columns task.inputs child)) (length task.constants) p
names_columns task (t.pair kind a b p) = (names_columns task a && names_columns task b) && pred_in_range (length (hole_types task.inputs a b)) (length task.constants) p
names_columns task (t.group child keys agg) =
    names_columns task child && (list_all (λ k. nat_lt k (length (columns task.inputs child))) keys && agg_in_range (length (columns task.inputs child)) agg)
names_columns task (t.unite kind a b) = names_columns task a && names_columns task b

-- whether an atom compares what is of one type
abbrev pub atom_agrees : List ColType → List Value → Atom → Bool
atom_agrees types constants (Cols i op j) = same_type (type_at types i) (type_at types j)
atom_agrees types constants (Const i op k) = is_of_type (type_at types i) (value_at constants k)
atom_agrees types constants (IsNull i) = true
atom_agrees types constants (NotNull i) = true

-- whether each atom of a predicate does
abbrev pub pred_agrees : List ColType → List Value → Pred → Bool
pred_agrees types constants p = list_all (atom_agrees types constants) (atoms_of p)

-- whether an aggregate may stand over its column: a sum over whole numbers alone
abbrev pub agg_agrees : List ColType → Agg → Bool
agg_agrees types CountAll = true
agg_agrees types (Count column) = true
agg_agrees types (CountDistinct column) = true
agg_agrees types (Sum column) = same_type (type_at types column) kind.Int
agg_agrees types (Min column) = true
agg_agrees types (Max column) = true

-- whether the types of a tree agree: what is compared is of one type, sums are of numbers, and the parts of a union have equal types
abbrev pub types_agree : TaskParts → Tree → Bool
types_agree task (t.base table) = true
types_agree task (t.filter child p) = types_agree task child && pred_agrees (columns task.inputs child) task.constants p
types_agree task (t.pair kind a b p) = (types_agree task a && types_agree task b) && pred_agrees (hole_types task.inputs a b) task.constants p
types_agree task (t.group child keys agg) = types_agree task child && agg_agrees (columns task.inputs child) agg
types_agree task (t.unite kind a b) = (types_agree task a && types_agree task b) && pointwise same_type (columns task.inputs a) (columns task.inputs b)

-- the first thing that is wrong with a tree: a leaf that names no input, a column or constant that isn't there, types that differ
abbrev pub columns_fault : TaskParts → Tree → Option QueryFault
columns_fault task tree =
    if not (names_inputs task tree) then Some BadTable
    else (if not (names_columns task tree) then Some BadColumn
    else (if not (types_agree task tree) then Some TypesDiffer
    else None))

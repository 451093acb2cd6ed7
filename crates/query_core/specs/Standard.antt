-- The standard form: the first predicate of those that keep the same rows, and nothing that changes nothing.
use Rattle.std.specs.Prelude.{Bool, true, false, not, ◌&&◌, ◌||◌, List, [], unwrap_or, find, if◌then◌else◌}
use Rattle.std.specs.List.{list_all}
use Rattle.value_core.specs.declared.value.Value.{Value}
use Rattle.value_core.specs.declared.value.ColType.{ColType}
use Rattle.predicate_core.specs.Equal.{same_pred}
use Rattle.predicate_core.specs.Truth.{keeps}
use Rattle.predicate_core.specs.declared.pred.Pred.{Pred}
use Rattle.table_core.specs.Rows.{Row}
use Rattle.table_core.specs.Bag.{has_double}
use Rattle.table_core.specs.declared.task.TaskParts.{TaskParts}
use Rattle.query_core.specs.Tree.{Tree, Select}
use Rattle.query_core.specs.Tree as t
use Rattle.query_core.specs.Joins.{crossed}
use Rattle.query_core.specs.Meaning.{columns, hole_types, rows, selected}
use Rattle.query_core.specs.Grammar.{predicates}
use Rattle.query_core.specs.declared.kinds.Pairing.{Pairing}

-- whether two truth values are the same
abbrev pub same_bool : Bool → Bool → Bool
same_bool true b = b
same_bool false b = not b

-- whether two predicates keep the same of some rows
abbrev pub alike : List Value → List Row → Pred → Pred → Bool
alike constants candidates p q = list_all (λ row. same_bool (keeps constants p row) (keeps constants q row)) candidates

-- the first predicate of a list that keeps the same rows as p; p itself where there is none
abbrev pub first_alike : List Value → List Row → List Pred → Pred → Pred
first_alike constants candidates preds p = unwrap_or (find (alike constants candidates p) preds) p

-- whether a predicate is the first of a list that keep the same rows
abbrev pub is_first_alike : List Value → List Row → List Pred → Pred → Bool
is_first_alike constants candidates preds p = same_pred (first_alike constants candidates preds p) p

-- whether a predicate keeps all of some rows
abbrev pub keeps_all : List Value → List Row → Pred → Bool
keeps_all constants candidates p = list_all (keeps constants p) candidates

-- the rows of a tree, none where a sum in it has no value
abbrev pub rows_or_none : TaskParts → Tree → List Row
rows_or_none task tree = unwrap_or (rows task.inputs task.constants tree) []

-- whether a predicate over columns of these types, choosing from these rows, is the first of those that keep the same
abbrev pub is_first : TaskParts → List ColType → List Row → Pred → Bool
is_first task types candidates p = is_first_alike task.constants candidates (predicates task types) p

-- whether a filter's predicate is standard: the first of those alike, and not one that keeps all
abbrev pub is_standard_filter : TaskParts → Tree → Pred → Bool
is_standard_filter task child p =
    is_first task (columns task.inputs child) (rows_or_none task child) p && not (keeps_all task.constants (rows_or_none task child) p)

-- whether the predicate of a pair is standard: the first of those alike on all pairs
abbrev pub is_standard_pair : TaskParts → Tree → Tree → Pred → Bool
is_standard_pair task a b p = is_first task (hole_types task.inputs a b) (crossed (rows_or_none task a) (rows_or_none task b)) p

-- whether each predicate of a tree is standard
abbrev pub is_standard_tree : TaskParts → Tree → Bool
is_standard_tree task (t.base table) = true
is_standard_tree task (t.filter child p) = is_standard_tree task child && is_standard_filter task child p
is_standard_tree task (t.pair kind a b p) = (is_standard_tree task a && is_standard_tree task b) && is_standard_pair task a b p
is_standard_tree task (t.group child keys agg) = is_standard_tree task child
is_standard_tree task (t.unite kind a b) = is_standard_tree task a && is_standard_tree task b

-- whether a query is standard: its predicates are, and where it removes duplicates there are some
abbrev pub is_standard : TaskParts → Select → Bool
is_standard task q = is_standard_tree task q.body && (not q.distinct || has_double (selected q.picks (rows_or_none task q.body)))

-- the first predicate over columns of these types that keeps the same of these rows as p
abbrev pub first_of : TaskParts → List ColType → List Row → Pred → Pred
first_of task types candidates p = first_alike task.constants candidates (predicates task types) p

-- the standard form of a filter over a standard tree: the tree alone where p keeps all its rows, else the filter by the first predicate of those alike
abbrev pub std_filter : TaskParts → Tree → Pred → Tree
std_filter task child p =
    if keeps_all task.constants (rows_or_none task child) p then child
    else t.filter child (first_of task (columns task.inputs child) (rows_or_none task child) p)

-- the standard form of a pair of standard trees: the pair by the first predicate of those alike on all pairs of rows
abbrev pub std_pair : TaskParts → Pairing → Tree → Tree → Pred → Tree
std_pair task kind a b p = t.pair kind a b (first_of task (hole_types task.inputs a b) (crossed (rows_or_none task a) (rows_or_none task b)) p)

-- the standard form of a tree, from the leaves up
abbrev pub std : TaskParts → Tree → Tree
std task (t.base table) = t.base table
std task (t.filter child p) = std_filter task (std task child) p
std task (t.pair kind a b p) = std_pair task kind (std task a) (std task b) p
std task (t.group child keys agg) = t.group (std task child) keys agg
std task (t.unite kind a b) = t.unite kind (std task a) (std task b)

-- whether a query over this body removes a duplicate
abbrev pub removes_some : TaskParts → Select → Tree → Bool
removes_some task q body = q.distinct && has_double (selected q.picks (rows_or_none task body))

-- the standard form of a query: that of its body, and duplicates removed only where there are some
abbrev pub std_query : TaskParts → Select → Select
std_query task q = record { body = std task q.body; picks = q.picks; distinct = removes_some task q (std task q.body) }

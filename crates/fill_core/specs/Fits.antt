-- Which rows fit a plan: a row is the one of a node where what it was made of is what the plan has.
use Rattle.std.specs.Prelude.{◌≡◌, ℕ, Bool, true, false, ◌&&◌, ◌==◌, nat_lt, List, length, slice_get, Option, Some, None}
use Rattle.std.specs.List.{list_all}
use Rattle.std.specs.Cmp.Lexicographic.{pointwise}
use Rattle.value_core.specs.Value.{same_type}
use Rattle.table_core.specs.Bag.{same_cells}
use Rattle.table_core.specs.Limits.{same_column_name}
use Rattle.table_core.specs.Rows.{TableData}
use Rattle.table_core.specs.declared.column.Column.{Column}
use Rattle.table_core.specs.declared.task.TaskParts.{TaskParts}
use Rattle.query_core.specs.Grammar.{leaves}
use Rattle.query_core.specs.Tree.{Tree}
use Rattle.query_core.specs.View.{tree}
use Rattle.query_core.specs.declared.node.Node.{Node}
use Rattle.skeleton_graph.specs.Below.{same_tree}
use Rattle.skeleton_graph.specs.Nodes.{left_of, right_of, tree_at, trees_of}
use Rattle.fill_core.specs.Plans.{PlanData}
use Rattle.fill_core.specs.declared.fillings.Fillings.{Fillings}

-- what a row shows: the number of its node, the skeleton and the parts of the task that it was made of, and its fillings
pub record RowData : Type 0 where
  pub node : ℕ
  pub skeleton : Node
  pub source : TaskParts
  pub fillings : Fillings

-- whether two columns have the same name and the same type
abbrev pub same_column : Column → Column → Bool
same_column c d = same_column_name c d && same_type c.kind d.kind

-- whether two tables have the same columns and the same rows, in order
abbrev pub same_table : TableData → TableData → Bool
same_table t u = pointwise same_column t.columns u.columns && pointwise same_cells t.rows u.rows

-- the same of two tables that may not be there
abbrev pub same_input : Option TableData → Option TableData → Bool
same_input None None = true
same_input (Some t) (Some u) = same_table t u
same_input _ _ = false

-- whether each input that a skeleton reads is the same among these and those
abbrev pub same_inputs : List TableData → List TableData → Tree → Bool
same_inputs these those skeleton = list_all (λ table. same_input (slice_get these table) (slice_get those table)) (leaves skeleton)

-- whether two tasks are the same for a skeleton: in the inputs that it reads, the constants and the bound on atoms
abbrev pub same_source : TaskParts → TaskParts → Tree → Bool
same_source this that skeleton = same_inputs this.inputs that.inputs skeleton && (same_cells this.constants that.constants && this.atoms == that.atoms)

-- whether a plan has a node of this number, with this skeleton
abbrev pub has_skeleton : PlanData → ℕ → Tree → Bool
has_skeleton plan node skeleton = nat_lt node (length plan.graph.nodes) && same_tree skeleton (tree_at (trees_of plan.graph.nodes) node)

-- whether a row is the one of a node of a plan: its node has that number and that skeleton, and for the skeleton its task is the same
abbrev pub fits : RowData → PlanData → ℕ → Bool
fits row plan node = (row.node == node && has_skeleton plan node (tree row.skeleton)) && same_source row.source plan.task (tree row.skeleton)

-- a row that may not be there is there where there is a child, and fits it
abbrev pub FitsChild : PlanData → Option ℕ → Option RowData → Type 0
FitsChild plan None row = Unit
FitsChild plan (Some child) None = ⊥
FitsChild plan (Some child) (Some row) = fits row plan child ≡ true

-- for each child of a node there is a row, and it fits the child
abbrev pub FitBelow : PlanData → ℕ → Option RowData → Option RowData → Type 0
FitBelow plan node left right = FitsChild plan (left_of plan.graph.nodes node) left × FitsChild plan (right_of plan.graph.nodes node) right

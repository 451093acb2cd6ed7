-- The standard fillings of a skeleton that have rows, and what they are by those of its parts.
use Rattle.std.specs.Prelude.{ℕ, Bool, not, ◌&&◌, List, [], ◌∷◌, ◌++◌, map, flat_map, length, is_some, Option, Some, None}
use Rattle.std.specs.Prelude.{filter as list_filter}
use Rattle.value_core.specs.declared.value.ColType.{ColType}
use Rattle.predicate_core.specs.Truth.{keeps}
use Rattle.predicate_core.specs.declared.pred.Pred.{Pred}
use Rattle.table_core.specs.Rows.{Row, types_of}
use Rattle.table_core.specs.declared.task.TaskParts.{TaskParts}
use Rattle.query_core.specs.Tree.{Tree}
use Rattle.query_core.specs.Tree as t
use Rattle.query_core.specs.Firsts.{united}
use Rattle.query_core.specs.Groups.{grouped}
use Rattle.query_core.specs.Joins.{crossed, paired}
use Rattle.query_core.specs.Meaning.{columns, rows, input_at, group_types}
use Rattle.query_core.specs.Grammar.{predicates, fillings}
use Rattle.query_core.specs.Standard.{rows_or_none, is_standard_tree, is_first, keeps_all}
use Rattle.query_core.specs.declared.agg.Agg.{Agg}
use Rattle.query_core.specs.declared.kinds.Pairing.{Pairing}
use Rattle.query_core.specs.declared.kinds.Uniting.{Uniting}

-- the predicates of a tree, from the left part to the right part to the node
abbrev pub tree_preds : Tree → List Pred
tree_preds (t.base table) = []
tree_preds (t.filter child p) = tree_preds child ++ p ∷ []
tree_preds (t.pair kind a b p) = (tree_preds a ++ tree_preds b) ++ p ∷ []
tree_preds (t.group child keys agg) = tree_preds child
tree_preds (t.unite kind a b) = tree_preds a ++ tree_preds b

-- what is kept of a filled skeleton: the types of its columns, its predicates from the left part to the right part to the node, and its rows
pub record Filled : Type 0 where
  pub types : List ColType
  pub preds : List Pred
  pub rows : List Row

-- whether a tree is standard and has rows
abbrev pub is_filled : TaskParts → Tree → Bool
is_filled task tree = is_some (rows task.inputs task.constants tree) && is_standard_tree task tree

-- what is kept of a tree
abbrev pub filled : TaskParts → Tree → Filled
filled task tree = record { types = columns task.inputs tree; preds = tree_preds tree; rows = rows_or_none task tree }

-- the standard fillings of a skeleton that have rows, in order
abbrev pub standard_fillings : TaskParts → Tree → List Filled
standard_fillings task skeleton = map (filled task) (list_filter (is_filled task) (fillings task skeleton))

-- an input
abbrev pub filled_base : TaskParts → ℕ → Filled
filled_base task table = record { types = types_of (input_at task.inputs table); preds = []; rows = (input_at task.inputs table).rows }

-- a filter over a filled child
abbrev pub filled_filter : TaskParts → Filled → Pred → Filled
filled_filter task c p = record { types = c.types; preds = c.preds ++ p ∷ []; rows = list_filter (keeps task.constants p) c.rows }

-- whether a predicate is standard over a filled child: the first of those that keep the same rows, and not one that keeps all
abbrev pub may_filter : TaskParts → Filled → Pred → Bool
may_filter task c p = is_first task c.types c.rows p && not (keeps_all task.constants c.rows p)

-- the standard filters over a filled child
abbrev pub filled_filters : TaskParts → Filled → List Filled
filled_filters task c = map (filled_filter task c) (list_filter (may_filter task c) (predicates task c.types))

-- a pair of two filled parts
abbrev pub filled_pair : TaskParts → Pairing → Filled → Filled → Pred → Filled
filled_pair task kind a b p = record {
  types = a.types ++ b.types;
  preds = (a.preds ++ b.preds) ++ p ∷ [];
  rows = paired kind task.constants p (length b.types) a.rows b.rows;
}

-- the predicates that are each the first of those over columns of these types that keep the same of some rows
abbrev pub first_preds : TaskParts → List ColType → List Row → List Pred
first_preds task types candidates = list_filter (is_first task types candidates) (predicates task types)

-- the standard pairs of two filled parts
abbrev pub filled_pairs : TaskParts → Pairing → Filled → Filled → List Filled
filled_pairs task kind a b = map (filled_pair task kind a b) (first_preds task (a.types ++ b.types) (crossed a.rows b.rows))

-- a group over a filled child, where its sums have values
abbrev pub filled_group : List ℕ → Agg → Filled → Option (List Row) → List Filled
filled_group keys agg c None = []
filled_group keys agg c (Some groups) = record { types = group_types c.types keys agg; preds = c.preds; rows = groups } ∷ []

abbrev pub filled_groups : List ℕ → Agg → Filled → List Filled
filled_groups keys agg c = filled_group keys agg c (grouped keys agg c.rows)

-- a union of two filled parts
abbrev pub filled_union : Uniting → Filled → Filled → Filled
filled_union kind a b = record { types = a.types; preds = a.preds ++ b.preds; rows = united kind a.rows b.rows }

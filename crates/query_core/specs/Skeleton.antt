-- Which trees are skeletons of a task, said of each tree by itself.
use Rattle.std.specs.Prelude.{ℕ, ◌+◌, Bool, true, false, not, ◌&&◌, ◌==◌, nat_lt, nat_le, List, [], ◌∷◌, length}
use Rattle.std.specs.List.{list_any}
use Rattle.value_core.specs.Value.{same_type}
use Rattle.value_core.specs.declared.value.ColType.{ColType}
use Rattle.value_core.specs.declared.value.ColType.TheVariants as kind
use Rattle.predicate_core.specs.Equal.{same_pred}
use Rattle.predicate_core.specs.declared.pred.Pred.{Pred}
use Rattle.predicate_core.specs.declared.pred.Pred.TheVariants.{Always}
use Rattle.table_core.specs.declared.agg_set.AggSet.{AggSet}
use Rattle.table_core.specs.declared.task.TaskParts.{TaskParts}
use Rattle.query_core.specs.Tree.{Tree}
use Rattle.query_core.specs.Tree as t
use Rattle.query_core.specs.Meaning.{columns, type_at}
use Rattle.query_core.specs.Grammar.{takes_filter, may_pair, may_unite}
use Rattle.query_core.specs.declared.agg.Agg.{Agg}
use Rattle.query_core.specs.declared.agg.Agg.TheVariants.{CountAll, Count, CountDistinct, Sum, Min, Max}

-- how many operators a tree has: each node but a leaf is one
abbrev pub operators : Tree → ℕ
operators (t.base table) = 0
operators (t.filter child p) = operators child + 1
operators (t.pair kind a b p) = (operators a + operators b) + 1
operators (t.group child keys agg) = operators child + 1
operators (t.unite kind a b) = (operators a + operators b) + 1

-- whether a predicate is still open
abbrev pub is_open : Pred → Bool
is_open p = same_pred p Always

-- whether these may be the keys of a group over so many columns: at most two of the columns, ascending
abbrev pub are_keys : ℕ → List ℕ → Bool
are_keys width [] = true
are_keys width (i ∷ []) = nat_lt i width
are_keys width (i ∷ j ∷ []) = nat_lt i j && nat_lt j width
are_keys width (i ∷ j ∷ k ∷ more) = false

-- whether a column is none of these keys
abbrev pub is_no_key : List ℕ → ℕ → Bool
is_no_key keys column = not (list_any (λ k. k == column) keys)

-- whether a column is one of so many, and no key
abbrev pub is_free : ℕ → List ℕ → ℕ → Bool
is_free width keys column = nat_lt column width && is_no_key keys column

-- whether the task allows an aggregate over columns of these types, with these keys
abbrev pub is_allowed : AggSet → List ColType → List ℕ → Agg → Bool
is_allowed set types keys CountAll = set.count_all
is_allowed set types keys (Count column) = set.count && is_free (length types) keys column
is_allowed set types keys (CountDistinct column) = set.count_distinct && is_free (length types) keys column
is_allowed set types keys (Sum column) = set.sum && (is_free (length types) keys column && same_type (type_at types column) kind.Int)
is_allowed set types keys (Min column) = set.min && is_free (length types) keys column
is_allowed set types keys (Max column) = set.max && is_free (length types) keys column

-- whether each node of a tree is one that the grammar has, with its predicate still open
abbrev pub is_formed : TaskParts → Tree → Bool
is_formed task (t.base table) = nat_lt table (length task.inputs)
is_formed task (t.filter child p) = is_formed task child && (takes_filter child && is_open p)
is_formed task (t.pair kind a b p) = (is_formed task a && is_formed task b) && (may_pair task kind (a, b) && is_open p)
is_formed task (t.group child keys agg) =
    is_formed task child && (are_keys (length (columns task.inputs child)) keys && is_allowed task.aggregates (columns task.inputs child) keys agg)
is_formed task (t.unite kind a b) = (is_formed task a && is_formed task b) && may_unite task (a, b)

-- whether a tree is a skeleton of a task: the grammar has it, and it has no more operators than the task allows
abbrev pub is_skeleton : TaskParts → Tree → Bool
is_skeleton task tree = is_formed task tree && nat_le (operators tree) task.ops

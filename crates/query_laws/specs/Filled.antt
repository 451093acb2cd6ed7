-- The law of standard fillings: those of a skeleton are those of its parts, put together.
use Rattle.std.specs.Prelude.{◌≡◌, ℕ, List, [], ◌∷◌, flat_map}
use Rattle.predicate_core.specs.declared.pred.Pred.{Pred}
use Rattle.table_core.specs.declared.task.TaskParts.{TaskParts}
use Rattle.query_core.specs.Tree.{Tree}
use Rattle.query_core.specs.Tree as t
use Rattle.query_core.specs.Filled.{Filled, standard_fillings, filled_base, filled_filters, filled_pairs, filled_groups, filled_union}
use Rattle.query_core.specs.declared.agg.Agg.{Agg}
use Rattle.query_core.specs.declared.kinds.Pairing.{Pairing}
use Rattle.query_core.specs.declared.kinds.Uniting.{Uniting}

-- the union of two filled parts, as the one of its list
abbrev pub unions_on : Uniting → Filled → Filled → List Filled
unions_on kind a b = filled_union kind a b ∷ []

-- what a function gives of each filled part of one list with each of another
abbrev pub of_each_filled : (Filled → Filled → List Filled) → List Filled → List Filled → List Filled
of_each_filled f lefts rights = flat_map (λ a. flat_map (f a) rights) lefts

-- the standard fillings of an input: itself
abbrev pub BaseFilled : TaskParts → Type 0
BaseFilled task = (table : ℕ) → standard_fillings task (t.base table) ≡ filled_base task table ∷ []

-- those of a filter: the standard filters over each filling of its child
abbrev pub FilterFilled : TaskParts → Type 0
FilterFilled task = (child : Tree) (p : Pred) → standard_fillings task (t.filter child p) ≡ flat_map (filled_filters task) (standard_fillings task child)

-- those of a pair: the standard pairs of each filling of its left part with each of its right part
abbrev pub PairFilled : TaskParts → Type 0
PairFilled task =
    (kind : Pairing) (a b : Tree) (p : Pred)
    → standard_fillings task (t.pair kind a b p) ≡ of_each_filled (filled_pairs task kind) (standard_fillings task a) (standard_fillings task b)

-- those of a group: the group over each filling of its child, where its sums have values
abbrev pub GroupFilled : TaskParts → Type 0
GroupFilled task = (child : Tree) (keys : List ℕ) (agg : Agg) → standard_fillings task (t.group child keys agg) ≡ flat_map (filled_groups keys agg) (standard_fillings task child)

-- those of a union: the union of each filling of its left part with each of its right part
abbrev pub UnionFilled : TaskParts → Type 0
UnionFilled task = (kind : Uniting) (a b : Tree) → standard_fillings task (t.unite kind a b) ≡ of_each_filled (unions_on kind) (standard_fillings task a) (standard_fillings task b)

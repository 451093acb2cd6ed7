-- The rank of queries: the key, compared part by part, smaller first.
use Rattle.std.specs.Prelude.{ℕ, ◌+◌, Bool, true, false, not, List, [], ◌∷◌, ◌++◌, length, count_by}
use Rattle.std.specs.declared.cmp.Ordering.{Ordering}
use Rattle.std.specs.Ordering.{nat_cmp, ordering_then, is_lt}
use Rattle.std.specs.Cmp.Lexicographic.{slice_cmp}
use Rattle.std.specs.List.{range_with_len, list_any, position_or_len}
use Rattle.predicate_core.specs.Equal.{same_pred, atoms_of, uses_constant}
use Rattle.predicate_core.specs.declared.pred.Pred.{Pred}
use Rattle.predicate_core.specs.declared.atom.Atom.{Atom}
use Rattle.table_core.specs.declared.task.TaskParts.{TaskParts}
use Rattle.value_core.specs.declared.value.ColType.{ColType}
use Rattle.query_core.specs.Tree.{Tree, Select}
use Rattle.query_core.specs.Tree as t
use Rattle.query_core.specs.Meaning.{columns, hole_types}
use Rattle.query_core.specs.Grammar.{predicates}
use Rattle.query_core.specs.declared.kinds.Pairing.{Pairing}
use Rattle.query_core.specs.declared.kinds.Pairing.TheVariants.{Join, Left}

-- the atoms of a tree, from the left part to the right part to the node
abbrev pub tree_atoms : Tree → List Atom
tree_atoms (t.base table) = []
tree_atoms (t.filter child p) = tree_atoms child ++ atoms_of p
tree_atoms (t.pair kind a b p) = (tree_atoms a ++ tree_atoms b) ++ atoms_of p
tree_atoms (t.group child keys agg) = tree_atoms child
tree_atoms (t.unite kind a b) = tree_atoms a ++ tree_atoms b

-- how many of the task's constants stand in no atom
abbrev pub unused_constants : TaskParts → Tree → ℕ
unused_constants task body = count_by (λ k. not (list_any (uses_constant k) (tree_atoms body))) (range_with_len 0 (length task.constants))

-- the cost of a pair by itself
abbrev pub pair_cost : Pairing → ℕ
pair_cost Join = 2
pair_cost Left = 3

-- the cost of a tree: each kind of node has its own, and each atom costs 1
abbrev pub tree_cost : Tree → ℕ
tree_cost (t.base table) = 1
tree_cost (t.filter child p) = tree_cost child + (1 + length (atoms_of p))
tree_cost (t.pair kind a b p) = (tree_cost a + tree_cost b) + (pair_cost kind + length (atoms_of p))
tree_cost (t.group child keys agg) = tree_cost child + 3
tree_cost (t.unite kind a b) = (tree_cost a + tree_cost b) + 3

-- the number of a predicate: its place in the list of its hole, the list's length where it isn't there
abbrev pub pred_number : TaskParts → List ColType → Pred → ℕ
pred_number task types p = position_or_len (same_pred p) (predicates task types)

-- the numbers of a tree's predicates, from the left part to the right part to the node
abbrev pub pred_numbers : TaskParts → Tree → List ℕ
pred_numbers task (t.base table) = []
pred_numbers task (t.filter child p) = pred_numbers task child ++ pred_number task (columns task.inputs child) p ∷ []
pred_numbers task (t.pair kind a b p) = (pred_numbers task a ++ pred_numbers task b) ++ pred_number task (hole_types task.inputs a b) p ∷ []
pred_numbers task (t.group child keys agg) = pred_numbers task child
pred_numbers task (t.unite kind a b) = pred_numbers task a ++ pred_numbers task b

-- what queries are ranked by
pub record Key : Type 0 where
  pub unused : ℕ
  pub cost : ℕ
  pub skeleton : ℕ
  pub numbers : List ℕ
  pub picks : List ℕ
  pub distinct : Bool

-- the cost of removing duplicates
abbrev pub distinct_cost : Bool → ℕ
distinct_cost false = 0
distinct_cost true = 1

-- the key of a query whose skeleton has this number
abbrev pub key : TaskParts → ℕ → Select → Key
key task skeleton q = record {
  unused = unused_constants task q.body;
  cost = tree_cost q.body + distinct_cost q.distinct;
  skeleton = skeleton;
  numbers = pred_numbers task q.body;
  picks = q.picks;
  distinct = q.distinct;
}

-- the order of two keys, part by part; not distinct comes before distinct
abbrev pub key_order : Key → Key → Ordering
key_order a b =
    ordering_then (nat_cmp a.unused b.unused) (
    ordering_then (nat_cmp a.cost b.cost) (
    ordering_then (nat_cmp a.skeleton b.skeleton) (
    ordering_then (slice_cmp nat_cmp a.numbers b.numbers) (
    ordering_then (slice_cmp nat_cmp a.picks b.picks) (
    nat_cmp (distinct_cost a.distinct) (distinct_cost b.distinct))))))

-- whether a key comes strictly before another
abbrev pub before : Key → Key → Bool
before a b = is_lt (key_order a b)

-- How large a tree is by its leaves and its operators.
use Rattle.std.proofs.Common.{◌≡◌, ℕ, ◌+◌, ◌*◌, ◌≤◌, true, List, [], ◌∷◌, map, length, None, arith}
use Rattle.std.proofs.lemmas.Bool.{false≢true, and_parts}
use Rattle.std.proofs.lemmas.List.{length-append, length-map}
use Rattle.predicate_core.specs.Equal.{atoms_of}
use Rattle.predicate_core.specs.declared.pred.Pred.{Pred}
use Rattle.predicate_core.specs.declared.pred.Pred.TheVariants.{Always, One, And2, Or2, And3, Or3}
use Rattle.table_core.specs.Limits.{first_bad_part}
use Rattle.table_core.specs.declared.task.TaskParts.{TaskParts}
use Rattle.query_core.specs.Tree.{Tree}
use Rattle.query_core.specs.Tree as t
use Rattle.query_core.specs.Meaning.{columns, input_at, agg_type, type_at}
use Rattle.query_core.specs.Grammar.{leaves}
use Rattle.query_core.specs.Skeleton.{operators}
use Rattle.query_core.specs.Membership.{each_node, are_few_ascending, keys_ascend}
use Rattle.query_core.specs.Rank.{tree_cost, pred_numbers}
use Rattle.query_core.specs.declared.kinds.Pairing.{Pairing}
use Rattle.query_core.specs.declared.kinds.Pairing.TheVariants.{Join, Left}
use Rattle.query_laws.proofs.SkeletonLaws.{three_parts}
use Rattle.rank_core.proofs.LimitLaws.{limited}

-- a predicate has at most three atoms
few_atoms : (p : Pred) → length (atoms_of p) ≤ 3
few_atoms Always = omega arith
few_atoms (One a) = omega arith
few_atoms (And2 a b) = omega arith
few_atoms (Or2 a b) = omega arith
few_atoms (And3 a b c) = omega arith
few_atoms (Or3 a b c) = omega arith

-- an operator costs at most seven with the leaf that it adds
pub costs_by_operators : (tree : Tree) → tree_cost tree ≤ 7 * operators tree + 1
costs_by_operators (t.base table) = omega arith
costs_by_operators (t.filter child p) = omega (arith, costs_by_operators child, few_atoms p)
costs_by_operators (t.pair Join a b p) = omega (arith, costs_by_operators a, costs_by_operators b, few_atoms p)
costs_by_operators (t.pair Left a b p) = omega (arith, costs_by_operators a, costs_by_operators b, few_atoms p)
costs_by_operators (t.group child keys agg) = omega (arith, costs_by_operators child)
costs_by_operators (t.unite kind a b) = omega (arith, costs_by_operators a, costs_by_operators b)

-- each predicate is an operator's
pub numbers_by_operators : (task : TaskParts) (tree : Tree) → length (pred_numbers task tree) ≤ operators tree
numbers_by_operators task (t.base table) = omega arith
numbers_by_operators task (t.filter child p) = omega (arith, length-append {A = ℕ}, numbers_by_operators task child)
numbers_by_operators task (t.pair kind a b p) = omega (arith, length-append {A = ℕ}, numbers_by_operators task a, numbers_by_operators task b)
numbers_by_operators task (t.group child keys agg) = omega (arith, numbers_by_operators task child)
numbers_by_operators task (t.unite kind a b) = omega (arith, length-append {A = ℕ}, numbers_by_operators task a, numbers_by_operators task b)

some_leaves : (tree : Tree) → 1 ≤ length (leaves tree)
some_leaves (t.base table) = omega arith
some_leaves (t.filter child p) = some_leaves child
some_leaves (t.pair kind a b p) = omega (arith, length-append (leaves a) (leaves b), some_leaves a)
some_leaves (t.group child keys agg) = some_leaves child
some_leaves (t.unite kind a b) = omega (arith, length-append (leaves a) (leaves b), some_leaves a)

-- keys that ascend are at most two
pub few_keys : (keys : List ℕ) → are_few_ascending keys ≡ true → length keys ≤ 2
few_keys [] e = omega arith
few_keys (i ∷ []) e = omega arith
few_keys (i ∷ j ∷ []) e = omega arith
few_keys (i ∷ j ∷ k ∷ more) e = absurd (false≢true e)

-- a tree has at most six columns for each leaf
module _ (task : TaskParts) (within : first_bad_part task ≡ None) where
  width_by_leaves : (tree : Tree) → each_node keys_ascend tree ≡ true → length (columns task.inputs tree) ≤ 6 * length (leaves tree)
  width_by_leaves (t.base table) e = omega (arith, length-map (input_at task.inputs table).columns (λ c. c.kind), (limited task within).inputs table)
  width_by_leaves (t.filter child p) e = width_by_leaves child (and_parts (each_node keys_ascend child) true e).0
  width_by_leaves (t.pair kind a b p) e =
      let h = three_parts (each_node keys_ascend a) (each_node keys_ascend b) true e in
      omega (arith, length-append (leaves a) (leaves b), length-append (columns task.inputs a) (columns task.inputs b), width_by_leaves a h.0, width_by_leaves b h.1)
  width_by_leaves (t.group child keys agg) e =
      let h = and_parts (each_node keys_ascend child) (are_few_ascending keys) e in
      let types = columns task.inputs child in
      omega (arith, length-append (map (type_at types) keys) (agg_type types agg ∷ []), length-map keys (type_at types), few_keys keys h.1, some_leaves child)
  width_by_leaves (t.unite kind a b) e =
      let h = three_parts (each_node keys_ascend a) (each_node keys_ascend b) true e in
      omega (arith, length-append (leaves a) (leaves b), width_by_leaves a h.0)

  -- two parts that have at most three leaves have together at most eighteen columns
  pub parts_fit : (tree a b : Tree) (kind : Pairing) (p : Pred) → tree ≡ t.pair kind a b p → length (leaves tree) ≤ 3 → each_node keys_ascend tree ≡ true
      → length (columns task.inputs a) + length (columns task.inputs b) ≤ 18
  parts_fit tree a b kind p is few keys =
      let h = three_parts (each_node keys_ascend a) (each_node keys_ascend b) true (rw is at keys) in
      let sum = length-append (leaves a) (leaves b) in
      omega (arith, rw is at few, sum, width_by_leaves a h.0, width_by_leaves b h.1)

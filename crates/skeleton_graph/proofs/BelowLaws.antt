-- The nodes above a node are those whose tree has its tree as a proper part.
use Rattle.std.proofs.Common.{◌≡◌, refl, sym, ap, ap₂, ◌∙◌, subst, ℕ, zero, suc, ◌<◌, Bool, true, false, ◌==◌, ◌||◌, inl, inr, List, [], length, get_or, Option, Some, None, Decides, arith}
use Rattle.std.specs.Prelude.{slice_get, is_some}
use Rattle.std.proofs.Math.Bool.{or-false}
use Rattle.std.proofs.lemmas.Bool.{false≢true, or_cases, or_right, eqb-true, eq-eqb}
use Rattle.std.proofs.lemmas.Option.{slice_get_cases, slice_get-get_or, unwrap_or-slice_get}
use Rattle.value_core.specs.declared.value.ColType.{ColType}
use Rattle.predicate_core.specs.Laws.{EachOnce}
use Rattle.table_core.specs.declared.task.TaskParts.{TaskParts}
use Rattle.query_core.specs.Tree.{Tree}
use Rattle.query_core.specs.Tree as t
use Rattle.query_core.specs.Grammar.{skeletons}
use Rattle.query_core.specs.Skeleton.{operators}
use Rattle.query_laws.proofs.SkeletonOnceLaws.{skeletons_once}
use Rattle.skeleton_graph.specs.declared.node.Kind.{Kind}
use Rattle.skeleton_graph.specs.declared.node.Kind.TheVariants as kind
use Rattle.skeleton_graph.specs.declared.node.SkelNode.{SkelNode}
use Rattle.skeleton_graph.specs.Nodes.{tree_at, child_tree, kind_tree, trees_of, is_marked, marks_after, above_of, is_among}
use Rattle.skeleton_graph.specs.GraphData.{HasItsChildren, IsGraph}
use Rattle.skeleton_graph.specs.Below.{same_tree, has_below}
use Rattle.skeleton_graph.proofs.AboveLaws.{falls_of, up, up_made, above_up, up_above, among_in, in_among, same_tests}
use Rattle.skeleton_graph.proofs.BoundLaws.{Below}
use Rattle.skeleton_graph.proofs.SameLaws.{same_tree_decides, below_less}
use Rattle.skeleton_graph.proofs.TreeLaws.{side_below, trees_size, tree_made}

-- whether a tree is another or has it as a proper part
abbrev has_at : Tree → Tree → Bool
has_at whole part = same_tree whole part || has_below whole part

-- the same of the tree of a child
abbrev child_has : List Tree → Option ℕ → Tree → Bool
child_has trees None part = false
child_has trees (Some child) part = has_at (tree_at trees child) part

child_is : (trees : List Tree) (child : Option ℕ) (part : Tree) → is_some child ≡ true → has_at (child_tree trees child) part ≡ child_has trees child part
child_is trees None part there = absurd (false≢true there)
child_is trees (Some child) part there = refl

one_child : (trees : List Tree) (left right : Option ℕ) (part : Tree) → (is_some left ≡ true) × (right ≡ None) → has_at (child_tree trees left) part ≡ (child_has trees left part || child_has trees right part)
one_child trees left right part has = child_is trees left part has.0 ∙ sym (or-false (child_has trees left part)) ∙ ap (λ o. child_has trees left part || child_has trees o part) (sym has.1)

two_children : (trees : List Tree) (left right : Option ℕ) (part : Tree) → (is_some left ≡ true) × (is_some right ≡ true)
    → (has_at (child_tree trees left) part || has_at (child_tree trees right) part) ≡ (child_has trees left part || child_has trees right part)
two_children trees left right part has = ap₂ (λ a b. a || b) (child_is trees left part has.0) (child_is trees right part has.1)

-- a proper part of the tree of a node is the tree of a child, or a proper part of it
made_has : (trees : List Tree) (kind : Kind) (left right : Option ℕ) (part : Tree) → HasItsChildren kind left right
    → has_below (kind_tree kind (child_tree trees left) (child_tree trees right)) part ≡ (child_has trees left part || child_has trees right part)
made_has trees (kind.Base table) left right part has = sym (ap₂ (λ a b. child_has trees a part || child_has trees b part) has.0 has.1)
made_has trees kind.Filter left right part has = one_child trees left right part has
made_has trees kind.Join left right part has = two_children trees left right part has
made_has trees kind.Left left right part has = two_children trees left right part has
made_has trees (kind.Group keys agg) left right part has = one_child trees left right part has
made_has trees kind.UnionAll left right part has = two_children trees left right part has
made_has trees kind.Union left right part has = two_children trees left right part has

-- a tree that stands once is at one number
same_place : (trees : List Tree) → EachOnce trees → (j k : ℕ) → j < length trees → k < length trees → (j == k) ≡ same_tree (tree_at trees j) (tree_at trees k)
same_place trees once j k low_j low_k =
    same_tests (j == k) (same_tree (tree_at trees j) (tree_at trees k))
    (λ e. decided.1 (ap (tree_at trees) (eqb-true j k e)))
    (λ e. eq-eqb j k (once j k (tree_at trees k) (there j low_j ∙ ap Some (decided.0 e)) (there k low_k)))
  where
    decided : Decides (same_tree (tree_at trees j) (tree_at trees k)) (tree_at trees j ≡ tree_at trees k)
    decided = same_tree_decides (tree_at trees j) (tree_at trees k)

    there : (i : ℕ) → i < length trees → slice_get trees i ≡ Some (tree_at trees i)
    there i below = slice_get-get_or trees i (t.base 0) below ∙ ap Some (sym (unwrap_or-slice_get trees i (t.base 0)))

-- a child is marked exactly where its tree is the other or has it as a proper part, where that holds of each number before
marked_has : (trees : List Tree) (marks : List Bool) (part : Tree) (j : ℕ) (child : Option ℕ) → Below j child → ((c : ℕ) → c < j → get_or marks c false ≡ has_at (tree_at trees c) part) → is_marked marks child ≡ child_has trees child part
marked_has trees marks part j None below before = refl
marked_has trees marks part j (Some c) below before = unwrap_or-slice_get marks c false ∙ before c below

-- the mark of a node that is there, where that holds of each number before
up_at : (nodes : List SkelNode) (types : List (List ColType)) → IsGraph nodes types → EachOnce (trees_of nodes) → (k j : ℕ) (node : SkelNode) → k < length nodes → j < length nodes → slice_get nodes j ≡ Some node
    → ((c : ℕ) → c < j → up nodes k c ≡ has_at (tree_at (trees_of nodes) c) (tree_at (trees_of nodes) k))
    → up nodes k j ≡ has_at (tree_at (trees_of nodes) j) (tree_at (trees_of nodes) k)
up_at nodes types graph once k j node low_k low_j found before =
    let trees = trees_of nodes in
    let part = tree_at trees k in
    let marks = marks_after k [] nodes in
    let size = trees_size nodes in
    let here = same_place trees once j k (omega (arith, size, low_j)) (omega (arith, size, low_k)) in
    let left = marked_has trees marks part j node.left (side_below (λ n. n.left) nodes j node graph.lefts found) before in
    let right = marked_has trees marks part j node.right (side_below (λ n. n.right) nodes j node graph.rights found) before in
    let made = made_has trees node.kind node.left node.right part (graph.shaped j node found) in
    let whole = tree_made nodes j node graph.lefts graph.rights found in
    up_made nodes k j node (falls_of nodes types graph) found
    ∙ ap₂ (λ a b. a || b) here (ap₂ (λ a b. a || b) left right ∙ sym made ∙ ap (λ x. has_below x part) (sym whole))

-- the marks that go up from a node reach those whose tree is its tree or has it as a proper part
up_has : (fuel : ℕ) (nodes : List SkelNode) (types : List (List ColType)) → IsGraph nodes types → EachOnce (trees_of nodes) → (k j : ℕ) → k < length nodes → j < length nodes → j < fuel
    → up nodes k j ≡ has_at (tree_at (trees_of nodes) j) (tree_at (trees_of nodes) k)
up_has zero nodes types graph once k j low_k low_j within = absurd (let no : ⊥ = omega (arith, within) in no)
up_has (suc fuel) nodes types graph once k j low_k low_j within =
    elim (slice_get_cases nodes j).1 [
      | inl w ↦ up_at nodes types graph once k j w.0 low_k low_j w.2 (λ c less. up_has fuel nodes types graph once k c low_k (omega (arith, less, low_j)) (omega (arith, less, within)))
      | inr w ↦ absurd (let no : ⊥ = omega (arith, w.0, low_j) in no)
    ]

-- the nodes above a node of a graph whose trees stand once
among_has : (nodes : List SkelNode) (types : List (List ColType)) → IsGraph nodes types → EachOnce (trees_of nodes) → (k j : ℕ) → k < length nodes → j < length nodes
    → is_among (above_of nodes k) j ≡ has_below (tree_at (trees_of nodes) j) (tree_at (trees_of nodes) k)
among_has nodes types graph once k j low_k low_j = same_tests (is_among (above_of nodes k) j) (has_below whole part) there back
  where
    whole : Tree
    whole = tree_at (trees_of nodes) j

    part : Tree
    part = tree_at (trees_of nodes) k

    reach : up nodes k j ≡ has_at whole part
    reach = up_has (suc j) nodes types graph once k j low_k low_j (omega arith)

    place : (j == k) ≡ same_tree whole part
    place = let size = trees_size nodes in same_place (trees_of nodes) once j k (omega (arith, size, low_j)) (omega (arith, size, low_k))

    there : is_among (above_of nodes k) j ≡ true → has_below whole part ≡ true
    there is =
        let h = above_up nodes k j (among_in (above_of nodes k) j is) in
        elim (or_cases (same_tree whole part) (has_below whole part) (sym reach ∙ h.0)) [
          | inl e ↦ absurd (h.1 (eqb-true j k (place ∙ e)))
          | inr e ↦ e
        ]

    not_itself : has_below whole part ≡ true → j ≡ k → ⊥
    not_itself is same =
        let less = below_less whole part is in
        let size = ap (λ i. operators (tree_at (trees_of nodes) i)) same in
        omega (arith, less, size)

    back : has_below whole part ≡ true → is_among (above_of nodes k) j ≡ true
    back is = in_among (above_of nodes k) j (up_above nodes k j (reach ∙ or_right (same_tree whole part) (has_below whole part) is) (not_itself is))

-- the nodes above a node of a task's graph
pub above_below : (task : TaskParts) (nodes : List SkelNode) (types : List (List ColType)) → trees_of nodes ≡ skeletons task → IsGraph nodes types → (k j : ℕ) → k < length nodes → j < length nodes
    → is_among (above_of nodes k) j ≡ has_below (tree_at (trees_of nodes) j) (tree_at (trees_of nodes) k)
above_below task nodes types trees graph = among_has nodes types graph (subst EachOnce (sym trees) (skeletons_once task))

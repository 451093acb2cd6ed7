-- The nodes above a node are those that the marks that go up from it reach.
use Rattle.std.proofs.Common.{◌≡◌, ◌≢◌, refl, sym, ap, ap₂, ◌∙◌, subst, ℕ, zero, suc, ◌+◌, ◌<◌, Bool, true, false, ◌==◌, ◌||◌, inl, inr, List, [], ◌∷◌, ◌++◌, length, get_or, Option, Some, None, arith, if◌then◌else◌}
use Rattle.std.specs.Prelude.{not, ◌&&◌, slice_get}
use Rattle.std.specs.List.{list_any}
use Rattle.std.proofs.lemmas.Bool.{false≢true, not_from_false, and_from, and_parts, or_cases, or_left, or_right, eqb-true, eq-eqb, ne_eqb}
use Rattle.std.proofs.lemmas.Option.{unwrap_or-slice_get}
use Rattle.std.proofs.lemmas.List.{get_or_append_left, get_or_at, length_push}
use Rattle.value_core.specs.declared.value.ColType.{ColType}
use Rattle.predicate_core.proofs.OnceLists.{In, in_same, in_append}
use Rattle.query_laws.proofs.MemberLaws.{in_front, in_back}
use Rattle.skeleton_graph.specs.declared.node.SkelNode.{SkelNode}
use Rattle.skeleton_graph.specs.Nodes.{left_of, right_of, is_marked, marks_after, marked_but, above_of, is_among}
use Rattle.skeleton_graph.specs.GraphData.{Descends, IsGraph}
use Rattle.skeleton_graph.proofs.BoundLaws.{Below}
use Rattle.skeleton_graph.proofs.TreeLaws.{side_below}

-- whether the children of each node have lower numbers
pub record Falls (nodes : List SkelNode) : Type 0 where
  pub lefts : Descends (left_of nodes)
  pub rights : Descends (right_of nodes)

pub falls_of : (nodes : List SkelNode) (types : List (List ColType)) → IsGraph nodes types → Falls nodes
falls_of nodes types graph = record { lefts = graph.lefts; rights = graph.rights }

-- a list has an element that passes a test exactly where the test finds one
pub any_in : {X : Type 0} (p : X → Bool) (xs : List X) → list_any p xs ≡ true → (x : X) × In x xs × (p x ≡ true)
any_in p [] is = absurd (false≢true is)
any_in p (x ∷ xs) is =
    elim (or_cases (p x) (list_any p xs) is) [
      | inl e ↦ (x, inl refl, e)
      | inr e ↦ let h = any_in p xs e in (h.0, inr h.1, h.2)
    ]

pub in_any : {X : Type 0} (p : X → Bool) (xs : List X) (x : X) → In x xs → p x ≡ true → list_any p xs ≡ true
in_any p [] x i is = absurd i
in_any p (y ∷ ys) x (inl e) is = or_left (p y) (list_any p ys) (ap p (sym e) ∙ is)
in_any p (y ∷ ys) x (inr i) is = or_right (p y) (list_any p ys) (in_any p ys x i is)

pub among_in : (numbers : List ℕ) (n : ℕ) → is_among numbers n ≡ true → In n numbers
among_in numbers n is = let h = any_in (λ m. m == n) numbers is in in_same n h.0 numbers (sym (eqb-true h.0 n h.2)) h.1

pub in_among : (numbers : List ℕ) (n : ℕ) → In n numbers → is_among numbers n ≡ true
in_among numbers n i = in_any (λ m. m == n) numbers n i (eq-eqb n n refl)

-- two tests that pass together are the same
pub same_tests : (a b : Bool) → (a ≡ true → b ≡ true) → (b ≡ true → a ≡ true) → a ≡ b
same_tests true b there back = sym (there refl)
same_tests false true there back = back refl
same_tests false false there back = refl

-- later marks leave the earlier ones as they are
earlier : (k : ℕ) (marks : List Bool) (nodes : List SkelNode) (i : ℕ) → i < length marks → get_or (marks_after k marks nodes) i false ≡ get_or marks i false
earlier k marks [] i below = refl
earlier k marks (node ∷ nodes) i below =
    let mark : Bool = length marks == k || (is_marked marks node.left || is_marked marks node.right) in
    let one : length (marks ++ mark ∷ []) ≡ length marks + 1 = length_push marks mark in
    earlier k (marks ++ mark ∷ []) nodes i (omega (arith, one, below)) ∙ get_or_append_left marks (mark ∷ []) false i below

pub size_after : (k : ℕ) (marks : List Bool) (nodes : List SkelNode) → length (marks_after k marks nodes) ≡ length marks + length nodes
size_after k marks [] = omega arith
size_after k marks (node ∷ nodes) =
    let mark : Bool = length marks == k || (is_marked marks node.left || is_marked marks node.right) in
    let one : length (marks ++ mark ∷ []) ≡ length marks + 1 = length_push marks mark in
    let rest = size_after k (marks ++ mark ∷ []) nodes in
    omega (arith, one, rest)

child_earlier : (k : ℕ) (marks : List Bool) (nodes : List SkelNode) (child : Option ℕ) → Below (length marks) child → is_marked (marks_after k marks nodes) child ≡ is_marked marks child
child_earlier k marks nodes None below = refl
child_earlier k marks nodes (Some c) below = unwrap_or-slice_get (marks_after k marks nodes) c false ∙ earlier k marks nodes c below ∙ sym (unwrap_or-slice_get marks c false)

-- the mark of a node, by its children's
mark_made : (k : ℕ) (marks : List Bool) (nodes : List SkelNode) (i : ℕ) (node : SkelNode) → slice_get nodes i ≡ Some node → Below (length marks + i) node.left → Below (length marks + i) node.right
    → get_or (marks_after k marks nodes) (length marks + i) false
    ≡ (length marks + i == k || (is_marked (marks_after k marks nodes) node.left || is_marked (marks_after k marks nodes) node.right))
mark_made k marks [] i node is a b = let same : ◌≡◌ {A = Option SkelNode} None (Some node) = is in cc
mark_made k marks (n ∷ nodes) zero node is a b =
    let same : ◌≡◌ {A = Option SkelNode} (Some n) (Some node) = is in
    let e : n ≡ node = cc in
    let mark : SkelNode → Bool = λ x. length marks == k || (is_marked marks x.left || is_marked marks x.right) in
    let all = marks_after k marks (n ∷ nodes) in
    let one : length (marks ++ mark n ∷ []) ≡ length marks + 1 = length_push marks (mark n) in
    let here : length marks + 0 ≡ length marks = omega arith in
    let LeftBelow : ℕ → Type 0 = λ p. Below p node.left in
    let RightBelow : ℕ → Type 0 = λ p. Below p node.right in
    let lefts = child_earlier k marks (n ∷ nodes) node.left (subst LeftBelow here a) in
    let rights = child_earlier k marks (n ∷ nodes) node.right (subst RightBelow here b) in
    let Made : ℕ → Type 0 = λ p. get_or all p false ≡ (p == k || (is_marked all node.left || is_marked all node.right)) in
    subst Made (sym here) (
    earlier k (marks ++ mark n ∷ []) nodes (length marks) (omega (arith, one))
    ∙ get_or_at marks (mark n) [] false (length marks) refl
    ∙ ap mark e
    ∙ sym (ap₂ (λ p q. length marks == k || (p || q)) lefts rights)
    )
mark_made k marks (n ∷ nodes) (suc i) node is a b =
    let mark : Bool = length marks == k || (is_marked marks n.left || is_marked marks n.right) in
    let all = marks_after k (marks ++ mark ∷ []) nodes in
    let one : length (marks ++ mark ∷ []) ≡ length marks + 1 = length_push marks mark in
    let place : length (marks ++ mark ∷ []) + i ≡ length marks + suc i = omega (arith, one) in
    let LeftBelow : ℕ → Type 0 = λ p. Below p node.left in
    let RightBelow : ℕ → Type 0 = λ p. Below p node.right in
    let Made : ℕ → Type 0 = λ p. get_or all p false ≡ (p == k || (is_marked all node.left || is_marked all node.right)) in
    subst Made place (mark_made k (marks ++ mark ∷ []) nodes i node is (subst LeftBelow (sym place) a) (subst RightBelow (sym place) b))

-- whether the marks that go up from a node reach another
abbrev pub up : List SkelNode → ℕ → ℕ → Bool
up nodes k j = get_or (marks_after k [] nodes) j false

pub up_made : (nodes : List SkelNode) (k j : ℕ) (node : SkelNode) → Falls nodes → slice_get nodes j ≡ Some node
    → up nodes k j ≡ (j == k || (is_marked (marks_after k [] nodes) node.left || is_marked (marks_after k [] nodes) node.right))
up_made nodes k j node falls found =
    let place : 0 + j ≡ j = omega arith in
    let all = marks_after k [] nodes in
    let LeftBelow : ℕ → Type 0 = λ p. Below p node.left in
    let RightBelow : ℕ → Type 0 = λ p. Below p node.right in
    let Made : ℕ → Type 0 = λ p. get_or all p false ≡ (p == k || (is_marked all node.left || is_marked all node.right)) in
    subst Made place (
    mark_made k [] nodes j node found
    (subst LeftBelow (sym place) (side_below (λ n. n.left) nodes j node falls.lefts found))
    (subst RightBelow (sym place) (side_below (λ n. n.right) nodes j node falls.rights found))
    )

-- the numbers of the marks that are set but one's own
past_marked : (b : Bool) (number k : ℕ) (r : ℕ) → In r (if b && not (number == k) then number ∷ [] else []) → (r ≡ number) × (b ≡ true) × (number ≢ k)
past_marked b number k r i = of (b && not (number == k)) refl i
  where
    of : (kept : Bool) → (b && not (number == k)) ≡ kept → In r (if kept then number ∷ [] else []) → (r ≡ number) × (b ≡ true) × (number ≢ k)
    of true is (inl e) =
        let parts = and_parts b (not (number == k)) is in
        (e, parts.0, λ same. false≢true (sym (ap not (eq-eqb number k same)) ∙ parts.1))
    of true is (inr gone) = absurd gone
    of false is gone = absurd gone

marked_in : (k number : ℕ) (marks : List Bool) (r : ℕ) → In r (marked_but k number marks) → (i : ℕ) × (r ≡ number + i) × (get_or marks i false ≡ true) × (r ≢ k)
marked_in k number [] r i = absurd i
marked_in k number (mark ∷ marks) r i =
    elim (in_append r (if mark && not (number == k) then number ∷ [] else []) (marked_but k (number + 1) marks) i) [
      | inl first ↦ let h = past_marked mark number k r first in (0, omega (arith, h.0), h.1, λ same. h.2 (sym h.0 ∙ same))
      | inr later ↦ let h = marked_in k (number + 1) marks r later in (suc h.0, omega (arith, h.1), h.2, h.3)
    ]

one_in : (b : Bool) (number : ℕ) → b ≡ true → In number (if b then number ∷ [] else [])
one_in true number is = inl refl
one_in false number is = absurd (false≢true is)

in_marked : (k number : ℕ) (marks : List Bool) (i : ℕ) → get_or marks i false ≡ true → number + i ≢ k → In (number + i) (marked_but k number marks)
in_marked k number [] i is apart = absurd (false≢true is)
in_marked k number (mark ∷ marks) zero is apart =
    let here : number + 0 ≡ number = omega arith in
    let kept : (mark && not (number == k)) ≡ true = and_from mark (not (number == k)) is (not_from_false (number == k) (ne_eqb number k (λ e. apart (here ∙ e)))) in
    in_front (number + 0) (if mark && not (number == k) then number ∷ [] else []) (marked_but k (number + 1) marks) (in_same (number + 0) number _ here (one_in (mark && not (number == k)) number kept))
in_marked k number (mark ∷ marks) (suc i) is apart =
    let place : number + suc i ≡ (number + 1) + i = omega arith in
    in_back (number + suc i) (if mark && not (number == k) then number ∷ [] else []) (marked_but k (number + 1) marks)
    (in_same (number + suc i) ((number + 1) + i) (marked_but k (number + 1) marks) place (in_marked k (number + 1) marks i is (λ e. apart (place ∙ e))))

-- a node is above another exactly where the marks reach it and it isn't the same
pub above_up : (nodes : List SkelNode) (k r : ℕ) → In r (above_of nodes k) → (up nodes k r ≡ true) × (r ≢ k)
above_up nodes k r i =
    let h = marked_in k 0 (marks_after k [] nodes) r i in
    let e : r ≡ h.0 = omega (arith, h.1) in
    (ap (up nodes k) e ∙ h.2, h.3)

pub up_above : (nodes : List SkelNode) (k r : ℕ) → up nodes k r ≡ true → r ≢ k → In r (above_of nodes k)
up_above nodes k r is apart =
    let e : r ≡ 0 + r = omega arith in
    in_same r (0 + r) (above_of nodes k) e (in_marked k 0 (marks_after k [] nodes) r is (λ same. apart (e ∙ same)))

-- Laws of plans: the marks that go down from the roots are those of the nodes from which marks go up to a root.
use Rattle.std.proofs.Common.{◌≡◌, ◌≢◌, refl, sym, ap, ◌∙◌, subst, ℕ, zero, suc, ◌+◌, ◌<◌, ◌≤◌, Bool, true, false, cond, ◌==◌, ◌||◌, ◌⊎◌, inl, inr, List, [], ◌∷◌, ◌++◌, length, get_or, set, replicate, map, Option, Some, None, arith, length-append, if◌then◌else◌}
use Rattle.std.specs.Prelude.{All, filter, slice_get, option_and_then}
use Rattle.std.specs.List.{range_with_len}
use Rattle.std.specs.List.Sorted.{IsStrictlyIncreasing}
use Rattle.std.proofs.lemmas.Bool.{false≢true, or_cases, or_left, or_right, cases_eq, eqb-true, eq-eqb}
use Rattle.std.proofs.lemmas.Option.{option_and_then_some, slice_get_cases, slice_get_within, unwrap_or-slice_get}
use Rattle.std.proofs.lemmas.List.{get_or_past, get_or-set_same, length-set, length-replicate, length-map}
use Rattle.std.proofs.lemmas.List.FromFn.{length-range_with_len}
use Rattle.predicate_core.proofs.OnceLists.{In}
use Rattle.query_laws.proofs.ListLaws.{contains_in, in_contains}
use Rattle.query_laws.proofs.MemberLaws.{in_filter, filter_in, range_in}
use Rattle.skeleton_graph.specs.declared.node.SkelNode.{SkelNode}
use Rattle.skeleton_graph.specs.Nodes.{left_of, right_of, is_among, is_marked, marks_after, above_of}
use Rattle.skeleton_graph.proofs.AboveLaws.{Falls, any_in, in_any, among_in, in_among, same_tests, size_after, up, up_made, above_up, up_above}
use Rattle.fill_core.specs.declared.job.Job.{Job}
use Rattle.fill_core.specs.declared.job.Job.TheVariants.{Inner, Root}
use Rattle.fill_core.specs.Plans.{is_inner, inner_of, jobs_of, IsChild, HasJob, ChildrenAreInner}
use Rattle.fill_core.specs.Marks.{with_mark, with_children, marked_under, marked_by, marked_down, marks_below, inner_jobs}

child_falls : (nodes : List SkelNode) (k child : ℕ) → Falls nodes → IsChild nodes k child → child < k
child_falls nodes k child falls (inl e) = falls.lefts k child e
child_falls nodes k child falls (inr e) = falls.rights k child e

-- the node that tells of a child
told_by : (side : SkelNode → Option ℕ) (nodes : List SkelNode) (k child : ℕ) → option_and_then side (slice_get nodes k) ≡ Some child
    → (node : SkelNode) × (slice_get nodes k ≡ Some node) × (side node ≡ Some child)
told_by side nodes k child is = option_and_then_some side (slice_get nodes k) child is (λ node found told. (node, found, told))

user_of : (nodes : List SkelNode) (k child : ℕ) → IsChild nodes k child
    → (node : SkelNode) × (slice_get nodes k ≡ Some node) × ((node.left ≡ Some child) ⊎ (node.right ≡ Some child))
user_of nodes k child (inl e) = let h = told_by (λ n. n.left) nodes k child e in (h.0, h.1, inl h.2)
user_of nodes k child (inr e) = let h = told_by (λ n. n.right) nodes k child e in (h.0, h.1, inr h.2)

user_within : (nodes : List SkelNode) (k child : ℕ) → IsChild nodes k child → k < length nodes
user_within nodes k child is = let h = user_of nodes k child is in slice_get_within nodes k h.0 h.1

-- what a node tells of, by its number
told_of : (side : SkelNode → Option ℕ) (nodes : List SkelNode) (k child : ℕ) (node : SkelNode) → slice_get nodes k ≡ Some node → side node ≡ Some child
    → option_and_then side (slice_get nodes k) ≡ Some child
told_of side nodes k child node found told = ap (option_and_then side) found ∙ told

-- a child's mark is set exactly where there is the child and its number's mark is set
marked_child : (marks : List Bool) (child : Option ℕ) → is_marked marks child ≡ true → (c : ℕ) × (child ≡ Some c) × (get_or marks c false ≡ true)
marked_child marks None is = absurd (false≢true is)
marked_child marks (Some c) is = (c, refl, sym (unwrap_or-slice_get marks c false) ∙ is)

child_marked : (marks : List Bool) (child : Option ℕ) (c : ℕ) → child ≡ Some c → get_or marks c false ≡ true → is_marked marks child ≡ true
child_marked marks child c told is = ap (is_marked marks) told ∙ unwrap_or-slice_get marks c false ∙ is

-- the marks reach the node that they begin at
own : (nodes : List SkelNode) (k : ℕ) → Falls nodes → k < length nodes → up nodes k k ≡ true
own nodes k falls below =
    elim (slice_get_cases nodes k).1 [
      | inl w ↦ up_made nodes k k w.0 falls w.2 ∙ or_left (k == k) _ (eq-eqb k k refl)
      | inr w ↦ absurd (let no : ⊥ = omega (arith, w.0, below) in no)
    ]

-- they reach a node from its child
over : (nodes : List SkelNode) (k j child : ℕ) → Falls nodes → IsChild nodes j child → up nodes k child ≡ true → up nodes k j ≡ true
over nodes k j child falls told is =
    let h = user_of nodes j child told in
    let all = marks_after k [] nodes in
    up_made nodes k j h.0 falls h.1
    ∙ or_right (j == k) (is_marked all h.0.left || is_marked all h.0.right)
    (elim h.2 [
      | inl e ↦ or_left (is_marked all h.0.left) (is_marked all h.0.right) (child_marked all h.0.left child e is)
      | inr e ↦ or_right (is_marked all h.0.left) (is_marked all h.0.right) (child_marked all h.0.right child e is)
    ])

-- they reach another node only from a child of it
under_at : (nodes : List SkelNode) (k j : ℕ) (node : SkelNode) → Falls nodes → slice_get nodes j ≡ Some node → up nodes k j ≡ true
    → (j ≡ k) ⊎ ((child : ℕ) × IsChild nodes j child × (up nodes k child ≡ true))
under_at nodes k j node falls found is =
    let all = marks_after k [] nodes in
    elim (or_cases (j == k) (is_marked all node.left || is_marked all node.right) (sym (up_made nodes k j node falls found) ∙ is)) [
      | inl e ↦ inl (eqb-true j k e)
      | inr e ↦ inr (elim (or_cases (is_marked all node.left) (is_marked all node.right) e) [
        | inl l ↦ let h = marked_child all node.left l in (h.0, inl (told_of (λ n. n.left) nodes j h.0 node found h.1), h.2)
        | inr r ↦ let h = marked_child all node.right r in (h.0, inr (told_of (λ n. n.right) nodes j h.0 node found h.1), h.2)
      ])
    ]

under : (nodes : List SkelNode) (k j : ℕ) → Falls nodes → up nodes k j ≡ true → (j ≡ k) ⊎ ((child : ℕ) × IsChild nodes j child × (up nodes k child ≡ true))
under nodes k j falls is =
    elim (slice_get_cases nodes j).1 [
      | inl w ↦ under_at nodes k j w.0 falls w.2 is
      | inr w ↦ absurd (false≢true (sym (get_or_past (marks_after k [] nodes) j false (let size = size_after k [] nodes in omega (arith, size, w.0))) ∙ is))
    ]

up_least : (fuel : ℕ) (nodes : List SkelNode) (k j : ℕ) → Falls nodes → j < fuel → up nodes k j ≡ true → k ≤ j
up_least zero nodes k j falls low is = absurd (let no : ⊥ = omega (arith, low) in no)
up_least (suc fuel) nodes k j falls low is =
    elim (under nodes k j falls is) [
      | inl e ↦ omega (arith, e)
      | inr h ↦
          let less = child_falls nodes j h.0 falls h.1 in
          let rest = up_least fuel nodes k h.0 falls (omega (arith, low, less)) h.2 in
          omega (arith, less, rest)
    ]

-- what is reached from a node that is reached is reached
up_on : (fuel : ℕ) (nodes : List SkelNode) (k middle j : ℕ) → Falls nodes → j < fuel → up nodes k middle ≡ true → up nodes middle j ≡ true → up nodes k j ≡ true
up_on zero nodes k middle j falls low first second = absurd (let no : ⊥ = omega (arith, low) in no)
up_on (suc fuel) nodes k middle j falls low first second =
    elim (under nodes middle j falls second) [
      | inl e ↦ ap (up nodes k) e ∙ first
      | inr h ↦ let less = child_falls nodes j h.0 falls h.1 in over nodes k j h.0 falls h.1 (up_on fuel nodes k middle h.0 falls (omega (arith, low, less)) first h.2)
    ]

-- whether a node is below a root
abbrev HasRoot : List SkelNode → List ℕ → ℕ → Type 0
HasRoot nodes roots k = (root : ℕ) × In root roots × (up nodes k root ≡ true) × (root ≢ k)

root_inner : (nodes : List SkelNode) (roots : List ℕ) (k : ℕ) → HasRoot nodes roots k → is_inner nodes roots k ≡ true
root_inner nodes roots k h = in_any (λ root. is_among (above_of nodes k) root) roots h.0 h.1 (in_among (above_of nodes k) h.0 (up_above nodes k h.0 h.2 h.3))

inner_root : (nodes : List SkelNode) (roots : List ℕ) (k : ℕ) → is_inner nodes roots k ≡ true → HasRoot nodes roots k
inner_root nodes roots k is =
    let h = any_in (λ root. is_among (above_of nodes k) root) roots is in
    let reached = above_up nodes k h.0 (among_in (above_of nodes k) h.0 h.2) in
    (h.0, h.1, reached.0, reached.1)

-- the children of a root, and those of a node below one
root_child : (nodes : List SkelNode) (roots : List ℕ) (root child : ℕ) → Falls nodes → In root roots → IsChild nodes root child → HasRoot nodes roots child
root_child nodes roots root child falls i is =
    let less = child_falls nodes root child falls is in
    let within = user_within nodes root child is in
    (root, i, over nodes child root child falls is (own nodes child falls (omega (arith, less, within))), λ e. omega (arith, less, e))

inner_child : (nodes : List SkelNode) (roots : List ℕ) (k child : ℕ) → Falls nodes → HasRoot nodes roots k → IsChild nodes k child → HasRoot nodes roots child
inner_child nodes roots k child falls h is =
    let less = child_falls nodes k child falls is in
    let within = user_within nodes k child is in
    let least = up_least (suc h.0) nodes k h.0 falls (omega arith) h.2 in
    let first = over nodes child k child falls is (own nodes child falls (omega (arith, less, within))) in
    (h.0, h.1, up_on (suc h.0) nodes child k h.0 falls (omega arith) first h.2, λ e. omega (arith, less, least, e))

-- setting marks keeps those that are set, and sets no others
set_keeps : (marks : List Bool) (c k : ℕ) → get_or marks k false ≡ true → get_or (set marks c true) k false ≡ true
set_keeps [] c k is = is
set_keeps (m ∷ marks) zero zero is = refl
set_keeps (m ∷ marks) zero (suc k) is = is
set_keeps (m ∷ marks) (suc c) zero is = is
set_keeps (m ∷ marks) (suc c) (suc k) is = set_keeps marks c k is

set_was : (marks : List Bool) (c k : ℕ) → get_or (set marks c true) k false ≡ true → (k ≡ c) ⊎ (get_or marks k false ≡ true)
set_was [] c k is = inr is
set_was (m ∷ marks) zero zero is = inl refl
set_was (m ∷ marks) zero (suc k) is = inr is
set_was (m ∷ marks) (suc c) zero is = inr is
set_was (m ∷ marks) (suc c) (suc k) is = elim (set_was marks c k is) [ inl e ↦ inl (ap suc e) | inr was ↦ inr was ]

mark_keeps : (marks : List Bool) (child : Option ℕ) (k : ℕ) → get_or marks k false ≡ true → get_or (with_mark marks child) k false ≡ true
mark_keeps marks None k is = is
mark_keeps marks (Some c) k is = set_keeps marks c k is

mark_was : (marks : List Bool) (child : Option ℕ) (k : ℕ) → get_or (with_mark marks child) k false ≡ true → (child ≡ Some k) ⊎ (get_or marks k false ≡ true)
mark_was marks None k is = inr is
mark_was marks (Some c) k is = elim (set_was marks c k is) [ inl e ↦ inl (ap Some (sym e)) | inr was ↦ inr was ]

mark_sets : (marks : List Bool) (child : Option ℕ) (k : ℕ) → child ≡ Some k → k < length marks → get_or (with_mark marks child) k false ≡ true
mark_sets marks child k told below = ap (λ c. get_or (with_mark marks c) k false) told ∙ get_or-set_same marks k true false below

mark_size : (marks : List Bool) (child : Option ℕ) → length (with_mark marks child) ≡ length marks
mark_size marks None = refl
mark_size marks (Some c) = length-set marks c true

children_keep : (nodes : List SkelNode) (marks : List Bool) (k j : ℕ) → get_or marks j false ≡ true → get_or (with_children nodes marks k) j false ≡ true
children_keep nodes marks k j is = mark_keeps (with_mark marks (left_of nodes k)) (right_of nodes k) j (mark_keeps marks (left_of nodes k) j is)

children_were : (nodes : List SkelNode) (marks : List Bool) (k j : ℕ) → get_or (with_children nodes marks k) j false ≡ true → IsChild nodes k j ⊎ (get_or marks j false ≡ true)
children_were nodes marks k j is =
    elim (mark_was (with_mark marks (left_of nodes k)) (right_of nodes k) j is) [
      | inl e ↦ inl (inr e)
      | inr h ↦ elim (mark_was marks (left_of nodes k) j h) [ inl e ↦ inl (inl e) | inr was ↦ inr was ]
    ]

children_size : (nodes : List SkelNode) (marks : List Bool) (k : ℕ) → length (with_children nodes marks k) ≡ length marks
children_size nodes marks k = mark_size (with_mark marks (left_of nodes k)) (right_of nodes k) ∙ mark_size marks (left_of nodes k)

children_set : (nodes : List SkelNode) (marks : List Bool) (k child : ℕ) → IsChild nodes k child → child < length marks → get_or (with_children nodes marks k) child false ≡ true
children_set nodes marks k child (inl e) below = mark_keeps (with_mark marks (left_of nodes k)) (right_of nodes k) child (mark_sets marks (left_of nodes k) child e below)
children_set nodes marks k child (inr e) below =
    let size = mark_size marks (left_of nodes k) in
    mark_sets (with_mark marks (left_of nodes k)) (right_of nodes k) child e (omega (arith, size, below))

-- the children of a node of a number, by the node
pub children_are : (nodes : List SkelNode) (marks middle after : List Bool) (k : ℕ) (node : SkelNode) → slice_get nodes k ≡ Some node → middle ≡ with_mark marks node.left → after ≡ with_mark middle node.right
    → after ≡ with_children nodes marks k
children_are nodes marks middle after k node found first second =
    let Made : Option SkelNode → Type 0 = λ o. after ≡ with_mark (with_mark marks (option_and_then (λ n. n.left) o)) (option_and_then (λ n. n.right) o) in
    subst Made (sym found) (second ∙ ap (λ m. with_mark m node.right) first)

-- the marks under some nodes
under_keeps : (nodes : List SkelNode) (marks : List Bool) (numbers : List ℕ) (j : ℕ) → get_or marks j false ≡ true → get_or (marked_under nodes marks numbers) j false ≡ true
under_keeps nodes marks [] j is = is
under_keeps nodes marks (k ∷ numbers) j is = under_keeps nodes (with_children nodes marks k) numbers j (children_keep nodes marks k j is)

under_was : (nodes : List SkelNode) (marks : List Bool) (numbers : List ℕ) (j : ℕ) → get_or (marked_under nodes marks numbers) j false ≡ true
    → ((k : ℕ) × In k numbers × IsChild nodes k j) ⊎ (get_or marks j false ≡ true)
under_was nodes marks [] j is = inr is
under_was nodes marks (k ∷ numbers) j is =
    elim (under_was nodes (with_children nodes marks k) numbers j is) [
      | inl h ↦ inl (h.0, inr h.1, h.2)
      | inr h ↦ elim (children_were nodes marks k j h) [ inl child ↦ inl (k, inl refl, child) | inr was ↦ inr was ]
    ]

under_size : (nodes : List SkelNode) (marks : List Bool) (numbers : List ℕ) → length (marked_under nodes marks numbers) ≡ length marks
under_size nodes marks [] = refl
under_size nodes marks (k ∷ numbers) = under_size nodes (with_children nodes marks k) numbers ∙ children_size nodes marks k

under_sets : (nodes : List SkelNode) (marks : List Bool) (numbers : List ℕ) (k child : ℕ) → In k numbers → IsChild nodes k child → child < length marks
    → get_or (marked_under nodes marks numbers) child false ≡ true
under_sets nodes marks [] k child i is below = absurd i
under_sets nodes marks (n ∷ numbers) k child (inl e) is below =
    let Told : ℕ → Type 0 = λ x. IsChild nodes x child in
    under_keeps nodes (with_children nodes marks n) numbers child (children_set nodes marks n child (subst Told e is) below)
under_sets nodes marks (n ∷ numbers) k child (inr i) is below =
    let size = children_size nodes marks n in
    under_sets nodes (with_children nodes marks n) numbers k child i is (omega (arith, size, below))

-- the marks under a node, where it is marked
by_keeps : (nodes : List SkelNode) (marks : List Bool) (k j : ℕ) (b : Bool) → get_or marks j false ≡ true → get_or (if b then with_children nodes marks k else marks) j false ≡ true
by_keeps nodes marks k j true is = children_keep nodes marks k j is
by_keeps nodes marks k j false is = is

by_was : (nodes : List SkelNode) (marks : List Bool) (k j : ℕ) (b : Bool) → get_or (if b then with_children nodes marks k else marks) j false ≡ true
    → (IsChild nodes k j × (b ≡ true)) ⊎ (get_or marks j false ≡ true)
by_was nodes marks k j true is = elim (children_were nodes marks k j is) [ inl child ↦ inl (child, refl) | inr was ↦ inr was ]
by_was nodes marks k j false is = inr is

by_sets : (nodes : List SkelNode) (marks : List Bool) (k child : ℕ) (b : Bool) → b ≡ true → IsChild nodes k child → child < length marks
    → get_or (if b then with_children nodes marks k else marks) child false ≡ true
by_sets nodes marks k child true is told below = children_set nodes marks k child told below
by_sets nodes marks k child false is told below = absurd (false≢true is)

by_size : (nodes : List SkelNode) (marks : List Bool) (k : ℕ) (b : Bool) → length (if b then with_children nodes marks k else marks) ≡ length marks
by_size nodes marks k true = children_size nodes marks k
by_size nodes marks k false = refl

-- the marks on the way down
down_keeps : (nodes : List SkelNode) (n : ℕ) (marks : List Bool) (j : ℕ) → get_or marks j false ≡ true → get_or (marked_down nodes n marks) j false ≡ true
down_keeps nodes zero marks j is = is
down_keeps nodes (suc n) marks j is = down_keeps nodes n (marked_by nodes marks n) j (by_keeps nodes marks n j (get_or marks n false) is)

down_size : (nodes : List SkelNode) (n : ℕ) (marks : List Bool) → length (marked_down nodes n marks) ≡ length marks
down_size nodes zero marks = refl
down_size nodes (suc n) marks = down_size nodes n (marked_by nodes marks n) ∙ by_size nodes marks n (get_or marks n false)

-- what holds of each marked node, and of a node's children where it holds of the node, holds of each node that is marked in the end
down_was : (P : ℕ → Type 0) (nodes : List SkelNode) → ((k child : ℕ) → P k → IsChild nodes k child → P child) → (n : ℕ) (marks : List Bool) → ((j : ℕ) → get_or marks j false ≡ true → P j)
    → (j : ℕ) → get_or (marked_down nodes n marks) j false ≡ true → P j
down_was P nodes closed zero marks each j is = each j is
down_was P nodes closed (suc n) marks each j is =
    down_was P nodes closed n (marked_by nodes marks n)
    (λ i h. elim (by_was nodes marks n i (get_or marks n false) h) [ inl w ↦ closed n i (each n w.1) w.0 | inr was ↦ each i was ])
    j is

-- going down from a number marks only lower ones
down_lower : (nodes : List SkelNode) (n : ℕ) (marks : List Bool) (j : ℕ) → Falls nodes → n ≤ j → get_or (marked_down nodes n marks) j false ≡ true → get_or marks j false ≡ true
down_lower nodes zero marks j falls low is = is
down_lower nodes (suc n) marks j falls low is =
    let h = down_lower nodes n (marked_by nodes marks n) j falls (omega (arith, low)) is in
    elim (by_was nodes marks n j (get_or marks n false) h) [
      | inl w ↦ let less = child_falls nodes n j falls w.0 in absurd (let no : ⊥ = omega (arith, low, less) in no)
      | inr was ↦ was
    ]

-- in the end the children of each marked node are marked
down_sets : (nodes : List SkelNode) (n : ℕ) (marks : List Bool) → Falls nodes → length marks ≡ length nodes → (k child : ℕ) → k < n → IsChild nodes k child
    → get_or (marked_down nodes n marks) k false ≡ true → get_or (marked_down nodes n marks) child false ≡ true
down_sets nodes zero marks falls size k child low told is = absurd (let no : ⊥ = omega (arith, low) in no)
down_sets nodes (suc n) marks falls size k child low told is =
    elim (cases_eq k n) [
      | inl e ↦
          let less = child_falls nodes k child falls told in
          let within = user_within nodes k child told in
          let h = down_lower nodes n (marked_by nodes marks n) k falls (omega (arith, e)) is in
          let was : get_or marks k false ≡ true = elim (by_was nodes marks n k (get_or marks n false) h) [
            | inl w ↦ let lower = child_falls nodes n k falls w.0 in absurd (let no : ⊥ = omega (arith, e, lower) in no)
            | inr was ↦ was
          ] in
          let Told : ℕ → Type 0 = λ x. IsChild nodes x child in
          down_keeps nodes n (marked_by nodes marks n) child
          (by_sets nodes marks n child (get_or marks n false) (ap (λ x. get_or marks x false) (sym e) ∙ was) (subst Told e told) (omega (arith, less, within, size)))
      | inr apart ↦
          let same : length (marked_by nodes marks n) ≡ length marks = by_size nodes marks n (get_or marks n false) in
          down_sets nodes n (marked_by nodes marks n) falls (same ∙ size) k child (omega (arith, low, apart)) told is
    ]

-- where the children of each marked node are marked, and those of a node, each other node from which it is reached is marked
reached : (fuel : ℕ) (nodes : List SkelNode) (marks : List Bool) (k j : ℕ) → Falls nodes → ((n child : ℕ) → IsChild nodes n child → get_or marks n false ≡ true → get_or marks child false ≡ true)
    → j < fuel → ((child : ℕ) → IsChild nodes j child → get_or marks child false ≡ true) → up nodes k j ≡ true → j ≢ k → get_or marks k false ≡ true
reached zero nodes marks k j falls closed low each is apart = absurd (let no : ⊥ = omega (arith, low) in no)
reached (suc fuel) nodes marks k j falls closed low each is apart =
    elim (under nodes k j falls is) [
      | inl e ↦ absurd (apart e)
      | inr h ↦
          let less = child_falls nodes j h.0 falls h.1 in
          elim (cases_eq h.0 k) [
            | inl e ↦ ap (λ x. get_or marks x false) (sym e) ∙ each h.0 h.1
            | inr other ↦ reached fuel nodes marks k h.0 falls closed (omega (arith, low, less)) (λ child told. closed h.0 child told (each h.0 h.1)) h.2 other
          ]
    ]

none_set : (n j : ℕ) → get_or (replicate n false) j false ≡ true → ⊥
none_set zero j is = false≢true is
none_set (suc n) zero is = false≢true is
none_set (suc n) (suc j) is = none_set n j is

-- how many marks there are
pub marks_size : (nodes : List SkelNode) (roots : List ℕ) → length (marks_below nodes roots) ≡ length nodes
marks_size nodes roots =
    down_size nodes (length nodes) (marked_under nodes (replicate (length nodes) false) roots)
    ∙ under_size nodes (replicate (length nodes) false) roots
    ∙ length-replicate (length nodes) false

-- a node is marked exactly where a root is above it
marked_root : (nodes : List SkelNode) (roots : List ℕ) (k : ℕ) → Falls nodes → get_or (marks_below nodes roots) k false ≡ true → HasRoot nodes roots k
marked_root nodes roots k falls is =
    let none = replicate (length nodes) false in
    down_was (HasRoot nodes roots) nodes (λ n child h told. inner_child nodes roots n child falls h told) (length nodes) (marked_under nodes none roots)
    (λ j h. elim (under_was nodes none roots j h) [
      | inl w ↦ root_child nodes roots w.0 j falls w.1 w.2
      | inr was ↦ absurd (none_set (length nodes) j was)
    ])
    k is

root_marked : (nodes : List SkelNode) (roots : List ℕ) (k : ℕ) → Falls nodes → HasRoot nodes roots k → get_or (marks_below nodes roots) k false ≡ true
root_marked nodes roots k falls h =
    let none = replicate (length nodes) false in
    let first = marked_under nodes none roots in
    let none_size : length none ≡ length nodes = length-replicate (length nodes) false in
    let size : length first ≡ length nodes = under_size nodes none roots ∙ none_size in
    reached (suc h.0) nodes (marks_below nodes roots) k h.0 falls
    (λ n child told is. down_sets nodes (length nodes) first falls size n child (user_within nodes n child told) told is)
    (omega arith)
    (λ child told.
    let less = child_falls nodes h.0 child falls told in
    let within = user_within nodes h.0 child told in
    down_keeps nodes (length nodes) first child (under_sets nodes none roots h.0 child h.1 told (omega (arith, less, within, none_size))))
    h.2 h.3

-- a node is marked exactly where it is inner
pub marked_is_inner : (nodes : List SkelNode) (roots : List ℕ) (k : ℕ) → Falls nodes → get_or (marks_below nodes roots) k false ≡ is_inner nodes roots k
marked_is_inner nodes roots k falls =
    same_tests (get_or (marks_below nodes roots) k false) (is_inner nodes roots k)
    (λ is. root_inner nodes roots k (marked_root nodes roots k falls is))
    (λ is. root_marked nodes roots k falls (inner_root nodes roots k is))

-- the jobs of the marked nodes, by a test that the marks agree with
inner_next : (b : Bool) (k : ℕ) (jobs : List Job) (numbers : List ℕ) → jobs ≡ map Inner numbers → (if b then Inner k ∷ [] else []) ++ jobs ≡ map Inner (cond b (k ∷ numbers) numbers)
inner_next true k jobs numbers is = ap (λ js. Inner k ∷ js) is
inner_next false k jobs numbers is = is

inner_jobs_are : (p : ℕ → Bool) (k : ℕ) (marks : List Bool) → ((i : ℕ) → i < length marks → get_or marks i false ≡ p (k + i)) → inner_jobs k marks ≡ map Inner (filter p (range_with_len k (length marks)))
inner_jobs_are p k [] same = refl
inner_jobs_are p k (mark ∷ marks) same =
    let here : k + 0 ≡ k = omega arith in
    let first : mark ≡ p k = same 0 (omega arith) ∙ ap p here in
    let rest = inner_jobs_are p (k + 1) marks (λ i below. let place : k + suc i ≡ (k + 1) + i = omega arith in same (suc i) (omega (arith, below)) ∙ ap p place) in
    ap (λ b. (if b then Inner k ∷ [] else []) ++ inner_jobs (k + 1) marks) first ∙ inner_next (p k) k (inner_jobs (k + 1) marks) (filter p (range_with_len (k + 1) (length marks))) rest

-- the jobs of the marked nodes are those of the inner ones
pub inner_listed : (nodes : List SkelNode) (roots : List ℕ) → Falls nodes → inner_jobs 0 (marks_below nodes roots) ≡ map Inner (inner_of nodes roots)
inner_listed nodes roots falls =
    let each : (i : ℕ) → i < length (marks_below nodes roots) → get_or (marks_below nodes roots) i false ≡ is_inner nodes roots (0 + i) =
    λ i below. let place : i ≡ 0 + i = omega arith in marked_is_inner nodes roots i falls ∙ ap (is_inner nodes roots) place in
    inner_jobs_are (is_inner nodes roots) 0 (marks_below nodes roots) each
    ∙ ap (λ n. map Inner (filter (is_inner nodes roots) (range_with_len 0 n))) (marks_size nodes roots)

-- how many pass a test, and how far ascending numbers have come at a place
filter_few : {X : Type 0} (p : X → Bool) (xs : List X) → length (filter p xs) ≤ length xs
filter_few p [] = omega arith
filter_few p (x ∷ xs) = of (p x) (filter_few p xs)
  where
    of : (b : Bool) → length (filter p xs) ≤ length xs → length (cond b (x ∷ filter p xs) (filter p xs)) ≤ length (x ∷ xs)
    of true few = omega (arith, few)
    of false few = omega (arith, few)

grows : (xs : List ℕ) → IsStrictlyIncreasing xs → (i : ℕ) → i < length xs → i ≤ get_or xs i 0
grows xs ascend zero below = omega arith
grows xs ascend (suc i) below =
    let before = grows xs ascend i (omega (arith, below)) in
    let place : i + 1 ≡ suc i = omega arith in
    let next : get_or xs i 0 < get_or xs (i + 1) 0 = ascend i (omega (arith, below)) in
    let same : get_or xs (i + 1) 0 ≡ get_or xs (suc i) 0 = ap (λ n. get_or xs n 0) place in
    omega (arith, before, next, same)

-- ascending numbers below a number are no more than it
few_below : (xs : List ℕ) (n : ℕ) → IsStrictlyIncreasing xs → All (λ k. k < n) xs → length xs ≤ n
few_below [] n ascend within = omega arith
few_below (x ∷ xs) n ascend within =
    let last = grows (x ∷ xs) ascend (length xs) (omega arith) in
    let low = within (length xs) 0 (omega arith) in
    omega (arith, last, low)

-- there are at most 200,000 jobs
pub jobs_few : (nodes : List SkelNode) (roots : List ℕ) → length nodes ≤ 100000 → IsStrictlyIncreasing roots → All (λ k. k < length nodes) roots → length (jobs_of nodes roots) ≤ 200000
jobs_few nodes roots few ascend within =
    let both : length (jobs_of nodes roots) ≡ length (map Inner (inner_of nodes roots)) + length (map Root roots) = length-append (map Inner (inner_of nodes roots)) (map Root roots) in
    let inner : length (map Inner (inner_of nodes roots)) ≡ length (inner_of nodes roots) = length-map (inner_of nodes roots) Inner in
    let root : length (map Root roots) ≡ length roots = length-map roots Root in
    let kept : length (inner_of nodes roots) ≤ length (range_with_len 0 (length nodes)) = filter_few (is_inner nodes roots) (range_with_len 0 (length nodes)) in
    let range = length-range_with_len 0 (length nodes) in
    let some = few_below roots (length nodes) ascend within in
    omega (arith, both, inner, root, kept, range, some, few)

with_job : (nodes : List SkelNode) (roots : List ℕ) (k child : ℕ) → Falls nodes → HasJob nodes roots k → IsChild nodes k child → HasRoot nodes roots child
with_job nodes roots k child falls (inl c) told =
    let h = in_filter (is_inner nodes roots) k (range_with_len 0 (length nodes)) (contains_in (inner_of nodes roots) k c) in
    inner_child nodes roots k child falls (inner_root nodes roots k h.1) told
with_job nodes roots k child falls (inr c) told = root_child nodes roots k child falls (contains_in roots k c) told

-- each child of a node with a job is inner, with a lower number
pub children_inner : (nodes : List SkelNode) (roots : List ℕ) → Falls nodes → ChildrenAreInner nodes roots
children_inner nodes roots falls =
    λ k child job told.
    let less = child_falls nodes k child falls told in
    let within = user_within nodes k child told in
    let passes = root_inner nodes roots child (with_job nodes roots k child falls job told) in
    let here = range_in 0 (length nodes) child (omega arith) (omega (arith, less, within)) in
    (in_contains (inner_of nodes roots) child (filter_in (is_inner nodes roots) child (range_with_len 0 (length nodes)) passes here), less)

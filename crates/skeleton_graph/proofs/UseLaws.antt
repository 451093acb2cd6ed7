-- A node that is the child of another is used.
use Rattle.std.proofs.Common.{◌≡◌, ℕ, zero, suc, ◌+◌, ◌*◌, true, List, [], ◌∷◌, ◌++◌, Option, Some, None, refl, sym, ap, ◌∙◌, if◌then◌else◌}
use Rattle.std.specs.Prelude.{is_some}
use Rattle.std.proofs.lemmas.Bool.{eq-eqb}
use Rattle.value_core.specs.declared.value.ColType.{ColType}
use Rattle.skeleton_graph.specs.declared.node.SkelNode.{SkelNode}
use Rattle.skeleton_graph.specs.Nodes.{left_of, right_of, first_use_of, chain_from, use_as, uses_from, uses_of}
use Rattle.skeleton_graph.specs.GraphData.{IsGraph}

-- the parts of an empty list are empty
empty_front : {A : Type 0} (xs ys : List A) → xs ++ ys ≡ [] → xs ≡ []
empty_front [] ys is = refl
empty_front {A} (x ∷ xs) ys is = let same : ◌≡◌ {A = List A} (x ∷ (xs ++ ys)) [] = is in cc

empty_back : {A : Type 0} (xs ys : List A) → xs ++ ys ≡ [] → ys ≡ []
empty_back [] ys is = is
empty_back {A} (x ∷ xs) ys is = let same : ◌≡◌ {A = List A} (x ∷ (xs ++ ys)) [] = is in cc

-- the use of a child is listed
use_listed : (use_number child : ℕ) (side : Option ℕ) → side ≡ Some child → use_as use_number side child ≡ [] → ⊥
use_listed use_number child None told none = let same : ◌≡◌ {A = Option ℕ} None (Some child) = told in cc
use_listed use_number child (Some c) told none =
    let told_same : ◌≡◌ {A = Option ℕ} (Some c) (Some child) = told in
    let same : c ≡ child = cc in
    let listed : use_as use_number (Some c) child ≡ use_number ∷ [] = ap (λ b. if b then use_number ∷ [] else []) (eq-eqb c child same) in
    let no : ◌≡◌ {A = List ℕ} (use_number ∷ []) [] = sym listed ∙ none in
    cc

-- a node that is a child has a use
left_listed : (user : ℕ) (nodes : List SkelNode) (k child : ℕ) → left_of nodes k ≡ Some child → uses_from user nodes child ≡ [] → ⊥
left_listed user [] k child told none = let same : ◌≡◌ {A = Option ℕ} None (Some child) = told in cc
left_listed user (node ∷ nodes) zero child told none =
    let here = empty_back (uses_from (user + 1) nodes child) (use_as (2 * user + 1) node.right child ++ use_as (2 * user) node.left child) none in
    use_listed (2 * user) child node.left told (empty_back (use_as (2 * user + 1) node.right child) (use_as (2 * user) node.left child) here)
left_listed user (node ∷ nodes) (suc k) child told none =
    left_listed (user + 1) nodes k child told (empty_front (uses_from (user + 1) nodes child) (use_as (2 * user + 1) node.right child ++ use_as (2 * user) node.left child) none)

right_listed : (user : ℕ) (nodes : List SkelNode) (k child : ℕ) → right_of nodes k ≡ Some child → uses_from user nodes child ≡ [] → ⊥
right_listed user [] k child told none = let same : ◌≡◌ {A = Option ℕ} None (Some child) = told in cc
right_listed user (node ∷ nodes) zero child told none =
    let here = empty_back (uses_from (user + 1) nodes child) (use_as (2 * user + 1) node.right child ++ use_as (2 * user) node.left child) none in
    use_listed (2 * user + 1) child node.right told (empty_front (use_as (2 * user + 1) node.right child) (use_as (2 * user) node.left child) here)
right_listed user (node ∷ nodes) (suc k) child told none =
    right_listed (user + 1) nodes k child told (empty_front (uses_from (user + 1) nodes child) (use_as (2 * user + 1) node.right child ++ use_as (2 * user) node.left child) none)

-- a chain that has uses begins with one
begins : (nodes : List SkelNode) (from : Option ℕ) (uses : List ℕ) → chain_from nodes from ≡ uses → (uses ≡ [] → ⊥) → is_some from ≡ true
begins nodes None uses chain some = absurd (some (sym chain))
begins nodes (Some use_number) uses chain some = refl

-- a node that is the child of another of a graph is used
pub left_used : (nodes : List SkelNode) (types : List (List ColType)) → IsGraph nodes types → (k child : ℕ) → left_of nodes k ≡ Some child → is_some (first_use_of nodes child) ≡ true
left_used nodes types graph k child told = begins nodes (first_use_of nodes child) (uses_of nodes child) (graph.chains child) (left_listed 0 nodes k child told)

pub right_used : (nodes : List SkelNode) (types : List (List ColType)) → IsGraph nodes types → (k child : ℕ) → right_of nodes k ≡ Some child → is_some (first_use_of nodes child) ≡ true
right_used nodes types graph k child told = begins nodes (first_use_of nodes child) (uses_of nodes child) (graph.chains child) (right_listed 0 nodes k child told)

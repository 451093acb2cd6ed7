-- Laws of nodes that are linked into the chains of their children's uses.
use Rattle.std.proofs.Common.{◌≡◌, ℕ, ◌+◌, ◌*◌, ◌<◌, List, [], ◌∷◌, ◌++◌, length, get_or, drop, map, Option, Some, None, refl, ap, sym, ◌∙◌, arith, append_assoc, length-append}
use Rattle.std.specs.Prelude.{slice_get}
use Rattle.std.proofs.Math.Seq.{map-set_same}
use Rattle.std.proofs.lemmas.Option.{get_or_from_slice_get}
use Rattle.std.proofs.lemmas.List.{drop_more, map-append, length-map, append-nil}
use Rattle.value_core.specs.declared.value.ColType.{ColType}
use Rattle.query_core.specs.Tree.{Tree}
use Rattle.skeleton_graph.specs.declared.node.Kind.{Kind}
use Rattle.skeleton_graph.specs.declared.node.SkelNode.{SkelNode}
use Rattle.skeleton_graph.specs.declared.part.Part.{Part}
use Rattle.skeleton_graph.specs.declared.part.Placed.{Placed}
use Rattle.skeleton_graph.specs.Nodes.{made_tree, trees_after, trees_of}
use Rattle.skeleton_graph.specs.Links.{with_use_at, with_use, left_used, linked, linked_all}
use Rattle.skeleton_graph.specs.Seen.{all_of}
use Rattle.skeleton_graph.specs.View.{parts_of}
use Rattle.skeleton_graph.proofs.SimLaws.{part_trees_after}

linked_all-append : (nodes : List SkelNode) (a b : List Part) → linked_all nodes (a ++ b) ≡ linked_all (linked_all nodes a) b
linked_all-append nodes [] b = refl
linked_all-append nodes (p ∷ a) b = linked_all-append (linked nodes p) a b

-- what a loop over levels has still to link, and the types that it has still to append: those of its turn, and then the rest
pub level_part : (levels : List (List Placed)) (i : ℕ) (level d : List Placed) → i < length levels → level ≡ get_or levels i d
    → all_of (drop i levels) ≡ level ++ all_of (drop (i + 1) levels)
level_part levels i level d below is =
    let next : drop i levels ≡ level ∷ drop (i + 1) levels = drop_more levels i d below ∙ ap (λ y. y ∷ drop (i + 1) levels) (sym is) in
    ap all_of next

pub level_linked : (nodes more whole : List SkelNode) (level rest all : List Placed) → all ≡ level ++ rest → more ≡ linked_all nodes (parts_of level)
    → linked_all nodes (parts_of all) ≡ whole → linked_all more (parts_of rest) ≡ whole
level_linked nodes more whole level rest all is is_more inv =
    let split : parts_of all ≡ parts_of level ++ parts_of rest = ap parts_of is ∙ map-append (λ p. p.part) level rest in
    ap (λ n. linked_all n (parts_of rest)) is_more ∙ sym (linked_all-append nodes (parts_of level) (parts_of rest)) ∙ ap (linked_all nodes) (sym split) ∙ inv

pub level_typed : (types more whole : List (List ColType)) (level rest all : List Placed) → all ≡ level ++ rest → more ≡ types ++ map (λ p. p.types) (parts_of level)
    → types ++ map (λ p. p.types) (parts_of all) ≡ whole → more ++ map (λ p. p.types) (parts_of rest) ≡ whole
level_typed types more whole level rest all is is_more inv =
    let split : parts_of all ≡ parts_of level ++ parts_of rest = ap parts_of is ∙ map-append (λ p. p.part) level rest in
    let typed : map (λ p. p.types) (parts_of all) ≡ map (λ p. p.types) (parts_of level) ++ map (λ p. p.types) (parts_of rest) = ap (map (λ p. p.types)) split ∙ map-append (λ p. p.types) (parts_of level) (parts_of rest) in
    rw (is_more, append_assoc) (rw typed at inv)

pub level_counted : (n m whole : ℕ) (level rest all : List Placed) → all ≡ level ++ rest → m ≡ n + length level → n + length all ≡ whole → m + length rest ≡ whole
level_counted n m whole level rest all is is_m inv =
    let size : length all ≡ length level + length rest = ap length is ∙ length-append level rest in
    omega (arith, size, is_m, inv)

-- what is the same of nodes after a use is taken, where it doesn't speak of the newest use
with_use_at_keeps : {B : Type 0} (f : SkelNode → B) → ((node : SkelNode) (use_number : ℕ) → f (record node { first_use = Some use_number }) ≡ f node)
    → (nodes : List SkelNode) (k use_number : ℕ) (found : Option SkelNode) → slice_get nodes k ≡ found → map f (with_use_at nodes k use_number found) ≡ map f nodes
with_use_at_keeps f keeps nodes k use_number None is = refl
with_use_at_keeps f keeps nodes k use_number (Some node) is =
    let at : get_or nodes k node ≡ node = get_or_from_slice_get nodes k node node is in
    map-set_same f nodes k (record node { first_use = Some use_number }) node (keeps node use_number ∙ ap f (sym at))

pub with_use_keeps : {B : Type 0} (f : SkelNode → B) → ((node : SkelNode) (use_number : ℕ) → f (record node { first_use = Some use_number }) ≡ f node)
    → (nodes : List SkelNode) (child : Option ℕ) (use_number : ℕ) → map f (with_use nodes child use_number) ≡ map f nodes
with_use_keeps f keeps nodes None use_number = refl
with_use_keeps f keeps nodes (Some k) use_number = with_use_at_keeps f keeps nodes k use_number (slice_get nodes k) refl

-- a node by its kind and its children
abbrev pub Shape : Type 0
Shape = Kind × Option ℕ × Option ℕ

abbrev pub shape : SkelNode → Shape
shape node = (node.kind, node.left, node.right)

abbrev pub part_shape : Part → Shape
part_shape part = (part.kind, part.left, part.right)

pub shape_keeps : (node : SkelNode) (use_number : ℕ) → shape (record node { first_use = Some use_number }) ≡ shape node
shape_keeps node use_number = refl

pub shape_linked : (nodes : List SkelNode) (part : Part) → map shape (linked nodes part) ≡ map shape nodes ++ part_shape part ∷ []
shape_linked nodes part =
    map-append shape (with_use (left_used nodes part) part.right (2 * length nodes + 1)) _
    ∙ ap (λ l. l ++ part_shape part ∷ []) (with_use_keeps shape shape_keeps (left_used nodes part) part.right (2 * length nodes + 1) ∙ with_use_keeps shape shape_keeps nodes part.left (2 * length nodes))

pub shapes_linked : (nodes : List SkelNode) (parts : List Part) → map shape (linked_all nodes parts) ≡ map shape nodes ++ map part_shape parts
shapes_linked nodes [] = sym (append-nil (map shape nodes))
shapes_linked nodes (p ∷ parts) =
    shapes_linked (linked nodes p) parts ∙ ap (λ l. l ++ map part_shape parts) (shape_linked nodes p) ∙ append_assoc (map shape nodes) (part_shape p ∷ []) (map part_shape parts)

shaped_after : List Tree → List Shape → List Tree
shaped_after trees [] = trees
shaped_after trees (s ∷ shapes) = shaped_after (trees ++ made_tree trees s.0 s.1 s.2 ∷ []) shapes

node_trees : (trees : List Tree) (nodes : List SkelNode) → trees_after trees nodes ≡ shaped_after trees (map shape nodes)
unfolding shaped_after
node_trees trees [] = refl
node_trees trees (n ∷ nodes) = node_trees (trees ++ made_tree trees n.kind n.left n.right ∷ []) nodes

part_trees : (trees : List Tree) (parts : List Part) → part_trees_after trees parts ≡ shaped_after trees (map part_shape parts)
unfolding shaped_after
part_trees trees [] = refl
part_trees trees (p ∷ parts) = part_trees (trees ++ made_tree trees p.kind p.left p.right ∷ []) parts

-- the trees of linked nodes, and how many they are
pub linked_trees : (parts : List Part) → trees_of (linked_all [] parts) ≡ part_trees_after [] parts
linked_trees parts = node_trees [] (linked_all [] parts) ∙ ap (shaped_after []) (shapes_linked [] parts) ∙ sym (part_trees [] parts)

pub linked_count : (parts : List Part) → length (linked_all [] parts) ≡ length parts
linked_count parts = sym (length-map (linked_all [] parts) shape) ∙ ap length (shapes_linked [] parts) ∙ length-map parts part_shape

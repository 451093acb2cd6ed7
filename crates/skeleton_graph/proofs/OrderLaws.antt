-- The children of a linked node stand before it.
use Rattle.std.proofs.Common.{◌≡◌, ℕ, zero, suc, ◌+◌, ◌<◌, List, [], ◌∷◌, map, Option, Some, None, option_map, refl, sym, ap, ◌∙◌, arith}
use Rattle.std.specs.Prelude.{slice_get, option_and_then}
use Rattle.std.proofs.lemmas.Option.{slice_get-map}
use Rattle.skeleton_graph.specs.declared.node.SkelNode.{SkelNode}
use Rattle.skeleton_graph.specs.declared.part.Part.{Part}
use Rattle.skeleton_graph.specs.Nodes.{left_of, right_of}
use Rattle.skeleton_graph.specs.Links.{linked_all}
use Rattle.skeleton_graph.specs.GraphData.{Descends}
use Rattle.skeleton_graph.proofs.BoundLaws.{Below, PartsFirst}
use Rattle.skeleton_graph.proofs.LinkLaws.{Shape, shape, part_shape, shapes_linked}

below_of : (n m : ℕ) (o : Option ℕ) → Below n o → o ≡ Some m → m < n
below_of n m None b is = let same : ◌≡◌ {A = Option ℕ} None (Some m) = is in cc
below_of n m (Some k) b is = let same : ◌≡◌ {A = Option ℕ} (Some k) (Some m) = is in let e : k ≡ m = cc in omega (arith, b, e)

-- a child of a listed skeleton stands before it
part_first : (side : Shape → Option ℕ) → ((n : ℕ) (part : Part) → Below n part.left → Below n part.right → Below n (side (part_shape part)))
    → (n : ℕ) (parts : List Part) (k child : ℕ) → PartsFirst n parts → option_and_then side (slice_get (map part_shape parts) k) ≡ Some child → child < n + k
part_first side of n [] k child f is = let same : ◌≡◌ {A = Option ℕ} None (Some child) = is in cc
part_first side of n (p ∷ parts) zero child f is = let low = below_of n child (side (part_shape p)) (of n p f.0.0 f.0.1) is in omega (arith, low)
part_first side of n (p ∷ parts) (suc k) child f is = let low = part_first side of (n + 1) parts k child f.1 is in omega (arith, low)

side_of : (side : Shape → Option ℕ) (o : Option SkelNode) → option_and_then (λ node. side (shape node)) o ≡ option_and_then side (option_map shape o)
side_of side None = refl
side_of side (Some node) = refl

sides_first : (side : Shape → Option ℕ) → ((n : ℕ) (part : Part) → Below n part.left → Below n part.right → Below n (side (part_shape part)))
    → (parts : List Part) → PartsFirst 0 parts → Descends (λ k. option_and_then (λ node. side (shape node)) (slice_get (linked_all [] parts) k))
sides_first side of parts f = λ k child is.
    let nodes = linked_all [] parts in
    let same : option_and_then (λ node. side (shape node)) (slice_get nodes k) ≡ option_and_then side (slice_get (map part_shape parts) k) =
    side_of side (slice_get nodes k) ∙ ap (option_and_then side) (sym (slice_get-map shape nodes k) ∙ ap (λ l. slice_get l k) (shapes_linked [] parts)) in
    let low = part_first side of 0 parts k child f (sym same ∙ is) in
    omega (arith, low)

pub lefts_first : (parts : List Part) → PartsFirst 0 parts → Descends (left_of (linked_all [] parts))
lefts_first parts f = sides_first (λ s. s.1) (λ n p a b. a) parts f

pub rights_first : (parts : List Part) → PartsFirst 0 parts → Descends (right_of (linked_all [] parts))
rights_first parts f = sides_first (λ s. s.2) (λ n p a b. b) parts f

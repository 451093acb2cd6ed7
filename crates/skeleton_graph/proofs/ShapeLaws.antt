-- Each node has exactly the children that its kind has.
use Rattle.std.proofs.Common.{◌≡◌, ℕ, zero, suc, ◌-◌, List, [], ◌∷◌, map, length, Option, Some, None, option_map, refl, sym, ap, ◌∙◌, subst}
use Rattle.std.specs.Prelude.{slice_get}
use Rattle.std.specs.List.{flat_map, range_with_len}
use Rattle.std.proofs.lemmas.Option.{slice_get-map}
use Rattle.table_core.specs.declared.task.TaskParts.{TaskParts}
use Rattle.query_core.specs.Grammar.{agg_list, key_lists}
use Rattle.query_core.specs.declared.kinds.Pairing.TheVariants.{Join, Left}
use Rattle.query_core.specs.declared.kinds.Uniting.TheVariants.{All, Firsts}
use Rattle.skeleton_graph.specs.declared.meeting.Meeting.{Meeting}
use Rattle.skeleton_graph.specs.declared.meeting.Meeting.TheVariants.{Pair, Union}
use Rattle.skeleton_graph.specs.declared.node.SkelNode.{SkelNode}
use Rattle.skeleton_graph.specs.declared.part.Part.{Part}
use Rattle.skeleton_graph.specs.Links.{linked_all}
use Rattle.skeleton_graph.specs.Seen.{Seen, all_of, base_part, base_parts, filter_part, filter_on, may_meet, met, pair_on, seen_at, pairs_at, pairs_on, group_on, keyed_on, groups_on, last_seen, next_parts}
use Rattle.skeleton_graph.specs.View.{see_levels, parts_of}
use Rattle.skeleton_graph.specs.Listing.{no_levels, placed_levels}
use Rattle.skeleton_graph.specs.GraphData.{HasItsChildren}
use Rattle.skeleton_graph.proofs.BoundLaws.{Each, each-append, each_flat_all, each_map, each_single}
use Rattle.skeleton_graph.proofs.LinkLaws.{Shape, shape, part_shape, shapes_linked}
use Rattle.skeleton_graph.proofs.SimLaws.{parts_with}

-- whether a shape has the children of its kind
abbrev ShapeHas : Shape → Type 0
ShapeHas s = HasItsChildren s.0 s.1 s.2

abbrev PartHas : Part → Type 0
PartHas part = ShapeHas (part_shape part)

met_has : (how : Meeting) (a b : Seen) → PartHas (met how a b)
met_has (Pair Join) a b = (refl, refl)
met_has (Pair Left) a b = (refl, refl)
met_has (Union All) a b = (refl, refl)
met_has (Union Firsts) a b = (refl, refl)

pairs_have : (task : TaskParts) (how : Meeting) (ls : List (List Seen)) → Each PartHas (pairs_on task how ls)
pairs_have task how ls =
    each_flat_all PartHas (pairs_at task how ls)
    (λ i. each_flat_all PartHas (λ a. flat_map (pair_on task how a) (seen_at ls (length ls - 1 - i)))
    (λ a. each_flat_all PartHas (pair_on task how a) (λ b. each_single PartHas (may_meet task how a b) (met how a b) (met_has how a b)) (seen_at ls (length ls - 1 - i)))
    (seen_at ls i))
    (range_with_len 0 (length ls))

groups_have : (task : TaskParts) (c : Seen) → Each PartHas (groups_on task c)
groups_have task c =
    each_flat_all PartHas (keyed_on task c) (λ keys. each_map PartHas (group_on c keys) (λ agg. (refl, refl)) (agg_list task.aggregates c.types keys)) (key_lists (length c.types))

next_have : (task : TaskParts) (ls : List (List Seen)) → Each PartHas (next_parts task ls)
next_have task ls =
    let filters = each_flat_all PartHas filter_on (λ c. each_single PartHas c.takes_filter (filter_part c) (refl, refl)) (last_seen ls) in
    let groups = each_flat_all PartHas (groups_on task) (groups_have task) (last_seen ls) in
    each-append PartHas _ _
    (each-append PartHas _ _ filters (each-append PartHas _ _ (pairs_have task (Pair Join) ls) (pairs_have task (Pair Left) ls)))
    (each-append PartHas _ _ groups (each-append PartHas _ _ (pairs_have task (Union All) ls) (pairs_have task (Union Firsts) ls)))

-- each listed skeleton has the children of its kind
listed_have : (task : TaskParts) (ops : ℕ) → Each PartHas (parts_of (all_of (placed_levels task ops).levels))
listed_have task zero = rw (parts_with no_levels (base_parts task)) (each_map PartHas (base_part task) (λ i. (refl, refl)) (range_with_len 0 (length task.inputs)))
listed_have task (suc ops) =
    let below = placed_levels task ops in
    let next = next_parts task (see_levels below.levels) in
    rw (parts_with below next) (each-append PartHas (parts_of (all_of below.levels)) next (listed_have task ops) (next_have task (see_levels below.levels)))

shape_has : (parts : List Part) (k : ℕ) (s : Shape) → Each PartHas parts → slice_get (map part_shape parts) k ≡ Some s → ShapeHas s
shape_has [] k s each is = let same : ◌≡◌ {A = Option Shape} None (Some s) = is in cc
shape_has (p ∷ parts) zero s each is =
    let same : ◌≡◌ {A = Option Shape} (Some (part_shape p)) (Some s) = is in
    let e : part_shape p ≡ s = cc in
    subst ShapeHas e each.0
shape_has (p ∷ parts) (suc k) s each is = shape_has parts k s each.1 is

-- each node of the linked skeletons of a task has the children of its kind
pub nodes_have : (task : TaskParts) (ops k : ℕ) (node : SkelNode) → slice_get (linked_all [] (parts_of (all_of (placed_levels task ops).levels))) k ≡ Some node → HasItsChildren node.kind node.left node.right
nodes_have task ops k node is =
    let parts = parts_of (all_of (placed_levels task ops).levels) in
    let nodes = linked_all [] parts in
    let same : option_map shape (slice_get nodes k) ≡ slice_get (map part_shape parts) k = sym (slice_get-map shape nodes k) ∙ ap (λ l. slice_get l k) (shapes_linked [] parts) in
    shape_has parts k (shape node) (listed_have task ops) (sym same ∙ ap (option_map shape) is)

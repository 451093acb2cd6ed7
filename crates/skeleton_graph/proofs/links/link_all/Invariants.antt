use Rattle.std.proofs.Common.{◌≡◌, [], ◌+◌, ◌++◌, length, map, drop}
use Rattle.skeleton_graph.specs.Links.{linked_all}
use Rattle.skeleton_graph.specs.Seen.{all_of}
use Rattle.skeleton_graph.specs.View.{parts_of}
use Rattle.skeleton_graph.proofs.links.link_all.Given as goal

abbrev pub invariant-loop-level : goal.invariant-loop-level
invariant-loop-level l =
    (linked_all l.out.nodes.items (parts_of (all_of (drop l.level-index l.levels))) ≡ linked_all [] (parts_of (all_of l.levels)))
    × (l.out.types ++ map (λ p. p.types) (parts_of (all_of (drop l.level-index l.levels))) ≡ map (λ p. p.types) (parts_of (all_of l.levels)))
    × (length l.out.nodes.items + length (all_of (drop l.level-index l.levels)) ≡ length (all_of l.levels))

use Rattle.std.proofs.Common.{◌≡◌, ◌+◌, ◌++◌, length, map, drop}
use Rattle.skeleton_graph.specs.Links.{linked_all}
use Rattle.skeleton_graph.specs.View.{parts_of}
use Rattle.skeleton_graph.proofs.links.Linked.push_level.Given as goal

abbrev pub invariant-loop-placed : goal.invariant-loop-placed
invariant-loop-placed l =
    (linked_all l.self.nodes.items (parts_of (drop l.placed-index l.level)) ≡ linked_all l.initial.self.nodes.items (parts_of l.level))
    × (l.self.types ++ map (λ p. p.types) (parts_of (drop l.placed-index l.level)) ≡ l.initial.self.types ++ map (λ p. p.types) (parts_of l.level))
    × (length l.self.nodes.items + length (drop l.placed-index l.level) ≡ length l.initial.self.nodes.items + length l.level)

use Rattle.std.proofs.Common.{◌≡◌, ◌+◌, ◌++◌, length}
use Rattle.std.specs.Vec.Iter.{into_iter_items}
use Rattle.skeleton_graph.specs.View.{placed}
use Rattle.skeleton_graph.proofs.part.numbered.Given as goal

abbrev pub invariant-loop-part : goal.invariant-loop-part
invariant-loop-part l =
    (goal.iterator-loop-part).can_next l.part-iterator
    × (goal.iterator-loop-part).is_finite l.part-iterator
    × (l.out ++ placed l.number (into_iter_items l.part-iterator) ≡ placed l.fn.first l.fn.parts.items)
    × (l.number + length (into_iter_items l.part-iterator) ≡ l.fn.first + length l.fn.parts.items)

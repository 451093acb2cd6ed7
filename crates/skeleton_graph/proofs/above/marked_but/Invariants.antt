use Rattle.std.proofs.Common.{◌≡◌, ◌++◌, drop}
use Rattle.skeleton_graph.specs.Nodes.{marked_but}
use Rattle.skeleton_graph.proofs.above.marked_but.Given as goal

abbrev pub invariant-loop-number : goal.invariant-loop-number
invariant-loop-number l = l.out.items ++ marked_but l.k l.number (drop l.number l.marks) ≡ marked_but l.k 0 l.marks

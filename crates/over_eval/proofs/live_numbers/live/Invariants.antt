use Rattle.std.proofs.Common.{◌≡◌, ◌++◌, drop}
use Rattle.skeleton_graph.specs.Nodes.{trees_of}
use Rattle.over_eval.proofs.NumberLaws.{live_from}
use Rattle.over_eval.proofs.live_numbers.live.Given as goal

abbrev pub invariant-loop-number : goal.invariant-loop-number
invariant-loop-number g l = l.numbers.items ++ live_from l.task l.number (drop l.number (trees_of l.graph.nodes)) ≡ live_from l.task 0 (trees_of l.graph.nodes)

use Rattle.std.proofs.Common.{◌≡◌, ◌++◌, drop}
use Rattle.std.specs.List.{flat_map, enumerate_from}
use Rattle.rank_core.specs.View.{ranked_queries}
use Rattle.skeleton_graph.specs.Nodes.{trees_of}
use Rattle.root_search.specs.Answers.{root_answers}
use Rattle.plain_search.proofs.search.found.Given as goal

abbrev pub invariant-loop-number : goal.invariant-loop-number
invariant-loop-number g l =
    ranked_queries l.out ++ flat_map (root_answers l.task) (enumerate_from l.number (drop l.number (trees_of l.graph.nodes)))
    ≡ flat_map (root_answers l.task) (enumerate_from 0 (trees_of l.graph.nodes))

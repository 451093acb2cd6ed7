use Rattle.std.proofs.Common.{◌≡◌, ◌≤◌, length, take}
use Rattle.std.specs.List.{flat_map}
use Rattle.query_core.specs.Answers.{ascending, comes_before}
use Rattle.rank_core.specs.View.{ranked_queries}
use Rattle.skeleton_graph.specs.Nodes.{trees_of}
use Rattle.top_call.specs.Search.{answers_at}
use Rattle.top_call.proofs.search.found.Given as goal

abbrev pub invariant-loop-root : goal.invariant-loop-root
invariant-loop-root g l =
    (ascending comes_before (ranked_queries l.out) ≡ ascending comes_before (flat_map (answers_at l.plan.task (trees_of l.plan.graph.nodes)) (take l.root-index l.plan.roots)))
    × (length l.out.items ≤ l.parts.left)

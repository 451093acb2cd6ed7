use Rattle.std.proofs.Common.{◌≡◌, ◌+◌, length, take}
use Rattle.std.specs.List.{sum_by}
use Rattle.skeleton_graph.specs.Nodes.{trees_of}
use Rattle.top_call.specs.Search.{part_cost, AreKept, FilledAreKept}
use Rattle.top_call.proofs.search.fill_parts.Given as goal

abbrev pub invariant-loop-job : goal.invariant-loop-job
invariant-loop-job g l =
    AreKept l.plan l.parts.rows.items
    × (length l.parts.rows.items ≡ length l.plan.graph.nodes)
    × FilledAreKept (take l.job-index l.plan.jobs) l.parts.rows.items
    × (l.parts.left + sum_by (part_cost l.plan.task (trees_of l.plan.graph.nodes)) (take l.job-index l.plan.jobs) ≡ l.plan.task.budget)

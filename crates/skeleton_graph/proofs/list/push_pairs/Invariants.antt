use Rattle.std.proofs.Common.{◌≡◌, ◌++◌, ◌-◌, length}
use Rattle.std.specs.List.{flat_map, range_with_len}
use Rattle.skeleton_graph.specs.Seen.{pairs_at, pairs_on}
use Rattle.skeleton_graph.specs.View.{see_levels}
use Rattle.skeleton_graph.proofs.list.push_pairs.Given as goal

abbrev pub invariant-loop-number : goal.invariant-loop-number
invariant-loop-number l =
    l.out.items ++ flat_map (pairs_at l.ground.task.now l.how (see_levels l.levels)) (range_with_len l.number (length l.levels - l.number))
    ≡ l.initial.out.items ++ pairs_on l.ground.task.now l.how (see_levels l.levels)

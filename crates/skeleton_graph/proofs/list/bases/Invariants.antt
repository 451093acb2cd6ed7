use Rattle.std.proofs.Common.{◌≡◌, ◌++◌, ◌-◌, map, length}
use Rattle.std.specs.List.{range_with_len}
use Rattle.skeleton_graph.specs.Seen.{base_part, base_parts}
use Rattle.skeleton_graph.proofs.list.bases.Given as goal

abbrev pub invariant-loop-table : goal.invariant-loop-table
invariant-loop-table l =
    l.out.items ++ map (base_part l.task) (range_with_len l.table (length l.task.inputs - l.table)) ≡ base_parts l.task

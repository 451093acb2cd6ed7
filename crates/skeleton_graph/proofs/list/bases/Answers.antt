use Rattle.std.proofs.Common.{◌<◌, length, arith}
use Rattle.skeleton_graph.specs.Seen.{base_part}
use Rattle.skeleton_graph.proofs.ListLaws.{range_more_of}
use Rattle.skeleton_graph.proofs.list.bases.Goals as goal

pub loop-table-preserved : goal.loop-table-preserved
loop-table-preserved c =
    let below : c.loop-table.table < length c.args.task.now.inputs = omega (arith, c.len-table-end.ensures) in
    range_more_of (base_part c.args.task.now) c.loop-table.out.items c.push_base.new.out.items _ c.loop-table.table (length c.args.task.now.inputs) below c.in_ok-push_base.ensures c.loop-table.invariant

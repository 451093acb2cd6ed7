use Rattle.std.proofs.Common.{◌+◌, drop, arith}
use Rattle.std.specs.List.{flat_map}
use Rattle.std.proofs.lemmas.Result.{err_from_is_err_and}
use Rattle.skeleton_graph.specs.Seen.{groups_on}
use Rattle.skeleton_graph.specs.View.{see, sees}
use Rattle.skeleton_graph.proofs.ListLaws.{stops, loop_part}
use Rattle.skeleton_graph.proofs.list.push_all_groups.Goals as goal

pub returns-in_err-push_groups : goal.returns-in_err-push_groups
returns-in_err-push_groups c =
    let p = err_from_is_err_and c.from_residual.result c.from_residual.ensures.1 in
    let out = c.loop-child.out.items in
    let whole = flat_map (groups_on c.args.ground.now.task.now) (sees c.args.last.now) in
    let rest = flat_map (groups_on c.args.ground.now.task.now) (sees (drop (c.loop-child.child-index + 1) c.args.last.now)) in
    let same = loop_part (groups_on c.args.ground.now.task.now) see out _ c.args.last.now c.loop-child.child-index c.child-item.result c.child-item.result (omega arith) c.child-item.is c.loop-child.invariant in
    rw (p.1, p.2) (stops c.args.ground.now.room c.args.out.now.items whole out c.push_groups.new.out.items ((groups_on c.args.ground.now.task.now) (see c.child-item.result)) rest c.in_err-push_groups.field-0.0 same c.in_err-push_groups.ensures)

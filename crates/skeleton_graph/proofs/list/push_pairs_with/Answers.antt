use Rattle.std.proofs.Common.{◌+◌, drop, arith}
use Rattle.std.specs.List.{flat_map}
use Rattle.std.proofs.lemmas.Result.{err_from_is_err_and}
use Rattle.skeleton_graph.specs.Seen.{pair_on}
use Rattle.skeleton_graph.specs.View.{see, sees}
use Rattle.skeleton_graph.proofs.ListLaws.{stops, loop_part}
use Rattle.skeleton_graph.proofs.list.push_pairs_with.Goals as goal

pub returns-in_err-push_pair : goal.returns-in_err-push_pair
returns-in_err-push_pair c =
    let p = err_from_is_err_and c.from_residual.result c.from_residual.ensures.1 in
    let out = c.loop-b.out.items in
    let whole = flat_map (pair_on c.args.ground.now.task.now c.args.how (see c.args.a.now)) (sees c.args.rights.now) in
    let rest = flat_map (pair_on c.args.ground.now.task.now c.args.how (see c.args.a.now)) (sees (drop (c.loop-b.b-index + 1) c.args.rights.now)) in
    let same = loop_part (pair_on c.args.ground.now.task.now c.args.how (see c.args.a.now)) see out _ c.args.rights.now c.loop-b.b-index c.b-item.result c.b-item.result (omega arith) c.b-item.is c.loop-b.invariant in
    rw (p.1, p.2) (stops c.args.ground.now.room c.args.out.now.items whole out c.push_pair.new.out.items ((pair_on c.args.ground.now.task.now c.args.how (see c.args.a.now)) (see c.b-item.result)) rest c.in_err-push_pair.field-0.0 same c.in_err-push_pair.ensures)

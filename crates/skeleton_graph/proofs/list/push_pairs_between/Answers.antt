use Rattle.std.proofs.Common.{◌+◌, drop, arith}
use Rattle.std.specs.List.{flat_map}
use Rattle.std.proofs.lemmas.Result.{err_from_is_err_and}
use Rattle.skeleton_graph.specs.Seen.{pair_on, pairs_between}
use Rattle.skeleton_graph.specs.View.{see, sees}
use Rattle.skeleton_graph.proofs.ListLaws.{stops, loop_part}
use Rattle.skeleton_graph.proofs.list.push_pairs_between.Goals as goal

pub returns-in_err-push_pairs_with : goal.returns-in_err-push_pairs_with
returns-in_err-push_pairs_with c =
    let p = err_from_is_err_and c.from_residual.result c.from_residual.ensures.1 in
    let out = c.loop-a.out.items in
    let whole = pairs_between c.args.ground.now.task.now c.args.how (sees c.args.lefts.now) (sees c.args.rights.now) in
    let rest = flat_map (λ a. flat_map (pair_on c.args.ground.now.task.now c.args.how a) (sees c.args.rights.now)) (sees (drop (c.loop-a.a-index + 1) c.args.lefts.now)) in
    let same = loop_part (λ a. flat_map (pair_on c.args.ground.now.task.now c.args.how a) (sees c.args.rights.now)) see out _ c.args.lefts.now c.loop-a.a-index c.a-item.result c.a-item.result (omega arith) c.a-item.is c.loop-a.invariant in
    rw (p.1, p.2) (stops c.args.ground.now.room c.args.out.now.items whole out c.push_pairs_with.new.out.items (flat_map (pair_on c.args.ground.now.task.now c.args.how (see c.a-item.result)) (sees c.args.rights.now)) rest c.in_err-push_pairs_with.field-0.0 same c.in_err-push_pairs_with.ensures)

use Rattle.std.proofs.Common.{◌+◌, drop, arith, ◌∙◌}
use Rattle.std.specs.List.{flat_map}
use Rattle.std.proofs.lemmas.Result.{err_from_is_err_and}
use Rattle.skeleton_graph.specs.Seen.{keyed_on}
use Rattle.skeleton_graph.specs.View.{see}
use Rattle.skeleton_graph.proofs.ListLaws.{stops, plain_loop_part}
use Rattle.skeleton_graph.proofs.list.push_keyed_by.Goals as goal

pub returns-in_err-push_keyed : goal.returns-in_err-push_keyed
returns-in_err-push_keyed c =
    let p = err_from_is_err_and c.from_residual.result c.from_residual.ensures.1 in
    let out = c.loop-keys.out.items in
    let whole = flat_map (keyed_on c.args.ground.now.task.now (see c.args.child.now)) c.args.lists.now in
    let rest = flat_map (keyed_on c.args.ground.now.task.now (see c.args.child.now)) (drop (c.loop-keys.keys-index + 1) c.args.lists.now) in
    let same = plain_loop_part (keyed_on c.args.ground.now.task.now (see c.args.child.now)) out _ c.args.lists.now c.loop-keys.keys-index c.as_slice.result.now c.keys-item.result (omega arith) (c.as_slice.ensures ∙ c.keys-item.is) c.loop-keys.invariant in
    rw (p.1, p.2) (stops c.args.ground.now.room c.args.out.now.items whole out c.push_keyed.new.out.items ((keyed_on c.args.ground.now.task.now (see c.args.child.now)) c.as_slice.result.now) rest c.in_err-push_keyed.field-0.0 same c.in_err-push_keyed.ensures)

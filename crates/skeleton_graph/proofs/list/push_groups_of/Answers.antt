use Rattle.std.proofs.Common.{◌+◌, ◌∷◌, [], map, drop, get_or, arith, refl}
use Rattle.std.proofs.lemmas.Result.{err_from_is_err_and}
use Rattle.query_core.specs.declared.agg.Agg.TheVariants.{CountAll}
use Rattle.skeleton_graph.specs.Seen.{group_on}
use Rattle.skeleton_graph.specs.View.{see}
use Rattle.skeleton_graph.proofs.ListLaws.{stops, map_loop_part}
use Rattle.skeleton_graph.proofs.list.push_groups_of.Goals as goal

pub returns-in_err-push_group : goal.returns-in_err-push_group
returns-in_err-push_group c =
    let p = err_from_is_err_and c.from_residual.result c.from_residual.ensures.1 in
    let group = group_on (see c.args.child.now) c.args.keys.now in
    let out = c.loop-agg.out.items in
    let agg = get_or c.args.aggs.now c.loop-agg.agg-index CountAll in
    let rest = map group (drop (c.loop-agg.agg-index + 1) c.args.aggs.now) in
    rw (p.1, p.2) (stops c.args.ground.now.room c.args.out.now.items (map group c.args.aggs.now) out c.push_group.new.out.items (group agg ∷ []) rest c.in_err-push_group.field-0.0 (map_loop_part group out _ c.args.aggs.now c.loop-agg.agg-index agg CountAll (omega arith) refl c.loop-agg.invariant) c.in_err-push_group.ensures)

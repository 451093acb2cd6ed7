use Rattle.std.proofs.Common.{sym, ap}
use Rattle.std.specs.Prelude.{unwrap_or}
use Rattle.query_core.specs.Tree as t
use Rattle.query_core.specs.View.{tree}
use Rattle.over_eval.proofs.KeptLaws.{parts_kept}
use Rattle.over_eval.proofs.live_numbers.part_to_keep.Goals as goal

pub over_kept-requires : goal.over_kept-requires
over_kept-requires c =
    let graph = c.args.graph.now in
    parts_kept c.args.task.now graph.nodes graph.types c.args.kept.now c.args.number c.node-node.result.now (tree c.in_ok-skeleton.skeleton) _ _
    c.is_ordered.ensures c.children_are_used.ensures.lefts c.children_are_used.ensures.rights c.requires.kept c.requires.below c.node-node.ensures
    (ap (λ o. unwrap_or o (t.base 0)) (sym c.in_ok-skeleton.ensures)) c.kept_below.ensures.left c.kept_below.ensures.right

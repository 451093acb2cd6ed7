use Rattle.std.proofs.Common.{sym, ap, arith}
use Rattle.std.specs.Prelude.{unwrap_or}
use Rattle.query_core.specs.Tree as t
use Rattle.query_core.specs.View.{tree}
use Rattle.over_eval.proofs.KeptLaws.{parts_kept}
use Rattle.over_eval.proofs.live_numbers.is_live_at.Goals as goal

pub is_live_over-requires-clause-below : goal.is_live_over-requires-clause-below
is_live_over-requires-clause-below c =
    let graph = c.args.graph.now in
    parts_kept c.args.task.now graph.nodes graph.types c.args.kept.now c.args.number c.node-node.result.now (tree c.in_ok-skeleton.skeleton) _ _
    c.is_ordered.ensures c.children_are_used.ensures.lefts c.children_are_used.ensures.rights c.requires.kept (omega (arith, c.requires.there)) c.node-node.ensures
    (ap (λ o. unwrap_or o (t.base 0)) (sym c.in_ok-skeleton.ensures)) c.kept_below.ensures.left c.kept_below.ensures.right

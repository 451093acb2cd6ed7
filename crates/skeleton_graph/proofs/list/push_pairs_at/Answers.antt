use Rattle.std.proofs.Common.{◌≡◌, length, sym}
use Rattle.std.proofs.lemmas.List.{length-map}
use Rattle.skeleton_graph.specs.Seen.{pairs_between, pairs_at}
use Rattle.skeleton_graph.specs.View.{sees, see_levels}
use Rattle.skeleton_graph.proofs.ListLaws.{pairs_at_is}
use Rattle.skeleton_graph.proofs.list.push_pairs_at.Goals as goal

pub returns : goal.returns
returns c =
    let levels = see_levels c.args.levels.now in
    let same : pairs_between c.args.ground.now.task.now c.args.how (sees c.level-lefts.result.now) (sees c.level-rights.result.now) ≡ pairs_at c.args.ground.now.task.now c.args.how levels c.args.number =
    pairs_at_is c.args.ground.now.task.now c.args.how levels c.args.number (length c.args.levels.now) _ _ (sym (length-map c.args.levels.now sees)) c.level-lefts.ensures c.level-rights.ensures in
    rw (← same) c.push_pairs_between.ensures

use Rattle.std.proofs.Common.{◌≡◌, ◌+◌, ◌++◌, drop, arith, ◌∙◌}
use Rattle.skeleton_graph.specs.Seen.{all_of}
use Rattle.skeleton_graph.proofs.LinkLaws.{level_part, level_linked, level_typed, level_counted}
use Rattle.skeleton_graph.proofs.links.link_all.Goals as goal

pub loop-level-preserved : goal.loop-level-preserved
loop-level-preserved c =
    let level = c.as_slice.result.now in
    let levels = c.args.levels.now in
    let i = c.loop-level.level-index in
    let rest = all_of (drop (i + 1) levels) in
    let all : all_of (drop i levels) ≡ level ++ rest = level_part levels i level c.level-item.result (omega arith) (c.as_slice.ensures ∙ c.level-item.is) in (
      level_linked _ _ _ level rest _ all c.in_ok-push_level.ensures.nodes c.loop-level.invariant.0,
      level_typed _ _ _ level rest _ all c.in_ok-push_level.ensures.types c.loop-level.invariant.1,
      level_counted _ _ _ level rest _ all c.in_ok-push_level.ensures.count c.loop-level.invariant.2,
    )

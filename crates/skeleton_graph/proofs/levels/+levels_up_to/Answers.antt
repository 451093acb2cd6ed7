use Rattle.skeleton_graph.proofs.PlacedLaws.{level_up}
use Rattle.skeleton_graph.proofs.levels.+levels_up_to.Goals as goal

pub returns-clause-listed : goal.returns-clause-listed
returns-clause-listed t c = rw (level_up c.args.task.now c.args.ops c.in_ok-below.below c.if-ops-eq0.false c.in_ok-below.ensures.listed) at c.add_level.ensures.with

use Rattle.skeleton_graph.proofs.levels.+levels_up_to.Given as goal

abbrev pub decreases-levels_up_to : goal.decreases-levels_up_to
decreases-levels_up_to l = l.ops

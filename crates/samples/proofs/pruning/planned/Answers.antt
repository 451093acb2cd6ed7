use Rattle.top_call.proofs.NeedLaws.{live_ascend, live_within}
use Rattle.samples.proofs.pruning.planned.Goals as goal

pub new-requires-clause-ascend : goal.new-requires-clause-ascend
new-requires-clause-ascend g c = live_ascend c.args.task.now c.in_ok-roots.roots.items c.in_ok-roots.ensures

pub new-requires-clause-within : goal.new-requires-clause-within
new-requires-clause-within g c = live_within c.args.task.now c.args.graph.nodes c.in_ok-roots.roots.items c.requires c.in_ok-roots.ensures

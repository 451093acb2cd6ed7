use Rattle.std.proofs.Common.{◌≡◌, ◌+◌, ◌++◌, drop}
use Rattle.std.specs.List.{flat_map}
use Rattle.fill_core.specs.Sites.{unary_filled}
use Rattle.fill_core.proofs.over.Over.walk.Given as goal

abbrev pub invariant-loop-child : goal.invariant-loop-child
invariant-loop-child g l =
    (g.R.Receiver.held l.receiver l.store ++ flat_map (g.R.Receiver.gives l.receiver) (flat_map (unary_filled l.self.task.now l.self.op.now l.self.child.now) (drop l.child-index l.children))
    ≡ g.R.Receiver.held l.receiver l.initial.store ++ flat_map (g.R.Receiver.gives l.receiver) (flat_map (unary_filled l.self.task.now l.self.op.now l.self.child.now) l.children))
    × g.R.Receiver.keeps l.receiver l.store
    × (l.steps ≡ l.initial.steps + l.child-index)

use Rattle.std.proofs.Common.{◌≡◌, ◌+◌, ◌++◌, drop}
use Rattle.std.specs.List.{flat_map}
use Rattle.fill_core.specs.Sites.{binary_filled}
use Rattle.fill_core.proofs.between.Between.walk_rights.Given as goal

abbrev pub invariant-loop-right : goal.invariant-loop-right
invariant-loop-right g l =
    (g.R.Receiver.held l.receiver l.store ++ flat_map (g.R.Receiver.gives l.receiver) (flat_map (binary_filled l.self.task.now l.self.op l.self.left.now l.self.right.now l.side.left.now) (drop l.right-index l.right-items))
    ≡ g.R.Receiver.held l.receiver l.initial.store ++ flat_map (g.R.Receiver.gives l.receiver) (flat_map (binary_filled l.self.task.now l.self.op l.self.left.now l.self.right.now l.side.left.now) l.right-items))
    × g.R.Receiver.keeps l.receiver l.store
    × (l.steps ≡ l.initial.steps + l.right-index)

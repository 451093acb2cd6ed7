use Rattle.std.proofs.Common.{◌≡◌, ◌+◌, ◌*◌, ◌++◌, drop, length}
use Rattle.std.specs.List.{flat_map}
use Rattle.fill_core.specs.Sites.{binary_with}
use Rattle.fill_core.proofs.between.Between.walk.Given as goal

abbrev pub invariant-loop-left : goal.invariant-loop-left
invariant-loop-left g l =
    (g.R.Receiver.held l.receiver l.store ++ flat_map (g.R.Receiver.gives l.receiver) (flat_map (binary_with l.self.task.now l.self.op l.self.left.now l.self.right.now l.sides.rights.now) (drop l.left-index l.left-items))
    ≡ g.R.Receiver.held l.receiver l.initial.store ++ flat_map (g.R.Receiver.gives l.receiver) (flat_map (binary_with l.self.task.now l.self.op l.self.left.now l.self.right.now l.sides.rights.now) l.left-items))
    × g.R.Receiver.keeps l.receiver l.store
    × (l.steps ≡ l.initial.steps + l.left-index * length l.sides.rights.now)

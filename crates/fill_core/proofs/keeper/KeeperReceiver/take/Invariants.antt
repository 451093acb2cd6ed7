use Rattle.std.proofs.Common.{◌≡◌, ◌++◌, drop}
use Rattle.fill_core.specs.Offers.{filled_by_all}
use Rattle.fill_core.specs.Bounds.{Leaves}
use Rattle.fill_core.specs.View.{entries_filled, entries_weight}
use Rattle.fill_core.proofs.keeper.KeeperReceiver.take.Given as goal

abbrev pub invariant-loop-choice : goal.invariant-loop-choice
invariant-loop-choice l =
    (entries_filled l.offer.types.now l.store.entries.items ++ filled_by_all l.offer.types.now l.offer.preds.now l.offer.candidates.now (drop l.choice-index l.choice-items)
    ≡ entries_filled l.offer.types.now l.initial.store.entries.items ++ filled_by_all l.offer.types.now l.offer.preds.now l.offer.candidates.now l.choice-items)
    × Leaves l.self.bound l.store.left (entries_weight l.store.entries.items)

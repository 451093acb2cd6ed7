use Rattle.std.proofs.Common.{◌≡◌, ◌++◌, drop, length}
use Rattle.std.specs.List.{flat_map}
use Rattle.query_core.specs.View.{tree}
use Rattle.rank_core.specs.View.{ranked_queries}
use Rattle.fill_core.specs.Bounds.{IsWithin}
use Rattle.root_search.specs.Reads.{choice_answers}
use Rattle.root_search.proofs.finder.RootReceiver.take.Given as goal

abbrev pub invariant-loop-choice : goal.invariant-loop-choice
invariant-loop-choice l =
    (ranked_queries l.store ++ flat_map (choice_answers l.self.task.now l.self.number (tree l.self.skeleton.now) l.offer.preds.now l.readings) (drop l.choice-index l.choice-items)
    ≡ ranked_queries l.initial.store ++ flat_map (choice_answers l.self.task.now l.self.number (tree l.self.skeleton.now) l.offer.preds.now l.readings) l.choice-items)
    × IsWithin l.self.bound (length l.store.items)

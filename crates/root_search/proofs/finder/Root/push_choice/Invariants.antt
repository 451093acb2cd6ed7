use Rattle.std.proofs.Common.{◌≡◌, ◌++◌, drop, length}
use Rattle.std.specs.List.{flat_map}
use Rattle.query_core.specs.View.{tree}
use Rattle.rank_core.specs.View.{ranked_queries}
use Rattle.fill_core.specs.Bounds.{IsWithin}
use Rattle.root_search.specs.Reads.{read_answers}
use Rattle.root_search.proofs.finder.Root.push_choice.Given as goal

abbrev pub invariant-loop-reading : goal.invariant-loop-reading
invariant-loop-reading l =
    (ranked_queries l.out ++ flat_map (read_answers l.self.task.now l.self.number (tree l.self.skeleton.now) l.reads.offer.now.preds.now l.reads.choice.now) (drop l.reading-index l.reading-items)
    ≡ ranked_queries l.initial.out ++ flat_map (read_answers l.self.task.now l.self.number (tree l.self.skeleton.now) l.reads.offer.now.preds.now l.reads.choice.now) l.reading-items)
    × IsWithin l.self.bound (length l.out.items)

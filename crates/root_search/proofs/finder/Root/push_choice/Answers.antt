use Rattle.std.proofs.Common.{rules}
use Rattle.query_core.specs.View.{tree}
use Rattle.rank_core.specs.View.{ranked_queries}
use Rattle.root_search.specs.Reads.{read_answers}
use Rattle.root_search.proofs.ManyLaws.{too_many_at}
use Rattle.root_search.proofs.finder.Root.push_choice.Goals as goal

pub returns-in_err-push_both-clause-heavy : goal.returns-in_err-push_both-clause-heavy
returns-in_err-push_both-clause-heavy c is =
    let r = c.args.self.now in
    let reads = c.args.reads.now in
    too_many_at r.bound (read_answers r.task.now r.number (tree r.skeleton.now) reads.offer.now.preds.now reads.choice.now) (ranked_queries c.loop-reading.out) (ranked_queries c.args.out.now) reads.readings.now c.loop-reading.reading-index c.reading-item.result
    c.loop-reading-test.true c.reading-item.is c.loop-reading.invariant.0 (c.push_both.ensures.heavy (search (rules, is, c.from_residual.ensures, c.in_err-push_both.was, c.branch-push_both.ensures, c.in_err-push_both.is)))

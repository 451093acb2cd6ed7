use Rattle.std.proofs.Common.{rules}
use Rattle.rank_core.specs.View.{ranked_queries}
use Rattle.root_search.proofs.ManyLaws.{too_many_before, too_many_more}
use Rattle.root_search.proofs.finder.Root.push_both.Goals as goal

pub returns-in_err-push_answer-clause-heavy : goal.returns-in_err-push_answer-clause-heavy
returns-in_err-push_answer-clause-heavy c is = too_many_more c.args.self.now.bound (ranked_queries c.args.out.now) _ _ (c.push_answer.ensures.heavy (search (rules, is, c.from_residual.ensures, c.in_err-push_answer.was, c.branch-push_answer.ensures, c.in_err-push_answer.is)))

pub returns-clause-heavy : goal.returns-clause-heavy
returns-clause-heavy c is = too_many_before c.args.self.now.bound (ranked_queries c.args.out.now) _ _ _ c.in_ok-push_answer.ensures.found (c.push_answer-2.ensures.heavy is)

use Rattle.query_core.specs.View.{tree}
use Rattle.rank_core.specs.View.{ranked_queries}
use Rattle.root_search.proofs.ManyLaws.{too_many_of}
use Rattle.root_search.proofs.finder.Root.push_answers.Goals as goal

pub returns-clause-heavy : goal.returns-clause-heavy
returns-clause-heavy g c is =
    let r = c.args.self.now in
    too_many_of r.bound r.task.now r.number (tree r.skeleton.now) (ranked_queries c.args.out.now) _ _ (c.site_of-site.ensures.filled r.task.now c.requires.parts) (c.walk.ensures.heavy is)

use Rattle.std.proofs.Common.{◌≡◌, ◌≤◌, refl, ap, subst, ◌∙◌, map, arith}
use Rattle.query_core.specs.Answers.{ascending, comes_before, answers}
use Rattle.rank_core.specs.View.{ranked_query}
use Rattle.fill_core.specs.Plans.{jobs_of}
use Rattle.over_eval.specs.Laws.{AnswersOfLive}
use Rattle.top_call.specs.Need.{need}
use Rattle.top_call.specs.Search.{plan_answers, plan_need}
use Rattle.top_call.proofs.NeedLaws.{live_ascend, live_within, plan_finds, need_is, ok_more}
use Rattle.top_call.proofs.listing.searched.Goals as goal

pub new-requires-clause-ascend : goal.new-requires-clause-ascend
new-requires-clause-ascend g c = live_ascend c.args.task.now c.in_ok-roots.roots.items c.in_ok-roots.ensures

pub new-requires-clause-within : goal.new-requires-clause-within
new-requires-clause-within g c = live_within c.args.task.now c.args.graph.nodes c.in_ok-roots.roots.items c.requires c.in_ok-roots.ensures

pub returns-clause-found : goal.returns-clause-found
returns-clause-found g c =
    let task = c.args.task.now in
    let live_law = subst AnswersOfLive c.parts.ensures.parts c.what_is_not_live_has_no_answer.ensures.live in
    let finds = ap plan_answers c.in_ok-plan.ensures ∙ plan_finds task c.args.graph.nodes c.in_ok-roots.roots.items c.requires c.in_ok-roots.ensures live_law in
    ok_more c.search.result (λ list. map ranked_query list.items ≡ ascending comes_before (plan_answers c.in_ok-plan.plan)) (λ list. map ranked_query list.items ≡ answers task)
    (λ list e. e ∙ ap (ascending comes_before) finds) c.search.ensures.found

pub returns-clause-within : goal.returns-clause-within
returns-clause-within g c =
    let task = c.args.task.now in
    let roots = c.in_ok-roots.roots.items in
    let nodes = c.args.graph.nodes in
    let live_law = subst AnswersOfLive c.parts.ensures.parts c.what_is_not_live_has_no_answer.ensures.live in
    let needs = ap plan_need c.in_ok-plan.ensures ∙ need_is task nodes roots (jobs_of nodes roots) c.requires c.in_ok-roots.ensures refl c.above_has_below.ensures live_law in
    let budget = ap (λ p. p.task.budget) c.in_ok-plan.ensures in
    ok_more c.search.result (λ list. plan_need c.in_ok-plan.plan ≤ c.in_ok-plan.plan.task.budget) (λ list. need task ≤ task.budget) (λ list le. omega (arith, needs, budget, le)) c.search.ensures.within

pub returns-clause-over : goal.returns-clause-over
returns-clause-over g c =
    let task = c.args.task.now in
    let roots = c.in_ok-roots.roots.items in
    let nodes = c.args.graph.nodes in
    let live_law = subst AnswersOfLive c.parts.ensures.parts c.what_is_not_live_has_no_answer.ensures.live in
    let needs = ap plan_need c.in_ok-plan.ensures ∙ need_is task nodes roots (jobs_of nodes roots) c.requires c.in_ok-roots.ensures refl c.above_has_below.ensures live_law in
    let budget = ap (λ p. p.task.budget) c.in_ok-plan.ensures in
    λ e. let less = c.search.ensures.over e in omega (arith, needs, budget, less)

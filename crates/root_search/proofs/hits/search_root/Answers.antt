use Rattle.std.proofs.Common.{ap, arith}
use Rattle.root_search.proofs.HitLaws.{sorted_size}
use Rattle.root_search.proofs.hits.search_root.Goals as goal

pub returns-clause-within : goal.returns-clause-within
returns-clause-within g c =
    let size = sorted_size c.push_answers.new.out.items c.sort.new.list.items c.in_ok-sort.ensures.sorted in
    let within = c.in_ok-push_answers.ensures.within in
    let budget = ap (λ p. p.budget) c.parts.ensures.parts in
    let task = ap (λ p. p.budget) c.task-task.ensures in
    omega (arith, size, within, budget, task)

use Rattle.std.proofs.Common.{◌≡◌, map, sym, ap, ◌∙◌}
use Rattle.std.specs.List.{flat_map, enumerate_from}
use Rattle.query_core.specs.Answers.{ascending, comes_before, found, ranked}
use Rattle.rank_core.specs.View.{ranked_query}
use Rattle.root_search.specs.Answers.{root_answers}
use Rattle.root_search.proofs.AnswerLaws.{answers_are}
use Rattle.plain_search.proofs.search.plain_over.Goals as goal

pub returns : goal.returns
returns c =
    let task = c.args.task.now in
    let all : map ranked_query c.in_ok-list.list.items ≡ map (ranked task) (found task) = c.in_ok-list.ensures ∙ ap (λ trees. flat_map (root_answers task) (enumerate_from 0 trees)) c.requires ∙ sym (answers_are task) in
    c.in_ok-sort.ensures.sorted ∙ ap (ascending comes_before) all

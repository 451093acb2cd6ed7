use Rattle.std.proofs.Common.{Bool, map, ap, ◌∙◌, rules}
use Rattle.std.specs.Cmp.{IsStrictWeakOrder}
use Rattle.std.proofs.lemmas.List.Sorted.{ranks_by, answers_always}
use Rattle.query_core.specs.Answers.{comes_before}
use Rattle.rank_core.specs.View.{ranked_query}
use Rattle.rank_core.specs.declared.ranked.Ranked.{Ranked}
use Rattle.query_core.proofs.KeyLaws.{key_order_total}
use Rattle.rank_core.proofs.SortLaws.{sorted_is_ascending, map_ascending}
use Rattle.rank_core.proofs.ranked.sort.Goals as goal

pub returns-clause-sorted : goal.returns-clause-sorted
returns-clause-sorted c =
    let first : Ranked → Ranked → Bool = λ a b. comes_before (ranked_query a) (ranked_query b) in
    let o : IsStrictWeakOrder first = ranks_by key_order_total (λ (r : Ranked). r.key) in
    let up = c.in_ok-sort_by.ensures.sorted first o (answers_always _ _ _ (λ f a r g h. search rules)) in
    let stable = c.sort_by.ensures.stable first o (answers_always _ _ _ (λ f a r g h. search rules)) in
    ap (map ranked_query) (sorted_is_ascending first o c.args.list.now.items c.sort_by.new.self.items up stable) ∙ map_ascending ranked_query comes_before c.args.list.now.items

use Rattle.std.proofs.Common.{◌≡◌, Bool, map, ap, ◌∙◌, rules}
use Rattle.std.specs.Cmp.{IsStrictWeakOrder}
use Rattle.std.proofs.lemmas.List.Sorted.{ranks_by}
use Rattle.query_core.specs.Answers.{comes_before}
use Rattle.query_core.proofs.KeyLaws.{key_order_total}
use Rattle.rank_core.specs.View.{ranked_query}
use Rattle.rank_core.specs.declared.ranked.Ranked.{Ranked}
use Rattle.itertools.specs.List.{merge_by}
use Rattle.rank_core.proofs.MergeLaws.{in_front, merged_is_ascending, queries_order}
use Rattle.rank_core.proofs.merging.merge_two.Goals as goal

pub returns : goal.returns
returns c =
    let first : Ranked → Ranked → Bool = λ a b. comes_before (ranked_query a) (ranked_query b) in
    let merged : c.in_ok-collect.field-0.items ≡ merge_by (in_front first) c.args.first.items c.args.second.items = search rules in
    let order : IsStrictWeakOrder first = ranks_by key_order_total (λ (r : Ranked). r.key) in
    ap (map ranked_query) merged ∙ merged_is_ascending ranked_query comes_before queries_order order c.args.first.items c.args.second.items c.requires.first c.requires.second

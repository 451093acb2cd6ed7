use Rattle.std.proofs.Common.{◌≡◌, ◌++◌, ◌/◌, IfOk, List, ap, ap₂, ◌∙◌, subst}
use Rattle.std.specs.List.{flat_map}
use Rattle.query_core.specs.Answers.{RankedQuery, ascending, comes_before}
use Rattle.rank_core.specs.View.{ranked_queries}
use Rattle.rank_core.proofs.MergeLaws.{ascending_parts, flat_map_parts, ordered_ascends, queries_order}
use Rattle.rank_core.proofs.merging.+merge.Goals as goal

pub merge_two-requires-clause-first : goal.merge_two-requires-clause-first
merge_two-requires-clause-first t c = ordered_ascends (ranked_queries c.in_ok-merge.field-0) (flat_map ranked_queries c.split_off.new.self.items) c.in_ok-merge.ensures

pub merge_two-requires-clause-second : goal.merge_two-requires-clause-second
merge_two-requires-clause-second t c = ordered_ascends (ranked_queries c.in_ok-merge-2.field-0) (flat_map ranked_queries c.in_ok-later.later.items) c.in_ok-merge-2.ensures

pub returns : goal.returns
returns t c =
    let lists = c.args.lists.items in
    let kept = c.split_off.new.self.items in
    let later = c.in_ok-later.later.items in
    let parts = flat_map_parts ranked_queries (c.len-half.result / 2) lists kept later c.in_ok-later.ensures.items c.in_ok-later.ensures.tail in
    let all : ascending comes_before (ranked_queries c.in_ok-merge.field-0 ++ ranked_queries c.in_ok-merge-2.field-0) ≡ ascending comes_before (flat_map ranked_queries lists) =
    ap₂ (λ us vs. ascending comes_before (us ++ vs)) c.in_ok-merge.ensures c.in_ok-merge-2.ensures
    ∙ ascending_parts comes_before queries_order (flat_map ranked_queries kept) (flat_map ranked_queries later)
    ∙ ap (ascending comes_before) parts
    in
    subst (λ (w : List RankedQuery). IfOk c.merge_two.result (λ out. ranked_queries out ≡ w)) all c.merge_two.ensures

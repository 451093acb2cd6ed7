use Rattle.std.proofs.Common.{◌≡◌, ◌<◌, ◌-◌, length, ap, ◌∙◌, arith}
use Rattle.std.specs.List.{range_with_len}
use Rattle.rayon.specs.Numbers.{nat_range}
use Rattle.rayon.proofs.ToStd.{nat_range-All}
use Rattle.skeleton_graph.specs.Nodes.{trees_of}
use Rattle.skeleton_graph.proofs.TreeLaws.{trees_size}
use Rattle.over_eval.specs.Kept.{AreKept}
use Rattle.over_eval.proofs.NumberLaws.{tested_are, said_where_ok}
use Rattle.over_eval.proofs.live_numbers.are_live.Goals as goal

pub collect-requires-clause-ready : goal.collect-requires-clause-ready
collect-requires-clause-ready g c κs within =
    let ends = c.into_par_iter.ensures in
    let nodes = c.args.graph.now.nodes in
    let kept = c.args.kept.now in
    let size = c.len.result in
    let inside = nat_range-All (λ i. (i < length nodes) × (i < length kept) × AreKept c.args.task.now nodes kept) 0 size
    (λ i low high. (omega (arith, high, c.len.ensures), omega (arith, high, c.len.ensures, c.requires.size), c.requires.kept)) in
    rw (c.map.ensures.base, c.map.ensures.f, c.with_min_len.ensures.base, ends.0, ends.1) (λ k d lt. (inside k d lt, λ y p. tt))

pub returns : goal.returns
returns g c =
    let ends = c.into_par_iter.ensures in
    let trees = trees_of c.args.graph.now.nodes in
    let size = c.len.result in
    let whole : size - 0 ≡ size = omega arith in
    let long : length trees ≡ size = omega (arith, trees_size c.args.graph.now.nodes, c.len.ensures) in
    let done = c.in_ok-collect.ensures in
    let chain = rw (c.map.ensures.base, c.map.ensures.f) at done.1 in
    let places = chain.1 ∙ ap (λ it. nat_range it.start it.end) c.with_min_len.ensures.base ∙ (λ i. nat_range (ends.0 i) (ends.1 i)) ∙ ap (range_with_len 0) whole in
    said_where_ok c.in_ok-collect.field-0 _ _ _ done.2 (λ said h. h.2 ∙ tested_are _ c.args.task.now trees size chain.0 done.0 h.0 long places h.1 chain.2)

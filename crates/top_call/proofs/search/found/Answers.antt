use Rattle.std.proofs.Common.{◌+◌, ◌≤◌, length, get_or, map, take, sym, ap, subst, ◌∙◌, arith}
use Rattle.std.specs.Prelude.{slice_get, Err}
use Rattle.std.specs.List.{flat_map}
use Rattle.std.proofs.lemmas.List.{length-map, map-append, take_all}
use Rattle.std.proofs.lemmas.Option.{slice_get-get_or}
use Rattle.predicate_core.proofs.OnceLists.{in_at}
use Rattle.query_core.specs.Answers.{ascending, comes_before}
use Rattle.rank_core.specs.View.{ranked_query, ranked_queries}
use Rattle.skeleton_graph.specs.Nodes.{trees_of}
use Rattle.top_call.specs.Search.{answers_at, AreKept, ChildrenKept}
use Rattle.top_call.proofs.SearchLaws.{root_children, found_more, found_few, found_one, only_heavy, same_size}
use Rattle.top_call.proofs.search.found.Goals as goal

pub found_at-requires-clause-kept : goal.found_at-requires-clause-kept
found_at-requires-clause-kept g c = subst (AreKept c.args.plan.now) (sym c.as_slice.ensures.value) c.requires.kept

pub found_at-requires-clause-children : goal.found_at-requires-clause-children
found_at-requires-clause-children g c =
    let p = c.args.plan.now in
    let i = c.loop-root.root-index in
    let root = get_or c.roots-root-items.result.now i 0 in
    let is = ap (λ rs. slice_get rs i) (sym c.roots-root-items.ensures) ∙ slice_get-get_or c.roots-root-items.result.now i 0 c.loop-root-test.true in
    subst (λ rows. ChildrenKept p.graph.nodes rows root) (sym c.as_slice.ensures.value)
    (root_children p.graph.nodes p.roots p.jobs c.args.parts.now.rows.items root c.is_planned.ensures.planned.listed c.is_planned.ensures.inner (in_at p.roots i root is) c.requires.all)

pub returns-in_err-hits-clause-over : goal.returns-in_err-hits-clause-over
returns-in_err-hits-clause-over g c =
    let p = c.args.plan.now in
    let i = c.loop-root.root-index in
    let root = get_or c.roots-root-items.result.now i 0 in
    let is = ap (λ rs. slice_get rs i) (sym c.roots-root-items.ensures) ∙ slice_get-get_or c.roots-root-items.result.now i 0 c.loop-root-test.true in
    let one = found_one (answers_at p.task (trees_of p.graph.nodes)) p.roots i root is in
    λ e.
    let given = rw e at c.from_residual.ensures in
    let heavy = only_heavy c.in_err-hits.field-0.0 (sym given.1) in
    let over = c.in_err-hits.ensures.heavy (ap Err heavy) in
    omega (arith, one, over, c.requires.left)

pub returns-then-parts-len-clause-over : goal.returns-then-parts-len-clause-over
returns-then-parts-len-clause-over g c =
    let p = c.args.plan.now in
    let i = c.loop-root.root-index in
    let f = answers_at p.task (trees_of p.graph.nodes) in
    let root = get_or c.roots-root-items.result.now i 0 in
    let is = ap (λ rs. slice_get rs i) (sym c.roots-root-items.ensures) ∙ slice_get-get_or c.roots-root-items.result.now i 0 c.loop-root-test.true in
    let pushed = ap (map ranked_query) c.in_ok-push_hits.ensures ∙ map-append ranked_query c.loop-root.out.items c.in_ok-hits.hits in
    let more = found_more f p.roots i root (ranked_queries c.loop-root.out) (map ranked_query c.in_ok-hits.hits) (ranked_queries c.push_hits.new.out) is c.loop-root.invariant.0 c.in_ok-hits.ensures.found pushed in
    let size = same_size (ranked_queries c.push_hits.new.out) (flat_map f (take (i + 1) p.roots)) more in
    let few = found_few f p.roots (i + 1) in
    let mapped = length-map c.push_hits.new.out.items ranked_query in
    λ e. omega (arith, size, few, mapped, c.len.ensures, c.if-parts-len.true)

pub loop-root-preserved : goal.loop-root-preserved
loop-root-preserved g c =
    let p = c.args.plan.now in
    let i = c.loop-root.root-index in
    let f = answers_at p.task (trees_of p.graph.nodes) in
    let root = get_or c.roots-root-items.result.now i 0 in
    let is = ap (λ rs. slice_get rs i) (sym c.roots-root-items.ensures) ∙ slice_get-get_or c.roots-root-items.result.now i 0 c.loop-root-test.true in
    let pushed = ap (map ranked_query) c.in_ok-push_hits.ensures ∙ map-append ranked_query c.loop-root.out.items c.in_ok-hits.hits in (
      found_more f p.roots i root (ranked_queries c.loop-root.out) (map ranked_query c.in_ok-hits.hits) (ranked_queries c.push_hits.new.out) is c.loop-root.invariant.0 c.in_ok-hits.ensures.found pushed,
      omega (arith, c.len.ensures, c.if-parts-len.false),
    )

pub returns-clause-room : goal.returns-clause-room
returns-clause-room g c =
    let p = c.args.plan.now in
    let i = c.loop-root.root-index in
    let f = answers_at p.task (trees_of p.graph.nodes) in
    let len = ap length c.roots-root-items.ensures in
    let past : length p.roots ≤ i = omega (arith, len, c.loop-root-test.false) in
    let size = same_size (ranked_queries c.loop-root.out) (flat_map f p.roots) (c.loop-root.invariant.0 ∙ ap (λ rs. ascending comes_before (flat_map f rs)) (take_all i p.roots past)) in
    let mapped = length-map c.loop-root.out.items ranked_query in
    omega (arith, size, mapped, c.loop-root.invariant.1)

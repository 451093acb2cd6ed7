use Rattle.std.proofs.Common.{arith, sym, ap, ◌∙◌}
use Rattle.std.specs.Prelude.{slice_get}
use Rattle.query_core.specs.View.{tree}
use Rattle.rank_core.specs.View.{ranked_queries}
use Rattle.skeleton_graph.specs.Nodes.{trees_of}
use Rattle.skeleton_graph.proofs.TreeLaws.{trees_size}
use Rattle.plain_search.proofs.FoundLaws.{found_all, found_more}
use Rattle.plain_search.proofs.search.found.Goals as goal

pub push_all-requires-clause-skeleton : goal.push_all-requires-clause-skeleton
push_all-requires-clause-skeleton g c = ap (λ trees. slice_get trees c.loop-number.number) (sym c.requires.trees) ∙ c.in_ok-skeleton.ensures

pub loop-number-preserved : goal.loop-number-preserved
loop-number-preserved g c =
    found_more c.args.task.now (trees_of c.args.graph.now.nodes) c.loop-number.number (tree c.in_ok-skeleton.skeleton) (ranked_queries c.loop-number.out) (ranked_queries c.push_all.new.out) _
    c.in_ok-skeleton.ensures c.loop-number.invariant c.in_ok-push_all.ensures

pub returns : goal.returns
returns g c =
    let nodes = c.args.graph.now.nodes in
    found_all c.args.task.now (trees_of nodes) c.loop-number.number (ranked_queries c.loop-number.out) _ (omega (arith, trees_size nodes, c.len-number-end.ensures, c.loop-number-test.false)) c.loop-number.invariant

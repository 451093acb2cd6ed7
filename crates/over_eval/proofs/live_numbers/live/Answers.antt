use Rattle.std.proofs.Common.{◌≡◌, ◌<◌, ◌++◌, ◌∷◌, [], Bool, length, ap, ◌∙◌, arith}
use Rattle.std.specs.Prelude.{if◌then◌else◌}
use Rattle.skeleton_graph.specs.Nodes.{tree_at, trees_of}
use Rattle.skeleton_graph.proofs.TreeLaws.{trees_size}
use Rattle.over_eval.specs.Live.{live}
use Rattle.over_eval.proofs.NumberLaws.{live_from, live_one, live_more, live_all, tree_there, live_read, live_long}
use Rattle.over_eval.proofs.live_numbers.live.Goals as goal

pub index-requires : goal.index-requires
index-requires g c =
    let trees = trees_of c.args.graph.now.nodes in
    omega (arith, c.loop-number-test.true, c.len-number-end.ensures, trees_size c.args.graph.now.nodes, live_long c.args.task.now trees c.in_ok-lives.lives.items c.in_ok-lives.ensures)

pub loop-number-preserved : goal.loop-number-preserved
loop-number-preserved g c =
    let task = c.args.task.now in
    let trees = trees_of c.args.graph.now.nodes in
    let number = c.loop-number.number in
    let numbers = c.loop-number.numbers.items in
    let tree = tree_at trees number in
    let within : number < length trees = omega (arith, c.loop-number-test.true, c.len-number-end.ensures, trees_size c.args.graph.now.nodes) in
    let wanted : c.index.result.now ≡ live task tree = c.index.ensures ∙ live_read task trees c.in_ok-lives.lives.items number _ within c.in_ok-lives.ensures in
    let pushed : c.push_if.new.numbers.items ≡ numbers ++ live_one task number tree =
    c.in_ok-push_if.ensures ∙ ap (λ (b : Bool). numbers ++ (if b then number ∷ [] else [])) wanted in
    live_more task trees number tree numbers c.push_if.new.numbers.items _ (tree_there trees number within) c.loop-number.invariant pushed

pub returns : goal.returns
returns g c =
    let task = c.args.task.now in
    let nodes = c.args.graph.now.nodes in
    live_all task (trees_of nodes) c.loop-number.number c.loop-number.numbers.items _ (omega (arith, trees_size nodes, c.len-number-end.ensures, c.loop-number-test.false)) c.loop-number.invariant
    ∙ ap (live_from task 0) c.requires

use Rattle.std.proofs.Common.{◌≤◌, Bool, true, false, length, ap, arith}
use Rattle.query_core.specs.Rank.{distinct_cost}
use Rattle.query_core.specs.View.{tree, select}
use Rattle.rank_core.proofs.LimitLaws.{small}
use Rattle.rank_core.proofs.SizeLaws.{costs_by_operators, numbers_by_operators}
use Rattle.rank_core.proofs.rank_key.key.Goals as goal

one_at_most : (distinct : Bool) → distinct_cost distinct ≤ 1
one_at_most true = omega arith
one_at_most false = omega arith

pub push_numbers-requires-clause-leaves : goal.push_numbers-requires-clause-leaves
push_numbers-requires-clause-leaves c =
    (small c.args.task.now (rw c.parts-task.ensures.parts at c.parts-task.ensures.within) (select c.args.query.now) c.requires.belongs).leaves

pub push_numbers-requires-clause-room : goal.push_numbers-requires-clause-room
push_numbers-requires-clause-room c =
    let few = (small c.args.task.now (rw c.parts-task.ensures.parts at c.parts-task.ensures.within) (select c.args.query.now) c.requires.belongs).operators in
    omega (arith, few, numbers_by_operators c.parts-task.result.now (tree c.args.query.now.body), ap length c.new-numbers.ensures)

pub tree_cost-requires : goal.tree_cost-requires
tree_cost-requires c =
    let few = (small c.args.task.now (rw c.parts-task.ensures.parts at c.parts-task.ensures.within) (select c.args.query.now) c.requires.belongs).operators in
    omega (arith, few, costs_by_operators (tree c.args.query.now.body))

pub overflow_add-result : goal.overflow_add-result
overflow_add-result c =
    let few = (small c.args.task.now (rw c.parts-task.ensures.parts at c.parts-task.ensures.within) (select c.args.query.now) c.requires.belongs).operators in
    omega (arith, few, costs_by_operators (tree c.args.query.now.body), one_at_most c.args.query.now.distinct, c.tree_cost.ensures, c.distinct_cost.ensures)

pub few_picks-requires : goal.few_picks-requires
few_picks-requires c =
    let few = (small c.args.task.now (rw c.parts-task.ensures.parts at c.parts-task.ensures.within) (select c.args.query.now) c.requires.belongs).picks in
    omega (arith, few, ap length c.as_slice.ensures)

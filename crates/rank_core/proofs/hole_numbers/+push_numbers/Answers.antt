use Rattle.std.proofs.Common.{◌≡◌, ℕ, length, refl, ap, ◌∙◌, arith}
use Rattle.std.proofs.lemmas.List.{append_assoc, length-append}
use Rattle.query_core.specs.View.{tree}
use Rattle.query_core.specs.Meaning.{columns}
use Rattle.query_core.specs.Rank.{pred_numbers}
use Rattle.query_core.specs.declared.node.Node.{Node}
use Rattle.query_core.proofs.TreeLaws.{tree_filter}
use Rattle.rank_core.proofs.NodeLaws.{pair_of, union_of, two_behind}
use Rattle.rank_core.proofs.SizeLaws.{parts_fit}
use Rattle.rank_core.proofs.hole_numbers.+push_numbers.Goals as goal

pub append-requires : goal.append-requires
append-requires t c =
    let pair = pair_of c.args.node.now c.in-Join.a c.in-Join.b c.in-Join.pred c.in-Join.is in
    let fits = parts_fit c.args.task.now c.requires.within (tree c.args.node.now) (tree c.in-Join.a) (tree c.in-Join.b) pair.0 c.in-Join.pred pair.1 c.requires.leaves c.requires.keys in
    let lefts : c.push_numbers-types-in-Join.result ≡ columns c.args.task.now.inputs (tree c.in-Join.a) = cc in
    let rights : c.as_slice-in-Join.result.now ≡ columns c.args.task.now.inputs (tree c.in-Join.b) = cc in
    rw (lefts, rights) fits

pub push-requires-in-Join : goal.push-requires-in-Join
push-requires-in-Join t c =
    let pair = pair_of c.args.node.now c.in-Join.a c.in-Join.b c.in-Join.pred c.in-Join.is in
    let count = λ (node : Node). length (pred_numbers c.args.task.now (tree node)) in
    let room = rw pair.1 at c.requires.room in
    let once = ap length c.push_numbers-types-in-Join.ensures.numbers in
    let twice = ap length c.push_numbers-rights.ensures.numbers in
    (omega arith, omega (arith, length-append {A = ℕ}, room, once, twice, ap count c.get-in-Join.ensures, ap count c.get-in-Join-2.ensures))

pub returns-in-Filter-clause-numbers : goal.returns-in-Filter-clause-numbers
returns-in-Filter-clause-numbers t c =
    let filter = ap tree c.in-Filter.is ∙ tree_filter c.in-Filter.child c.in-Filter.pred in
    rw (filter, c.push.ensures.items, c.push_numbers-types.ensures.numbers, append_assoc, c.hole_number.ensures, c.push_numbers-types.ensures.types, c.get.ensures) refl

pub returns-in-UnionAll-clause-numbers : goal.returns-in-UnionAll-clause-numbers
returns-in-UnionAll-clause-numbers t c =
    let union = union_of c.args.node.now c.in-UnionAll.a c.in-UnionAll.b c.in-UnionAll.is in
    rw (union.1, c.push_numbers.ensures.numbers, c.push_numbers-types-in-UnionAll.ensures.numbers, append_assoc, c.get-in-UnionAll.ensures, c.get-in-UnionAll-2.ensures) refl

pub returns-in-Join-clause-numbers : goal.returns-in-Join-clause-numbers
returns-in-Join-clause-numbers t c =
    let pair = pair_of c.args.node.now c.in-Join.a c.in-Join.b c.in-Join.pred c.in-Join.is in
    rw (pair.1, c.push-in-Join.ensures.items, c.push_numbers-rights.ensures.numbers, c.push_numbers-types-in-Join.ensures.numbers, two_behind, c.hole_number-in-Join.ensures, c.append.ensures, c.as_slice-in-Join.ensures.value, c.push_numbers-types-in-Join.ensures.types, c.push_numbers-rights.ensures.types, c.get-in-Join.ensures, c.get-in-Join-2.ensures) refl

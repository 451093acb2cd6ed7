use Rattle.query_core.specs.View.{tree, select}
use Rattle.bag_eval.proofs.StandardFormLaws.{form_is}
use Rattle.bag_eval.proofs.standard.form_of.Goals as goal

pub returns : goal.returns
returns c =
    let body = c.in_ok-standard_node.field-0 in
    let picks = c.in_ok-copied.field-0 in
    let of_picks = rw c.as_slice.ensures at c.in_ok-copied.ensures in
    form_is c.args.task.now (select c.args.query.now) c.args.found.now (tree body) picks c.removes_some.result c.requires c.in_ok-standard_node.ensures of_picks c.removes_some.ensures

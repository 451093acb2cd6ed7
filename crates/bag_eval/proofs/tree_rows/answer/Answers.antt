use Rattle.query_core.specs.View.{select}
use Rattle.bag_eval.proofs.TreeFitLaws.{answer_fits}
use Rattle.bag_eval.proofs.tree_rows.answer.Goals as goal

pub evaluated-requires : goal.evaluated-requires
evaluated-requires c =
    let typed = rw (c.as_slice-inputs.ensures, c.parts-task.ensures.parts) at c.inputs_fit.ensures in
    let fit = answer_fits c.args.task.now (select c.args.query.now) typed c.requires in
    rw (c.as_slice-4.ensures, c.in_ok-types-2.ensures, c.as_slice.ensures, c.as_slice-2.ensures, c.in_ok-types.ensures, c.in_ok-rows.ensures, c.as_slice-3.ensures, c.as_slice-inputs.ensures, c.parts-task.ensures.parts) fit

pub returns : goal.returns
returns c = rw (c.as_slice-4.ensures, c.in_ok-types-2.ensures, c.as_slice.ensures, c.as_slice-2.ensures, c.in_ok-types.ensures, c.in_ok-rows.ensures, c.as_slice-3.ensures, c.as_slice-inputs.ensures, c.parts-task.ensures.parts) at c.evaluated.ensures

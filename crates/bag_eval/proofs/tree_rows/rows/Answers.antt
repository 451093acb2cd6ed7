use Rattle.query_core.specs.View.{tree}
use Rattle.bag_eval.proofs.TreeFitLaws.{rows_fit_columns}
use Rattle.bag_eval.proofs.tree_rows.rows.Goals as goal

pub evaluated-requires : goal.evaluated-requires
evaluated-requires c =
    let typed = rw (c.as_slice-inputs.ensures, c.parts-task.ensures.parts) at c.inputs_fit.ensures in
    let fit = rows_fit_columns c.args.task.now (tree c.args.node.now) typed c.requires in
    rw (c.as_slice-2.ensures, c.in_ok-types.ensures, c.in_ok-rows.ensures, c.as_slice.ensures, c.as_slice-inputs.ensures, c.parts-task.ensures.parts) fit

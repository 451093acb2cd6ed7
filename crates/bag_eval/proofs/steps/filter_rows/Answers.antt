use Rattle.bag_eval.proofs.TreeFitLaws.{filter_fits}
use Rattle.bag_eval.proofs.steps.filter_rows.Goals as goal

pub result_table-requires : goal.result_table-requires
result_table-requires c =
    let fit = filter_fits c.args.child.now.columns c.tuples.result.now c.args.constants.now c.args.pred.now c.tuples.ensures.typed in
    rw (c.as_slice.ensures, c.in_ok-types.ensures, c.in_ok-rows.ensures) fit

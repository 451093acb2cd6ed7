use Rattle.bag_eval.proofs.TreeFitLaws.{join_fits}
use Rattle.bag_eval.proofs.steps.join_rows.Goals as goal

pub result_table-requires : goal.result_table-requires
result_table-requires c =
    let fit = join_fits c.args.left.now.columns c.args.right.now.columns c.tuples.result.now c.tuples-2.result.now c.args.constants.now c.args.pred.now c.tuples.ensures.typed c.tuples-2.ensures.typed in
    rw (c.as_slice.ensures, c.in_ok-types.ensures, c.in_ok-rows.ensures) fit

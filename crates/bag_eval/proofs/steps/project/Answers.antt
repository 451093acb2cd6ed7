use Rattle.bag_eval.proofs.TreeFitLaws.{projection_fits}
use Rattle.bag_eval.proofs.steps.project.Goals as goal

pub result_table-requires : goal.result_table-requires
result_table-requires c =
    let fit = projection_fits c.args.child.now.columns c.tuples.result.now c.args.picks.now c.args.distinct c.tuples.ensures.typed in
    rw (c.as_slice-2.ensures, c.in_ok-types-2.ensures, c.as_slice.ensures, c.in_ok-types.ensures, c.in_ok-rows.ensures) fit

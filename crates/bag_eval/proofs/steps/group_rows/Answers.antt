use Rattle.bag_eval.proofs.TreeFitLaws.{group_fits}
use Rattle.bag_eval.proofs.steps.group_rows.Goals as goal

pub evaluated-requires : goal.evaluated-requires
evaluated-requires c =
    let fit = group_fits c.args.child.now.columns c.tuples.result.now c.args.keys.now c.args.agg.now c.tuples.ensures.typed in
    rw (c.as_slice-2.ensures, c.in_ok-types-2.ensures, c.as_slice.ensures, c.in_ok-types.ensures, c.in_ok-rows.ensures) fit

use Rattle.std.proofs.lemmas.List.{length-map}
use Rattle.bag_eval.proofs.TreeFitLaws.{left_fits}
use Rattle.bag_eval.proofs.steps.left_rows.Goals as goal

pub result_table-requires : goal.result_table-requires
result_table-requires c =
    let columns = c.args.right.now.columns in
    let fit = left_fits c.args.left.now.columns columns c.tuples.result.now c.tuples-2.result.now c.args.constants.now c.args.pred.now c.tuples.ensures.typed c.tuples-2.ensures.typed in
    rw (c.as_slice.ensures, c.in_ok-types.ensures, c.in_ok-rows.ensures, c.columns-width.ensures) (rw length-map at fit)

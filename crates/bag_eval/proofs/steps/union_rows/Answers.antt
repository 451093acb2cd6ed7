use Rattle.bag_eval.specs.Results.{uniting}
use Rattle.bag_eval.proofs.TreeFitLaws.{unions_fit}
use Rattle.bag_eval.proofs.steps.union_rows.Goals as goal

pub result_table-requires : goal.result_table-requires
result_table-requires c =
    let fit = unions_fit c.args.left.now.columns c.args.right.now.columns c.tuples.result.now c.tuples-2.result.now (uniting c.args.all) c.tuples.ensures.typed c.tuples-2.ensures.typed c.requires in
    rw (c.as_slice.ensures, c.in_ok-types.ensures, c.in_ok-rows.ensures, c.uniting.ensures) fit

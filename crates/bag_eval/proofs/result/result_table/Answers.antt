use Rattle.bag_eval.proofs.FitLaws.{named_typed}
use Rattle.bag_eval.proofs.result.result_table.Goals as goal

pub with_rows-requires : goal.with_rows-requires
with_rows-requires c =
    let typed = named_typed c.args.types.now c.args.rows c.requires in
    rw (c.in_ok-columns.ensures, c.reverse.ensures.items, c.in_ok-tuples.ensures) typed

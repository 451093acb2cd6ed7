use Rattle.std.proofs.Common.{arith}
use Rattle.rank_core.proofs.LimitLaws.{limited}
use Rattle.rank_core.proofs.hole_numbers.input_types.Goals as goal

pub of_table-requires : goal.of_table-requires
of_table-requires c =
    let narrow = (limited c.args.task.now c.requires).inputs c.args.table in
    omega (arith, rw (← c.in-Some.ensures.value) at narrow)

use Rattle.std.proofs.Common.{arith}
use Rattle.std.proofs.lemmas.Grind.{common_steps}
use Rattle.std.proofs.lemmas.List.FromFn.{map-range_with_len_more}
use Rattle.map_walk.specs.Supply.{column_supplies}
use Rattle.map_walk.proofs.supply.supplies.Goals as goal

pub loop-at-preserved : goal.loop-at-preserved
loop-at-preserved g c =
    let next = map-range_with_len_more (column_supplies g.C.Candidate.has c.args.candidates.now c.args.output.now) 0 c.loop-at.at c.loop-at.at (omega arith) in
    grind (arith, common_steps)

use Rattle.std.proofs.Common.{ℕ, ap, arith}
use Rattle.std.proofs.lemmas.Grind.{common_steps}
use Rattle.std.proofs.lemmas.List.FromFn.{map-range_with_len_more}
use Rattle.map_walk.specs.Supply.{supply_of}
use Rattle.map_walk.proofs.supply.column_supplies.Goals as goal

pub loop-place-preserved : goal.loop-place-preserved
loop-place-preserved g c =
    let a = c.args in
    let has = g.C.Candidate.has in
    let place = c.loop-place.place in
    let next = map-range_with_len_more (λ (n : ℕ). supply_of has a.candidates.now a.output.now.rows n a.at) 0 place place (omega arith) in
    let rows = ap (λ rows. supply_of has a.candidates.now rows place a.at) c.tuples.ensures.rows in
    grind (arith, common_steps)

use Rattle.std.proofs.Common.{arith, length, sym, ap, ◌∙◌}
use Rattle.map_walk.specs.Supply.{supply_of}
use Rattle.map_walk.proofs.SupplyLaws.{told_there, told_outside, told_past}
use Rattle.map_walk.proofs.opening.SeenPart.supply.Goals as goal

pub returns : goal.returns
returns g c =
    let s = c.args.self.now in
    let table = s.output.now in
    let tell = supply_of g.C.Candidate.has s.part.now.rows.now table.rows in
    let size = ap length c.columns.ensures in
    let there = told_there tell (length table.columns) s.part.now.width c.args.at c.args.place (omega (arith, c.if-self-at.false)) (omega (arith, size, c.if-columns-place.false)) in
    c.supply_of.ensures ∙ ap (λ rows. supply_of g.C.Candidate.has s.part.now.rows.now rows c.args.place c.args.at) c.tuples.ensures.rows ∙ sym there

pub returns-then-self-at : goal.returns-then-self-at
returns-then-self-at g c =
    let s = c.args.self.now in
    let table = s.output.now in
    sym (told_outside (supply_of g.C.Candidate.has s.part.now.rows.now table.rows) (length table.columns) s.part.now.width c.args.at c.args.place c.if-self-at.true)

pub returns-then-columns-place : goal.returns-then-columns-place
returns-then-columns-place g c =
    let s = c.args.self.now in
    let table = s.output.now in
    let size = ap length c.columns.ensures in
    sym (told_past (supply_of g.C.Candidate.has s.part.now.rows.now table.rows) (length table.columns) s.part.now.width c.args.at c.args.place (omega (arith, size, c.if-columns-place.true)))

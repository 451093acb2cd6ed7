use Rattle.std.proofs.Common.{sym, ap, subst, ◌∙◌}
use Rattle.map_walk.specs.Walk.{Fits}
use Rattle.map_walk.specs.declared.target.Reading.{Reading}
use Rattle.map_walk.proofs.ReadingLaws.{started, not_started, readings_end}
use Rattle.map_walk.proofs.reading.readings.Goals as goal

pub returns-in_default : goal.returns-in_default
returns-in_default g c =
    let a = c.args in
    c.new-out.ensures ∙ sym (not_started g.C.Candidate.has a.types.now a.candidates.now a.output.now (sym c.in_ok-start.ensures ∙ c.in_default.is))

pub walk-requires-clause-fits : goal.walk-requires-clause-fits
walk-requires-clause-fits g c =
    let a = c.args in
    subst (Fits c.in-Some.start.targets) (sym c.as_slice.ensures) (started g.C.Candidate.has a.types.now a.candidates.now a.output.now c.in-Some.start (sym c.in_ok-start.ensures ∙ c.in-Some.is)).3

pub returns : goal.returns
returns g c =
    let a = c.args in
    let s = c.in-Some.start in
    readings_end g.C.Candidate.has a.types.now a.candidates.now a.output.now s c.new-out.result c.walk.new.out (record { picks = c.new.result; targets = s.targets }) c.as_slice.result.now
    (sym c.in_ok-start.ensures ∙ c.in-Some.is) c.new-out.ensures (ap (λ ps. let r : Reading = record { picks = ps; targets = s.targets } in r) c.new.ensures) c.as_slice.ensures c.in_ok-walk.ensures

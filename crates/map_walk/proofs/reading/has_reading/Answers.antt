use Rattle.std.proofs.Common.{◌≡◌, Bool, false, sym, subst, ◌∙◌, rules}
use Rattle.std.specs.Prelude.{IfOk}
use Rattle.map_walk.specs.Walk.{Fits}
use Rattle.map_walk.proofs.OpenLaws.{has_closed}
use Rattle.map_walk.proofs.ReadingLaws.{started, has_not_started, has_end}
use Rattle.map_walk.proofs.reading.has_reading.Goals as goal

pub returns-then-not-is_open : goal.returns-then-not-is_open
returns-then-not-is_open g c =
    let a = c.args in
    let shut : c.is_open.result ≡ false = search (rules, c.if-not-is_open.true) in
    sym (has_closed g.C.Candidate.has a.types.now a.candidates.now a.output.now (sym c.is_open.ensures ∙ shut))

pub returns-in_default : goal.returns-in_default
returns-in_default g c =
    let a = c.args in
    sym (has_not_started g.C.Candidate.has a.types.now a.candidates.now a.output.now (sym c.in_ok-start.ensures ∙ c.in_default.is))

pub goes_on-requires-clause-fits : goal.goes_on-requires-clause-fits
goes_on-requires-clause-fits g c =
    let a = c.args in
    let fits = (started g.C.Candidate.has a.types.now a.candidates.now a.output.now c.in-Some.start (sym c.in_ok-start.ensures ∙ c.in-Some.is)).3 in
    let columns = subst (Fits c.in-Some.start.targets) (sym c.as_slice.ensures) fits in
    subst (λ ts. Fits ts c.as_slice.result.now) (sym c.as_slice-2.ensures) columns

pub returns : goal.returns
returns g c =
    let a = c.args in
    let is = has_end g.C.Candidate.has a.types.now a.candidates.now a.output.now c.in-Some.start c.as_slice-2.result.now c.as_slice.result.now (sym c.in_ok-start.ensures ∙ c.in-Some.is) c.as_slice-2.ensures c.as_slice.ensures in
    let P : Bool → Type 0 = λ x. IfOk c.goes_on.result (λ b. b ≡ x) in
    subst P is c.goes_on.ensures

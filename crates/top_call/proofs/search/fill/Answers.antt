use Rattle.std.proofs.Common.{◌∷◌, [], set, sym, ap, subst, arith, Some}
use Rattle.fill_core.specs.Plans.{node_of}
use Rattle.fill_core.specs.declared.job.Job.{Job}
use Rattle.top_call.specs.Search.{AreKept, FilledAreKept}
use Rattle.top_call.proofs.SearchLaws.{put_is, put_still, put_kept, filled_inner}
use Rattle.top_call.proofs.search.fill.Goals as goal

pub filled-requires-clause-kept : goal.filled-requires-clause-kept
filled-requires-clause-kept g c = subst (AreKept c.args.plan.now) (sym c.as_slice.ensures.value) c.requires.kept

pub returns-clause-kept : goal.returns-clause-kept
returns-clause-kept g c = put_kept c.args.plan.now c.args.parts.now.rows.items c.in-Inner.number c.in_ok-row.row c.requires.kept c.in_ok-row.ensures.fits

pub returns-clause-still : goal.returns-clause-still
returns-clause-still g c = λ k was. put_still c.args.parts.now.rows.items c.in-Inner.number k c.in_ok-row.row was

pub returns-clause-filled : goal.returns-clause-filled
returns-clause-filled g c =
    let rows = c.args.parts.now.rows.items in
    let number = c.in-Inner.number in
    let row = c.in_ok-row.row in
    let here = ap node_of c.in-Inner.is in
    let Filled : Job → Type 0 = λ job. FilledAreKept (job ∷ []) (set rows number (Some row)) in
    subst Filled (sym c.in-Inner.is) (filled_inner (set rows number (Some row)) number (put_is rows number row (omega (arith, here, c.requires.node, c.requires.size))))

use Rattle.std.proofs.Common.{refl, sym, ap, subst, Ok, ◌∙◌}
use Rattle.std.specs.Prelude.{All}
use Rattle.std.specs.List.{flat_map}
use Rattle.std.proofs.lemmas.Result.{on_ok_weaker}
use Rattle.query_core.specs.Filled.{filled_filters}
use Rattle.fill_core.specs.Offers.{GivesNothing}
use Rattle.fill_core.proofs.OfferLaws.{no_filters}
use Rattle.fill_core.proofs.SiftLaws.{filters_alike, filters_accepted, filters_offered_wide, gathered_alike, too_much_alike, sifts_there, same_entry}
use Rattle.fill_core.proofs.over.hand_filters.Goals as goal

pub returns-in_default-clause-gathered : goal.returns-in_default-clause-gathered
returns-in_default-clause-gathered g c =
    let o = c.args.over.now in
    no_filters o.task.now (g.R.Receiver.gives c.args.receiver.now) (g.R.Receiver.held c.args.receiver.now c.args.store.now) o.child.now c.args.child.now.preds c.args.child.now.rows (subst (λ rows. GivesNothing (g.R.Receiver.gives c.args.receiver.now) o.child.now rows) c.as_slice-rows.ensures (c.look.ensures.nothing (c.in_ok-findings.was ∙ ap Ok c.in_default.is)))

pub take-requires-clause-wide : goal.take-requires-clause-wide
take-requires-clause-wide g c =
    let o = c.args.over.now in
    let r = c.args.receiver.now in
    let may = g.R.Receiver.may r c.in-Some.findings in
    let offered = c.as_slice-2.ensures.value ∙ c.in_ok-choices.ensures in
    filters_offered_wide o.task.now o.child.now c.as_slice.result.now c.as_slice-rows.result.now may c.as_slice-2.result.now offered

pub take-requires-clause-accepts : goal.take-requires-clause-accepts
take-requires-clause-accepts g c =
    let o = c.args.over.now in
    let r = c.args.receiver.now in
    let may = g.R.Receiver.may r c.in-Some.findings in
    let offered = c.as_slice-2.ensures.value ∙ c.in_ok-choices.ensures in
    let entry = same_entry o.child.now c.args.child.now c.as_slice.result.now c.as_slice-rows.result.now c.as_slice.ensures c.as_slice-rows.ensures in
    filters_accepted o.task.now o.child.now c.as_slice.result.now c.as_slice-rows.result.now may c.as_slice-2.result.now offered (g.R.Receiver.accepts r)
    (subst (λ f. All (g.R.Receiver.accepts r) (filled_filters o.task.now f)) (sym entry) c.requires.accepts)

pub returns-clause-gathered : goal.returns-clause-gathered
returns-clause-gathered g c =
    let o = c.args.over.now in
    let r = c.args.receiver.now in
    let may = g.R.Receiver.may r c.in-Some.findings in
    let offered = c.as_slice-2.ensures.value ∙ c.in_ok-choices.ensures in
    let entry = same_entry o.child.now c.args.child.now c.as_slice.result.now c.as_slice-rows.result.now c.as_slice.ensures c.as_slice-rows.ensures in
    let sifts = sifts_there (g.R.Receiver.gives r) o.child.now c.as_slice-rows.result.now c.as_slice-rows.result.now (g.R.Receiver.may r) c.in_ok-findings.field-0 c.in-Some.findings c.in_ok-findings.ensures.sifts c.in-Some.is refl in
    let same = filters_alike o.task.now o.child.now c.as_slice.result.now c.as_slice-rows.result.now may c.as_slice-2.result.now offered (g.R.Receiver.gives r) sifts ∙ ap (λ f. flat_map (g.R.Receiver.gives r) (filled_filters o.task.now f)) entry in
    on_ok_weaker c.take.result (gathered_alike (g.R.Receiver.held r) (g.R.Receiver.gives r) c.args.store.now c.take.new.store _ _ same) c.take.ensures.gathered

pub returns-clause-heavy : goal.returns-clause-heavy
returns-clause-heavy g c is =
    let o = c.args.over.now in
    let r = c.args.receiver.now in
    let may = g.R.Receiver.may r c.in-Some.findings in
    let offered = c.as_slice-2.ensures.value ∙ c.in_ok-choices.ensures in
    let entry = same_entry o.child.now c.args.child.now c.as_slice.result.now c.as_slice-rows.result.now c.as_slice.ensures c.as_slice-rows.ensures in
    let sifts = sifts_there (g.R.Receiver.gives r) o.child.now c.as_slice-rows.result.now c.as_slice-rows.result.now (g.R.Receiver.may r) c.in_ok-findings.field-0 c.in-Some.findings c.in_ok-findings.ensures.sifts c.in-Some.is refl in
    let same = filters_alike o.task.now o.child.now c.as_slice.result.now c.as_slice-rows.result.now may c.as_slice-2.result.now offered (g.R.Receiver.gives r) sifts ∙ ap (λ f. flat_map (g.R.Receiver.gives r) (filled_filters o.task.now f)) entry in
    too_much_alike (g.R.Receiver.bound r) (g.R.Receiver.weighs r) (g.R.Receiver.gives r) (g.R.Receiver.held r c.args.store.now) _ _ same (c.take.ensures.heavy is)

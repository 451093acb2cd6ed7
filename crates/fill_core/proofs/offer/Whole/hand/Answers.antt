use Rattle.std.proofs.Common.{Ok, ap, ◌∙◌, ◌∷◌, []}
use Rattle.std.proofs.lemmas.Result.{on_ok_weaker}
use Rattle.fill_core.specs.Offers.{filled_by_all}
use Rattle.fill_core.proofs.OfferLaws.{whole_is, all_of_one, accepted, gathered, no_whole}
use Rattle.fill_core.proofs.BoundLaws.{too_much_same}
use Rattle.fill_core.proofs.offer.Whole.hand.Goals as goal

pub take-requires-clause-accepts : goal.take-requires-clause-accepts
take-requires-clause-accepts g c =
    let w = c.args.self.now in
    let same = ap (λ ch. filled_by_all w.types.now w.preds.now w.rows.now (ch ∷ [])) c.in_ok-every.ensures ∙ whole_is w.types.now w.preds.now w.rows.now in
    accepted (g.R.Receiver.accepts c.args.receiver.now) _ _ same (all_of_one (g.R.Receiver.accepts c.args.receiver.now) _ c.requires.accepts)

pub returns-clause-gathered : goal.returns-clause-gathered
returns-clause-gathered g c =
    let w = c.args.self.now in
    let same = ap (λ ch. filled_by_all w.types.now w.preds.now w.rows.now (ch ∷ [])) c.in_ok-every.ensures ∙ whole_is w.types.now w.preds.now w.rows.now in
    on_ok_weaker c.take.result (gathered (g.R.Receiver.held c.args.receiver.now) (g.R.Receiver.gives c.args.receiver.now) c.args.store.now c.take.new.store _ _ same) c.take.ensures.gathered

pub returns-clause-heavy : goal.returns-clause-heavy
returns-clause-heavy g c is =
    let w = c.args.self.now in
    let same = ap (λ ch. filled_by_all w.types.now w.preds.now w.rows.now (ch ∷ [])) c.in_ok-every.ensures ∙ whole_is w.types.now w.preds.now w.rows.now in
    let r = c.args.receiver.now in
    too_much_same (g.R.Receiver.bound r) (g.R.Receiver.weighs r) (g.R.Receiver.gives r) (g.R.Receiver.held r c.args.store.now) _ _ same (c.take.ensures.heavy is)

pub returns-in_default-clause-gathered : goal.returns-in_default-clause-gathered
returns-in_default-clause-gathered g c =
    let w = c.args.self.now in
    no_whole (g.R.Receiver.gives c.args.receiver.now) (g.R.Receiver.held c.args.receiver.now c.args.store.now) w.types.now w.preds.now w.rows.now (c.look.ensures.nothing (c.in_ok-findings.was ∙ ap Ok c.in_default.is))

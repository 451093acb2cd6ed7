use Rattle.std.proofs.Common.{arith, rules}
use Rattle.fill_core.proofs.SiteLaws.{kept_all}
use Rattle.fill_core.proofs.WeightLaws.{kept_too_much}
use Rattle.fill_core.proofs.keeper.KeeperReceiver.take.Goals as goal

pub returns-clause-gathered : goal.returns-clause-gathered
returns-clause-gathered c =
    kept_all c.args.offer.now.types.now c.args.self.now.types.now c.args.offer.now.preds.now c.args.offer.now.candidates.now c.args.offer.now.choices.now c.args.store.now.entries.items c.loop-choice.store.entries.items c.loop-choice.choice-index
    c.requires.typed (omega (arith, c.loop-choice-test.false)) c.loop-choice.invariant.0

pub returns-in_err-push-clause-heavy : goal.returns-in_err-push-clause-heavy
returns-in_err-push-clause-heavy c is =
    let o = c.args.offer.now in
    kept_too_much o.types.now o.preds.now o.candidates.now c.args.self.now.bound c.loop-choice.store.left c.args.self.now.types.now o.choices.now c.args.store.now.entries.items c.loop-choice.store.entries.items c.loop-choice.choice-index c.choice-item.result c.in_ok-entry.field-0
    c.requires.typed c.loop-choice-test.true c.choice-item.is c.in_ok-entry.ensures c.loop-choice.invariant.0 c.loop-choice.invariant.1
    (c.push.ensures.heavy (search (rules, is, c.from_residual-in_err-push.ensures, c.in_err-push.was, c.branch-push.ensures, c.in_err-push.is)))

use Rattle.std.proofs.Common.{rules, subst, sym}
use Rattle.std.specs.Prelude.{All}
use Rattle.fill_core.specs.Sites.{unary_filled}
use Rattle.fill_core.proofs.OfferLaws.{all_at}
use Rattle.fill_core.proofs.BoundLaws.{too_much_at}
use Rattle.fill_core.proofs.over.Over.walk.Goals as goal

pub hand-requires-clause-accepts : goal.hand-requires-clause-accepts
hand-requires-clause-accepts g c =
    let accepts = g.R.Receiver.accepts c.args.receiver.now in
    let made = unary_filled c.args.self.now.task.now c.args.self.now.op.now c.args.self.now.child.now in
    subst (λ e. All accepts (made e)) (sym c.child-item.is) (all_at accepts made c.args.children.now c.loop-child.child-index c.child-item.result c.loop-child-test.true c.requires.accepts)

pub returns-in_err-hand-clause-heavy : goal.returns-in_err-hand-clause-heavy
returns-in_err-hand-clause-heavy g c is =
    let made = unary_filled c.args.self.now.task.now c.args.self.now.op.now c.args.self.now.child.now in
    let r = c.args.receiver.now in
    too_much_at (g.R.Receiver.bound r) (g.R.Receiver.weighs r) (g.R.Receiver.gives r) made (g.R.Receiver.held r c.loop-child.store) (g.R.Receiver.held r c.args.store.now) c.args.children.now c.loop-child.child-index c.child-item.result
    c.loop-child-test.true c.child-item.is c.loop-child.invariant.0 (c.hand.ensures.heavy (search (rules, is, c.from_residual.ensures, c.in_err-hand.was, c.branch-hand.ensures, c.in_err-hand.is)))

use Rattle.std.proofs.Common.{rules, subst, sym}
use Rattle.std.specs.Prelude.{All}
use Rattle.fill_core.specs.Sites.{binary_filled}
use Rattle.fill_core.proofs.OfferLaws.{all_at}
use Rattle.fill_core.proofs.BoundLaws.{too_much_at}
use Rattle.fill_core.proofs.between.Between.walk_rights.Goals as goal

pub hand-requires-clause-accepts : goal.hand-requires-clause-accepts
hand-requires-clause-accepts g c =
    let accepts = g.R.Receiver.accepts c.args.receiver.now in
    let made = binary_filled c.args.self.now.task.now c.args.self.now.op c.args.self.now.left.now c.args.self.now.right.now c.args.side.now.left.now in
    subst (λ e. All accepts (made e)) (sym c.right-item.is) (all_at accepts made c.args.side.now.rights.now c.loop-right.right-index c.right-item.result c.loop-right-test.true c.requires.accepts)

pub returns-in_err-hand-clause-heavy : goal.returns-in_err-hand-clause-heavy
returns-in_err-hand-clause-heavy g c is =
    let made = binary_filled c.args.self.now.task.now c.args.self.now.op c.args.self.now.left.now c.args.self.now.right.now c.args.side.now.left.now in
    let r = c.args.receiver.now in
    too_much_at (g.R.Receiver.bound r) (g.R.Receiver.weighs r) (g.R.Receiver.gives r) made (g.R.Receiver.held r c.loop-right.store) (g.R.Receiver.held r c.args.store.now) c.args.side.now.rights.now c.loop-right.right-index c.right-item.result
    c.loop-right-test.true c.right-item.is c.loop-right.invariant.0 (c.hand.ensures.heavy (search (rules, is, c.from_residual.ensures, c.in_err-hand.was, c.branch-hand.ensures, c.in_err-hand.is)))

use Rattle.std.proofs.Common.{rules, subst, sym}
use Rattle.std.specs.Prelude.{All}
use Rattle.fill_core.specs.Sites.{binary_with}
use Rattle.fill_core.proofs.OfferLaws.{all_at}
use Rattle.fill_core.proofs.BoundLaws.{too_much_at}
use Rattle.fill_core.proofs.between.Between.walk.Goals as goal

pub walk_rights-requires-clause-accepts : goal.walk_rights-requires-clause-accepts
walk_rights-requires-clause-accepts g c =
    let accepts = g.R.Receiver.accepts c.args.receiver.now in
    let made = binary_with c.args.self.now.task.now c.args.self.now.op c.args.self.now.left.now c.args.self.now.right.now c.args.sides.now.rights.now in
    subst (λ e. All accepts (made e)) (sym c.left-item.is) (all_at accepts made c.args.sides.now.lefts.now c.loop-left.left-index c.left-item.result c.loop-left-test.true c.requires.accepts)

pub returns-in_err-walk_rights-clause-heavy : goal.returns-in_err-walk_rights-clause-heavy
returns-in_err-walk_rights-clause-heavy g c is =
    let made = binary_with c.args.self.now.task.now c.args.self.now.op c.args.self.now.left.now c.args.self.now.right.now c.args.sides.now.rights.now in
    let r = c.args.receiver.now in
    too_much_at (g.R.Receiver.bound r) (g.R.Receiver.weighs r) (g.R.Receiver.gives r) made (g.R.Receiver.held r c.loop-left.store) (g.R.Receiver.held r c.args.store.now) c.args.sides.now.lefts.now c.loop-left.left-index c.left-item.result
    c.loop-left-test.true c.left-item.is c.loop-left.invariant.0 (c.walk_rights.ensures.heavy (search (rules, is, c.from_residual.ensures, c.in_err-walk_rights.was, c.branch-walk_rights.ensures, c.in_err-walk_rights.is)))

use Rattle.std.proofs.Common.{rules, subst, ap, ◌∙◌}
use Rattle.std.specs.Prelude.{All}
use Rattle.query_core.specs.Filled.{filled_union}
use Rattle.fill_core.specs.Sites.{binary_filled, binary_types}
use Rattle.fill_core.specs.View.{entry_filled}
use Rattle.fill_core.proofs.SiteLaws.{union_accepted}
use Rattle.fill_core.proofs.between.Between.hand.Goals as goal

pub hand-requires-clause-accepts : goal.hand-requires-clause-accepts
hand-requires-clause-accepts g c =
    let s = c.args.self.now in
    let p = c.args.parts.now in
    let accepts = g.R.Receiver.accepts c.args.receiver.now in
    union_accepted accepts (filled_union c.in-Unite.kind (entry_filled s.left.now p.left.now) (entry_filled s.right.now p.right.now)) s.types.now c.as_slice.result.now c.as_slice-in-Unite.result.now
    (c.requires.same ∙ ap (λ op. binary_types op s.left.now s.right.now) c.in-Unite.is) (c.as_slice.ensures ∙ c.in_ok-preds-in-Unite.ensures)
    (search (rules, c.as_slice-in-Unite.ensures, c.in_ok-rows-in-Unite.ensures, c.as_slice-lefts.ensures, c.as_slice-rights.ensures))
    (subst (λ op. All accepts (binary_filled s.task.now op s.left.now s.right.now p.left.now p.right.now)) c.in-Unite.is c.requires.accepts)

use Rattle.std.proofs.Common.{rules, subst, sym, ap, ◌∙◌}
use Rattle.std.specs.Prelude.{All}
use Rattle.query_core.specs.Groups.{grouped}
use Rattle.fill_core.specs.Sites.{unary_filled, unary_types}
use Rattle.fill_core.proofs.SiteLaws.{group_accepted}
use Rattle.fill_core.specs.View.{entry_filled}
use Rattle.fill_core.specs.Offers.{Gathered}
use Rattle.fill_core.proofs.OfferLaws.{no_groups}
use Rattle.fill_core.proofs.over.Over.hand.Goals as goal

pub hand-requires-clause-accepts : goal.hand-requires-clause-accepts
hand-requires-clause-accepts g c =
    let s = c.args.self.now in
    let accepts = g.R.Receiver.accepts c.args.receiver.now in
    group_accepted accepts c.in-Group.keys.now c.in-Group.agg s.types.now s.child.now c.args.child.now c.as_slice.result.now c.as_slice-in-Group.result.now c.in-Some.groups
    (c.requires.same ∙ ap (λ op. unary_types op s.child.now) c.in-Group.is) c.as_slice.ensures c.as_slice-in-Group.ensures
    (search (rules, c.in_ok-groups-in-Group.ensures, c.in-Some.is, c.as_slice-rows.ensures))
    (subst (λ op. All accepts (unary_filled s.task.now op s.child.now c.args.child.now)) c.in-Group.is c.requires.accepts)

pub returns-then-is_shut_group-clause-gathered : goal.returns-then-is_shut_group-clause-gathered
returns-then-is_shut_group-clause-gathered g c =
    let s = c.args.self.now in
    let r = c.args.receiver.now in
    let i = c.in-Group in
    let none = c.is_shut_group.ensures c.if-is_shut_group.true i.agg in
    let held = g.R.Receiver.held r c.args.store.now in
    subst (λ op. Gathered (g.R.Receiver.held r) (g.R.Receiver.gives r) c.args.store.now c.args.store.now (unary_filled s.task.now op s.child.now c.args.child.now)) (sym i.is)
    (no_groups (g.R.Receiver.gives r) held i.keys.now i.agg (entry_filled s.child.now c.args.child.now) s.types.now (c.requires.same ∙ ap (λ op. unary_types op s.child.now) i.is)
    (λ groups made. none groups (ap (grouped i.keys.now i.agg) c.as_slice-rows.ensures ∙ made)))

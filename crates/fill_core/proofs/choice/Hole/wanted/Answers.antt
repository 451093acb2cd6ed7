use Rattle.std.proofs.Common.{◌≡◌, Bool, List, map, refl, ap, ◌∙◌}
use Rattle.std.proofs.lemmas.Result.{IfOk-weaker}
use Rattle.predicate_core.specs.Atoms.{atom_list, pred_list}
use Rattle.predicate_core.specs.declared.atom.Atom.{Atom}
use Rattle.predicate_core.specs.declared.pred.Pred.TheVariants.{One}
use Rattle.bit_classes.specs.Laws.{kept_vector}
use Rattle.fill_core.proofs.ChoiceLaws.{wanted_are, vectors_wide}
use Rattle.fill_core.proofs.choice.Hole.wanted.Goals as goal

pub wanted_classes-requires-clause-widths : goal.wanted_classes-requires-clause-widths
wanted_classes-requires-clause-widths g c =
    let constants = c.constants-constants.result.now in
    let candidates = c.args.self.now.candidates.now in
    let atoms = atom_list c.args.self.now.types.now constants in
    let f : Atom → List Bool = λ a. kept_vector constants candidates (One a) in
    let rows : c.as_slice-2.result.now ≡ map f atoms = c.as_slice-2.ensures ∙ c.in_ok-rows.ensures ∙ ap (map f) (c.as_slice.ensures ∙ c.in_ok-atoms.ensures) in
    λ k d below. rw rows (vectors_wide constants candidates atoms k d (rw rows at below))

pub returns : goal.returns
returns g c =
    let hole = c.args.self.now in
    let constants = c.constants-constants.result.now in
    let atoms = atom_list hole.types.now constants in
    let f : Atom → List Bool = λ a. kept_vector constants hole.candidates.now (One a) in
    let rows : c.as_slice-2.result.now ≡ map f atoms = c.as_slice-2.ensures ∙ c.in_ok-rows.ensures ∙ ap (map f) (c.as_slice.ensures ∙ c.in_ok-atoms.ensures) in
    let list : c.in_ok-list.list ≡ pred_list atoms c.atoms-bound.result = c.in_ok-list.ensures ∙ ap (λ xs. pred_list xs c.atoms-bound.result) (c.as_slice-3.ensures ∙ c.in_ok-atoms.ensures) in
    let all = wanted_are hole.task.now hole.types.now hole.candidates.now constants c.atoms-bound.result _ c.as_slice-2.result.now c.in_ok-list.list (g.S.Sieve.may c.args.sieve.now) c.in_ok-found.found.items
    c.constants-constants.ensures c.atoms-bound.ensures.value refl rows list c.in_ok-found.ensures in
    IfOk-weaker c.class_choices.result _ _ (λ cs e. e ∙ all) c.class_choices.ensures

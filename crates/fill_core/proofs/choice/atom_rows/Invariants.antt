use Rattle.std.proofs.Common.{◌≡◌, map, take}
use Rattle.predicate_core.specs.declared.pred.Pred.TheVariants.{One}
use Rattle.bit_classes.specs.Laws.{kept_vector}
use Rattle.fill_core.proofs.choice.atom_rows.Given as goal

abbrev pub invariant-loop-atom : goal.invariant-loop-atom
invariant-loop-atom l = l.rows ≡ map (λ a. kept_vector l.constants l.candidates (One a)) (take l.atom-index l.atoms)

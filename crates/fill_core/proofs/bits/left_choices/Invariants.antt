use Rattle.std.proofs.Common.{◌≡◌, ◌++◌, map, drop}
use Rattle.fill_core.specs.Choices.{left_choice}
use Rattle.fill_core.proofs.bits.left_choices.Given as goal

abbrev pub invariant-loop-choice : goal.invariant-loop-choice
invariant-loop-choice l = l.out.items ++ map (left_choice l.lefts l.rights) (drop l.choice-index l.choices) ≡ map (left_choice l.lefts l.rights) l.choices

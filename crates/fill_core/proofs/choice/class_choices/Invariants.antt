use Rattle.std.proofs.Common.{◌≡◌, map}
use Rattle.fill_core.specs.Choices.{class_choice}
use Rattle.fill_core.proofs.choice.class_choices.Given as goal

abbrev pub invariant-loop-class : goal.invariant-loop-class
invariant-loop-class l = l.out.items ≡ map (class_choice l.list) l.yielded

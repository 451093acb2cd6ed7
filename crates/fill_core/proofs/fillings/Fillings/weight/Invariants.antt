use Rattle.std.proofs.Common.{◌≡◌, take}
use Rattle.fill_core.specs.View.{entries_weight}
use Rattle.fill_core.proofs.fillings.Fillings.weight.Given as goal

abbrev pub invariant-loop-entry : goal.invariant-loop-entry
invariant-loop-entry l = l.sum ≡ entries_weight (take l.entry-index l.entry-items)

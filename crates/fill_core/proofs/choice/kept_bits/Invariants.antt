use Rattle.std.proofs.Common.{◌≡◌, take}
use Rattle.bit_classes.specs.Laws.{kept_vector}
use Rattle.fill_core.proofs.choice.kept_bits.Given as goal

abbrev pub invariant-loop-row : goal.invariant-loop-row
invariant-loop-row l = l.bits.items ≡ kept_vector l.constants (take l.row-index l.candidates) l.pred

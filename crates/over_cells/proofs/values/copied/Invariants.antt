use Rattle.std.proofs.Common.{◌≡◌, take}
use Rattle.over_cells.proofs.values.copied.Given as goal

abbrev pub invariant-loop-value : goal.invariant-loop-value
invariant-loop-value l = l.out ≡ take l.value-index l.values

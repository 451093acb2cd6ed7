use Rattle.std.proofs.Common.{◌≡◌, ◌++◌, ◌*◌, ◌-◌, drop}
use Rattle.fill_core.specs.Choices.{with_alone}
use Rattle.fill_core.proofs.bits.with_alone.Given as goal

abbrev pub invariant-loop-left : goal.invariant-loop-left
invariant-loop-left l =
    (l.from ≡ l._left * l.rights)
    × (l.out.items ++ with_alone (l.lefts - l._left) l.rights (drop l.from l.bits) ≡ with_alone l.lefts l.rights l.bits)

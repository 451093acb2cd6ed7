use Rattle.std.proofs.Common.{◌≡◌, ◌++◌, ◌*◌, ◌+◌, ◌-◌, drop}
use Rattle.root_search.specs.Wanted.{paired}
use Rattle.root_search.proofs.paired.paired_bits.Given as goal

abbrev pub invariant-loop-left : goal.invariant-loop-left
invariant-loop-left l =
    (l.from ≡ l._left * (l.rights + 1))
    × (l.out.items ++ paired (l.lefts - l._left) l.rights (drop l.from l.bits) ≡ paired l.lefts l.rights l.bits)

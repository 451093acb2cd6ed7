use Rattle.std.proofs.Common.{◌≡◌, ◌++◌, take, drop, not}
use Rattle.std.specs.List.{list_any}
use Rattle.fill_core.proofs.bits.push_left.Given as goal

abbrev pub invariant-loop-k : goal.invariant-loop-k
invariant-loop-k l =
    (l.out.items ≡ l.initial.out.items ++ take l.k (drop l.from l.bits))
    × (l.alone ≡ not (list_any (λ x. x) (take l.k (drop l.from l.bits))))

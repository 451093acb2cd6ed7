use Rattle.std.proofs.Common.{◌≡◌, ◌++◌, take, drop}
use Rattle.root_search.proofs.paired.push_bits.Given as goal

abbrev pub invariant-loop-k : goal.invariant-loop-k
invariant-loop-k l = l.out.items ≡ l.initial.out.items ++ take l.k (drop l.from l.bits)

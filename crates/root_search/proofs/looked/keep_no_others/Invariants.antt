use Rattle.std.proofs.Common.{◌≡◌, drop}
use Rattle.std.specs.Prelude.{nat_le}
use Rattle.std.specs.List.{sum_by}
use Rattle.map_walk.specs.Targets.{ones}
use Rattle.root_search.specs.Targets.{shared}
use Rattle.root_search.proofs.looked.keep_no_others.Given as goal

abbrev pub invariant-loop-i : goal.invariant-loop-i
invariant-loop-i l = nat_le l.left (sum_by (λ t. shared l.bits t.mask) (drop l.i l.targets)) ≡ nat_le (ones l.bits) (sum_by (λ t. shared l.bits t.mask) l.targets)

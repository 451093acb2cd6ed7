use Rattle.std.proofs.Common.{◌≡◌, drop, ◌==◌}
use Rattle.std.specs.List.{list_all}
use Rattle.root_search.specs.Targets.{shared}
use Rattle.root_search.proofs.target.all_give.Given as goal

abbrev pub invariant-loop-i : goal.invariant-loop-i
invariant-loop-i l = list_all (λ t. shared l.bits t.mask == t.copies) l.targets ≡ list_all (λ t. shared l.bits t.mask == t.copies) (drop l.i l.targets)

use Rattle.std.proofs.Common.{◌≡◌, ◌+◌, take, drop, ◌==◌, ◌&&◌}
use Rattle.std.specs.Prelude.{nat_le}
use Rattle.std.specs.List.{list_all, sum_by}
use Rattle.root_search.specs.Targets.{shared}
use Rattle.root_search.proofs.target.each_found.Given as goal

abbrev pub invariant-loop-i : goal.invariant-loop-i
invariant-loop-i l =
    (l.left + sum_by (λ t. shared l.bits t.mask) (take l.i l.targets) ≡ l.total)
    × (list_all (λ t. nat_le 1 (shared l.bits t.mask) && (t.copies == 1)) l.targets ≡ list_all (λ t. nat_le 1 (shared l.bits t.mask) && (t.copies == 1)) (drop l.i l.targets))

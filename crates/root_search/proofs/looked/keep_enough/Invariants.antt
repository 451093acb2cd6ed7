use Rattle.std.proofs.Common.{◌≡◌, drop}
use Rattle.std.specs.Prelude.{nat_le}
use Rattle.std.specs.List.{list_all}
use Rattle.root_search.specs.Targets.{shared}
use Rattle.root_search.proofs.looked.keep_enough.Given as goal

abbrev pub invariant-loop-i : goal.invariant-loop-i
invariant-loop-i l = list_all (λ t. nat_le t.copies (shared l.bits t.mask)) l.targets ≡ list_all (λ t. nat_le t.copies (shared l.bits t.mask)) (drop l.i l.targets)

use Rattle.std.proofs.Common.{◌≡◌, ◌++◌, drop}
use Rattle.std.specs.List.{flat_map}
use Rattle.over_eval.specs.Over.{pairs_over}
use Rattle.over_eval.proofs.pairs.all_pairs.Given as goal

abbrev pub invariant-loop-left : goal.invariant-loop-left
invariant-loop-left l = l.out ++ flat_map (pairs_over l.rights) (drop l.left-index l.lefts) ≡ flat_map (pairs_over l.rights) l.lefts

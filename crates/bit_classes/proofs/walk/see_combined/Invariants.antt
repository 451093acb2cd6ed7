use Rattle.std.proofs.Common.{◌≡◌, ◌+◌, map, drop, length, Some}
use Rattle.bit_classes.specs.Walk.{numbered, combined_told}
use Rattle.bit_classes.proofs.WalkLaws.{OnWay}
use Rattle.bit_classes.proofs.walk.see_combined.Given as goal

abbrev pub invariant-loop-i : goal.invariant-loop-i
invariant-loop-i l =
    OnWay l.initial.found (numbered l.number (map (combined_told l.join (Some l.row)) l.others)) l.found (numbered (l.number + l.i) (map (combined_told l.join (Some l.row)) (drop l.i l.others)))
    × (length l.both ≡ length l.row)

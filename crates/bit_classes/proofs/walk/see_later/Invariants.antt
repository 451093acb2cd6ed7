use Rattle.std.proofs.Common.{◌+◌, ◌*◌, ◌≤◌, drop}
use Rattle.bit_classes.specs.Walk.{numbered, told_later}
use Rattle.bit_classes.proofs.WalkLaws.{OnWay}
use Rattle.bit_classes.proofs.walk.see_later.Given as goal

abbrev pub invariant-loop-i : goal.invariant-loop-i
invariant-loop-i l =
    OnWay l.initial.found (numbered l.number (told_later l.join l.firsts l.rows)) l.found (numbered l.next (told_later l.join (drop l.i l.firsts) (drop l.i l.rows)))
    × (l.next ≤ l.number + 100000 * l.i)

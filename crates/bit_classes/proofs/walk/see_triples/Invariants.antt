use Rattle.std.proofs.Common.{◌+◌, ◌*◌, ◌≤◌, [], drop}
use Rattle.bit_classes.specs.Walk.{numbered, told_triples}
use Rattle.bit_classes.proofs.WalkLaws.{OnWay}
use Rattle.bit_classes.proofs.walk.see_triples.Given as goal

abbrev pub invariant-loop-i : goal.invariant-loop-i
invariant-loop-i g l =
    let test = g.S.Sieve.may l.sieve l.join in
    OnWay l.initial.found (numbered l.number (told_triples test l.join [] l.rows)) l.found (numbered l.next (told_triples test l.join l.pairs.classes (drop l.i l.rows)))
    × (l.next ≤ l.number + 10000000000 * l.i)

use Rattle.std.proofs.Common.{◌≡◌, ◌++◌, drop}
use Rattle.bit_classes.specs.Walk.{new_pairs, classes_under}
use Rattle.bit_classes.proofs.walk.pairs_under.Given as goal

abbrev pub invariant-loop-i : goal.invariant-loop-i
invariant-loop-i g l =
    let test = g.S.Sieve.may l.sieve l.join in
    (l.boths.items ++ new_pairs test l.join l.pairs.classes l.first (drop l.i l.rows) ≡ new_pairs test l.join l.initial.pairs.classes l.first l.rows)
    × (classes_under test l.join l.pairs.classes l.first (drop l.i l.rows) ≡ classes_under test l.join l.initial.pairs.classes l.first l.rows)

use Rattle.std.proofs.Common.{◌≡◌, drop}
use Rattle.bag_eval.specs.Alike.{found_alike, triples_joined}
use Rattle.bag_eval.proofs.alike.first_triple.Given as goal

abbrev pub invariant-loop-i : goal.invariant-loop-i
invariant-loop-i l =
    let found = found_alike l.chooser.constants.now l.chooser.rows.now l.chooser.pred.now in
    found (triples_joined l.joining (drop l.i l.atoms)) ≡ found (triples_joined l.joining l.atoms)

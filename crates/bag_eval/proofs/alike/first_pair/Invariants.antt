use Rattle.std.proofs.Common.{◌≡◌, drop}
use Rattle.bag_eval.specs.Alike.{found_alike, pairs_joined}
use Rattle.bag_eval.proofs.alike.first_pair.Given as goal

abbrev pub invariant-loop-i : goal.invariant-loop-i
invariant-loop-i l =
    let found = found_alike l.chooser.constants.now l.chooser.rows.now l.chooser.pred.now in
    found (pairs_joined l.joining (drop l.i l.atoms)) ≡ found (pairs_joined l.joining l.atoms)

use Rattle.std.proofs.Common.{◌≡◌, drop}
use Rattle.bag_eval.specs.Alike.{found_alike, pairs_under}
use Rattle.bag_eval.proofs.alike.first_pair_under.Given as goal

abbrev pub invariant-loop-i : goal.invariant-loop-i
invariant-loop-i l =
    let found = found_alike l.chooser.constants.now l.chooser.rows.now l.chooser.pred.now in
    found (pairs_under l.joining l.a (drop l.i l.others)) ≡ found (pairs_under l.joining l.a l.others)

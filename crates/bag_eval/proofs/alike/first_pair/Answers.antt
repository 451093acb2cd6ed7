use Rattle.std.proofs.Common.{◌+◌, sym, ◌∙◌}
use Rattle.std.proofs.lemmas.List.{take_rest}
use Rattle.value_core.specs.declared.comparison.CmpOp.TheVariants.{Eq}
use Rattle.predicate_core.specs.declared.atom.Atom.TheVariants.{Cols}
use Rattle.query_core.specs.Standard.{alike}
use Rattle.bag_eval.proofs.AlikeLists.{pairs_turn}
use Rattle.bag_eval.proofs.alike.first_pair.Goals as goal

pub returns-in-Some : goal.returns-in-Some
returns-in-Some c =
    let chooser = c.args.chooser.now in
    let test = alike chooser.constants.now chooser.rows.now chooser.pred.now in
    let first = rw (take_rest c.args.atoms.now (c.loop-i.i + 1)) at c.first_two.ensures in
    let turn = pairs_turn test c.args.joining c.args.atoms.now c.loop-i.i (Cols 0 Eq 0) c.first_two.result c.loop-i-test.true first in
    sym (rw c.in-Some.is at turn) ∙ c.loop-i.invariant

pub loop-i-preserved : goal.loop-i-preserved
loop-i-preserved c =
    let chooser = c.args.chooser.now in
    let test = alike chooser.constants.now chooser.rows.now chooser.pred.now in
    let first = rw (take_rest c.args.atoms.now (c.loop-i.i + 1)) at c.first_two.ensures in
    let turn = pairs_turn test c.args.joining c.args.atoms.now c.loop-i.i (Cols 0 Eq 0) c.first_two.result c.loop-i-test.true first in
    sym (rw c.in-None.is at turn) ∙ c.loop-i.invariant

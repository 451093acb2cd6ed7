use Rattle.std.proofs.Common.{arith}
use Rattle.predicate_core.specs.Atoms.{atom_list}
use Rattle.predicate_core.proofs.NumberLaws.{length-pred_list}
use Rattle.predicate_core.proofs.place_number.preds_len.Goals as goal

pub returns : goal.returns
returns c =
    let all = length-pred_list (atom_list c.args.types.now c.args.constants.now) c.args.bound in
    let two = rw c.atoms_len-n.ensures at c.two_len.ensures.count in
    let three = rw c.atoms_len-n.ensures at c.three_len.ensures.count in
    omega (arith, all, two, three, c.atoms_len-n.ensures)

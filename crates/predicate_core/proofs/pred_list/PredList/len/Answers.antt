use Rattle.std.proofs.Common.{arith}
use Rattle.predicate_core.proofs.NumberLaws.{length-pred_list}
use Rattle.predicate_core.proofs.pred_list.PredList.len.Goals as goal

pub returns : goal.returns
returns c =
    let all = length-pred_list c.self.inside.atoms c.self.inside.bound in
    let two = rw c.len-n.ensures at c.two_len.ensures.count in
    let three = rw c.len-n.ensures at c.three_len.ensures.count in
    rw (← c.self.view_is) (omega (arith, all, two, three, c.len-n.ensures))

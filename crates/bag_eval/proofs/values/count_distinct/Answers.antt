use Rattle.std.proofs.Common.{arith, take}
use Rattle.std.proofs.lemmas.List.{take_more}
use Rattle.bag_eval.proofs.ValueLaws.{distinct_push}
use Rattle.bag_eval.proofs.values.count_distinct.Goals as goal
use Rattle.bag_eval.proofs.values.count_distinct.Goals.{then-not-has_value, else-not-has_value}

pub loop-i-preserved : goal.loop-i-preserved
loop-i-preserved c =
    let values = c.args.values.now in
    let more = take_more values c.loop-i.i c.index-values-i.result (omega arith) in
    let push = distinct_push (take c.loop-i.i values) c.index-values-i.result in
    elim c.if-not-has_value.branch [
      | then-not-has_value w ↦ grind (arith, more, push)
      | else-not-has_value w ↦ grind (arith, more, push)
    ]

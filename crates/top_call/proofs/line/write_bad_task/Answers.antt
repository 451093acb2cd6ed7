use Rattle.std.proofs.Common.{◌++◌, ◌∷◌, []}
use Rattle.std.specs.Prelude.{codes}
use Rattle.io_edge.proofs.Gains.{gained_front_more}
use Rattle.top_call.specs.Line.{fault_words}
use Rattle.top_call.proofs.WriteLaws.{front_then}
use Rattle.top_call.proofs.line.write_bad_task.Goals as goal

pub returns-in-Err-clause-front : goal.returns-in-Err-clause-front
returns-in-Err-clause-front g c = gained_front_more _ _ (codes "scythe: bad task: " ++ fault_words c.args.fault.now) (10 ∷ []) c.in-Err.ensures.front

pub returns-in-Ok-clause-front : goal.returns-in-Ok-clause-front
returns-in-Ok-clause-front g c =
    front_then c.write_all.result _ _ _ (codes "scythe: bad task: " ++ fault_words c.args.fault.now) (10 ∷ []) c.in-Ok.ensures.all c.write_all.ensures.front

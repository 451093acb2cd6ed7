use Rattle.std.specs.Prelude.{codes}
use Rattle.io_edge.proofs.Gains.{gained_front_more}
use Rattle.top_call.specs.Line.{fault_words}
use Rattle.top_call.proofs.WriteLaws.{all_then, front_then}
use Rattle.top_call.proofs.line.write_bad_front.Goals as goal

pub returns-in-Err-clause-front : goal.returns-in-Err-clause-front
returns-in-Err-clause-front g c = gained_front_more _ _ (codes "scythe: bad task: ") (fault_words c.args.fault.now) c.in-Err.ensures.front

pub returns-in-Ok-clause-all : goal.returns-in-Ok-clause-all
returns-in-Ok-clause-all g c = all_then c.write_fault.result _ _ _ (codes "scythe: bad task: ") (fault_words c.args.fault.now) c.in-Ok.ensures.all c.write_fault.ensures.all

pub returns-in-Ok-clause-front : goal.returns-in-Ok-clause-front
returns-in-Ok-clause-front g c = front_then c.write_fault.result _ _ _ (codes "scythe: bad task: ") (fault_words c.args.fault.now) c.in-Ok.ensures.all c.write_fault.ensures.front

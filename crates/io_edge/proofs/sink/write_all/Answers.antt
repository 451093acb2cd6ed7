use Rattle.std.proofs.Common.{arith}
use Rattle.std.proofs.lemmas.Grind.{common_steps}
use Rattle.io_edge.proofs.Gains.{gained_more}
use Rattle.io_edge.proofs.sink.write_all.Goals as goal

pub loop-done-preserved : goal.loop-done-preserved
loop-done-preserved g c = record {
  gained = gained_more (g.K.Sink.written c.args.sink.now) (g.K.Sink.written c.loop-done.sink) (g.K.Sink.written c.write.new.self) c.args.bytes.now c.loop-done.done c.in-Ok.taken c.loop-done.invariant.gained c.in-Ok.ensures.gained;
  within = grind (arith, common_steps);
  kept = omega arith;
}

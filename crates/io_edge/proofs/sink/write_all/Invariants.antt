use Rattle.std.proofs.Common.{length, ◌-◌, ◌≤◌, take}
use Rattle.io_edge.specs.Gained.{Gained}
use Rattle.io_edge.proofs.sink.write_all.Given as goal

abbrev pub decreases-loop-done : goal.decreases-loop-done
decreases-loop-done g l = length l.bytes - l.done

abbrev pub invariant-loop-done : goal.invariant-loop-done
invariant-loop-done g l = record {
  gained : Gained (g.K.Sink.written l.initial.sink) (g.K.Sink.written l.sink) (take l.done l.bytes);
  within : l.done ≤ length l.bytes;
  kept : g.K.Sink.faults l.initial.sink ≤ g.K.Sink.faults l.sink;
}

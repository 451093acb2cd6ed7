use Rattle.std.proofs.Common.{◌≡◌, ◌≤◌, length}
use Rattle.over_eval.specs.Kept.{AreKept}
use Rattle.over_eval.proofs.live_numbers.kept_of_all.Given as goal

abbrev pub invariant-loop-number : goal.invariant-loop-number
invariant-loop-number l = record {
  kept : AreKept l.task l.graph.nodes l.kept.items;
  size : l.number ≡ length l.kept.items;
  within : l.number ≤ length l.graph.nodes;
}

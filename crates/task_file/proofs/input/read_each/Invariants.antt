use Rattle.std.proofs.Common.{◌≡◌, [], drop, map}
use Rattle.toml.specs.View.{view}
use Rattle.task_file.specs.TaskFile.{inputs_after}
use Rattle.task_file.proofs.input.read_each.Given as goal

abbrev pub invariant-loop-value : goal.invariant-loop-value
invariant-loop-value l = inputs_after l.inputs (map view (drop l.value-index l.values)) ≡ inputs_after [] (map view l.values)

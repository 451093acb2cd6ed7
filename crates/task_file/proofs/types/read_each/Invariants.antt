use Rattle.std.proofs.Common.{◌≡◌, ◌++◌, drop, map, option_map}
use Rattle.toml.specs.View.{view}
use Rattle.task_file.specs.TaskFile.{all_some, type_of}
use Rattle.task_file.proofs.types.read_each.Given as goal

abbrev pub invariant-loop-value : goal.invariant-loop-value
invariant-loop-value l = option_map (λ rest. l.types ++ rest) (all_some (map type_of (map view (drop l.value-index l.values)))) ≡ all_some (map type_of (map view l.values))

use Rattle.std.proofs.Common.{◌≡◌, ◌++◌, map, take}
use Rattle.query_core.specs.declared.agg.Agg.TheVariants.{Max}
use Rattle.skeleton_graph.proofs.keys.push_maxes.Given as goal

abbrev pub invariant-loop-column : goal.invariant-loop-column
invariant-loop-column l = l.out ≡ l.initial.out ++ map Max (take l.column-index l.columns)

use Rattle.std.proofs.Common.{◌≡◌, ◌++◌, map, take}
use Rattle.query_core.specs.declared.agg.Agg.TheVariants.{CountDistinct}
use Rattle.skeleton_graph.proofs.keys.push_distinct_counts.Given as goal

abbrev pub invariant-loop-column : goal.invariant-loop-column
invariant-loop-column l = l.out ≡ l.initial.out ++ map CountDistinct (take l.column-index l.columns)

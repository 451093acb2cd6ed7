use Rattle.std.proofs.Common.{◌≡◌, ◌++◌, map, take}
use Rattle.query_core.specs.declared.agg.Agg.TheVariants.{Sum}
use Rattle.skeleton_graph.proofs.keys.push_sums.Given as goal

abbrev pub invariant-loop-column : goal.invariant-loop-column
invariant-loop-column l = l.out ≡ l.initial.out ++ map Sum (take l.column-index l.columns)

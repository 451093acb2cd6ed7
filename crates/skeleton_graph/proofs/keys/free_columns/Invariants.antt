use Rattle.std.proofs.Common.{◌≡◌, ◌++◌, drop}
use Rattle.std.specs.Prelude.{filter, not, ◌==◌}
use Rattle.std.specs.List.{list_any}
use Rattle.skeleton_graph.proofs.keys.free_columns.Given as goal

abbrev pub invariant-loop-column : goal.invariant-loop-column
invariant-loop-column l = l.out ++ filter (λ i. not (list_any (λ k. k == i) l.keys)) (drop l.column-index l.column-items) ≡ filter (λ i. not (list_any (λ k. k == i) l.keys)) l.column-items

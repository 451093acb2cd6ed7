use Rattle.std.proofs.Common.{◌≡◌, ◌++◌, drop}
use Rattle.std.specs.Prelude.{filter}
use Rattle.value_core.specs.Value.{same_type}
use Rattle.value_core.specs.declared.value.ColType.TheVariants as kind
use Rattle.query_core.specs.Meaning.{type_at}
use Rattle.skeleton_graph.proofs.keys.int_columns.Given as goal

abbrev pub invariant-loop-column : goal.invariant-loop-column
invariant-loop-column l = l.out ++ filter (λ i. same_type (type_at l.types i) kind.Int) (drop l.column-index l.columns) ≡ filter (λ i. same_type (type_at l.types i) kind.Int) l.columns

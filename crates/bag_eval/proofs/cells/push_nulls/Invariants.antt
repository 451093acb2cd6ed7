use Rattle.std.proofs.Common.{◌≡◌, ◌++◌, replicate}
use Rattle.value_core.specs.declared.value.Value.TheVariants.{Null}
use Rattle.bag_eval.proofs.cells.push_nulls.Given as goal

abbrev pub invariant-loop : goal.invariant-loop
invariant-loop l = l.out.items ≡ l.initial.out.items ++ replicate l.counter Null

use Rattle.std.proofs.Common.{◌≡◌, true, take}
use Rattle.std.specs.List.{list_all}
use Rattle.table_core.specs.Rows.{are_typed}
use Rattle.bag_eval.proofs.tree_rows.inputs_fit.Given as goal

abbrev pub invariant-loop-input : goal.invariant-loop-input
invariant-loop-input l = list_all (λ t. are_typed t.columns t.rows) (take l.input-index l.inputs) ≡ true

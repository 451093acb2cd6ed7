use Rattle.std.proofs.Common.{◌≡◌, drop}
use Rattle.std.specs.List.{list_any}
use Rattle.table_core.specs.Bag.{same_cells}
use Rattle.query_core.specs.Firsts.{projected}
use Rattle.query_core.specs.Meaning.{selected}
use Rattle.bag_eval.proofs.select.has_selected.Given as goal

abbrev pub invariant-loop-other : goal.invariant-loop-other
invariant-loop-other l = list_any (λ r. same_cells r (projected l.picks l.row)) (selected l.picks l.rows) ≡ list_any (λ r. same_cells r (projected l.picks l.row)) (selected l.picks (drop l.other-index l.rows))

use Rattle.std.proofs.Common.{◌≡◌, drop}
use Rattle.table_core.specs.Rows.{types_of}
use Rattle.map_walk.specs.Supply.{all_full, opens}
use Rattle.map_walk.proofs.opening.all_full.Given as goal

abbrev pub invariant-loop-place : goal.invariant-loop-place
invariant-loop-place g l = all_full l.types (g.S.Source.listed l.source) l.place (drop l.place (types_of l.output)) ≡ opens l.types (g.S.Source.listed l.source) (types_of l.output)

use Rattle.std.proofs.Common.{◌≡◌, drop}
use Rattle.table_core.specs.Rows.{types_of}
use Rattle.map_walk.specs.Open.{all_served, is_open_by}
use Rattle.map_walk.proofs.open.is_open.Given as goal

abbrev pub invariant-loop-place : goal.invariant-loop-place
invariant-loop-place g l = all_served g.C.Candidate.has l.types l.candidates l.output.rows l.place (drop l.place (types_of l.output)) ≡ is_open_by g.C.Candidate.has l.types l.candidates l.output

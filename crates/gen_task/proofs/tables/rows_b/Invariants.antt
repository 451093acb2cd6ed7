use Rattle.std.proofs.Common.{◌≡◌, map}
use Rattle.std.specs.List.{range_with_len}
use Rattle.gen_task.specs.Draws.{state_after}
use Rattle.gen_task.specs.Made.{row_b}
use Rattle.gen_task.proofs.tables.rows_b.Given as goal

abbrev pub invariant-loop-j : goal.invariant-loop-j
invariant-loop-j l = (l.draws.state ≡ state_after l.fn.draws.state l.j) × (l.rows.items ≡ map (row_b l.fn.draws.state) (range_with_len 0 l.j))

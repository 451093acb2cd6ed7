use Rattle.std.proofs.Common.{◌≡◌, ◌*◌, map}
use Rattle.std.specs.List.{range_with_len}
use Rattle.gen_task.specs.Draws.{state_after}
use Rattle.gen_task.specs.Made.{row_a}
use Rattle.gen_task.proofs.tables.rows_a.Given as goal

abbrev pub invariant-loop-i : goal.invariant-loop-i
invariant-loop-i l = (l.draws.state ≡ state_after l.fn.draws.state (2 * l.i)) × (l.rows.items ≡ map (row_a l.fn.draws.state) (range_with_len 1 l.i))

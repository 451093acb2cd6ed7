use Rattle.std.proofs.Common.{◌≡◌, replicate, None}
use Rattle.top_call.proofs.search.no_rows.Given as goal

abbrev pub invariant-loop : goal.invariant-loop
invariant-loop l = l.rows.items ≡ replicate l.counter None

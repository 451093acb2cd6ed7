use Rattle.std.proofs.Common.{◌≡◌, take}
use Rattle.rank_core.proofs.rank_key.few_picks.Given as goal

abbrev pub invariant-loop-at : goal.invariant-loop-at
invariant-loop-at l = l.out.items ≡ take l.at-index l.picks

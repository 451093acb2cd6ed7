use Rattle.std.proofs.Common.{◌≡◌, ◌++◌, take}
use Rattle.rank_core.proofs.col_types.ColTypes.append.Given as goal

abbrev pub invariant-loop-kind : goal.invariant-loop-kind
invariant-loop-kind l = l.self ≡ l.initial.self ++ take l.kind-index l.kinds

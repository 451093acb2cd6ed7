use Rattle.std.proofs.Common.{◌≡◌, ◌++◌, drop}
use Rattle.over_eval.specs.Over.{members_over}
use Rattle.over_eval.proofs.members.members_over.Given as goal

abbrev pub invariant-loop-row : goal.invariant-loop-row
invariant-loop-row l = l.out ++ members_over l.keys (drop l.row-index l.over) l.key ≡ members_over l.keys l.over l.key

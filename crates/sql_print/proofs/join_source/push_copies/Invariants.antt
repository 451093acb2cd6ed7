use Rattle.std.proofs.Common.{◌≡◌, ◌++◌, take}
use Rattle.sql_print.proofs.join_source.push_copies.Given as goal

abbrev pub invariant-loop-text : goal.invariant-loop-text
invariant-loop-text l = l.out ≡ l.initial.out ++ take l.text-index l.texts

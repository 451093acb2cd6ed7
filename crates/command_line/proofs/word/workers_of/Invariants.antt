use Rattle.std.proofs.Common.{◌≡◌}
use Rattle.command_line.specs.Word.{workers_of}
use Rattle.command_line.proofs.WordLaws.{first_spelled}
use Rattle.command_line.proofs.word.workers_of.Given as goal

abbrev pub invariant-loop-number : goal.invariant-loop-number
invariant-loop-number l = workers_of l.word ≡ first_spelled l.word l.number

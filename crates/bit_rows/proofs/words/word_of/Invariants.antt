use Rattle.std.proofs.Common.{◌≡◌, drop}
use lib.Lanes.{mask_l}
use Rattle.bit_rows.proofs.words.word_of.Given as goal

abbrev pub invariant-loop-i : goal.invariant-loop-i
invariant-loop-i l = l.word ≡ mask_l (drop l.i l.bits)

use Rattle.std.proofs.Common.{◌≡◌, map}
use Rattle.std.specs.List.{range_with_len}
use Rattle.std.specs.Fork.{slice_chunk}
use lib.Lanes.{mask_l}
use Rattle.bit_rows.proofs.words.pack.Given as goal

abbrev pub invariant-loop-k : goal.invariant-loop-k
invariant-loop-k l = l.words.items ≡ map (λ j. mask_l (slice_chunk l.bits 64 j)) (range_with_len 0 l.k)

-- The names of columns are names.
use Rattle.std.proofs.Common.{ℕ, ◌^◌, ◌<◌, ◌≤◌, length, arith}
use Rattle.std.specs.Fmt.{decimal}
use Rattle.std.proofs.lemmas.Fmt.{length-decimal-le}
use Rattle.value_core.specs.Word.{IsWord}
use Rattle.bag_eval.specs.Results.{column_name}

pub column_name_is_word : (n : ℕ) → n < 2 ^ 64 → IsWord (column_name n)
column_name_is_word n small = let short : length (decimal n) ≤ 20 = length-decimal-le 20 n (omega arith) (omega arith) small in (omega arith, omega (arith, short))

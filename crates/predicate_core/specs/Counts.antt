-- How many predicates there are.
use Rattle.std.specs.Prelude.{ℕ, zero, suc, ◌+◌}

-- how many pairs so many atoms have
abbrev pub pair_count : ℕ → ℕ
pair_count zero = 0
pair_count (suc n) = n + pair_count n

-- how many triples so many atoms have
abbrev pub triple_count : ℕ → ℕ
triple_count zero = 0
triple_count (suc n) = pair_count n + triple_count n

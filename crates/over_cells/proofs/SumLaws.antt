-- Laws of the sums of a column.
use Rattle.std.proofs.Common.{◌≡◌, ℕ, ◌+◌, ◌<◌, ◌+ℤ◌, List, drop, length, get_or}
use Rattle.std.proofs.lemmas.List.{at_drop_more}
use Rattle.value_core.specs.declared.value.Value.{Value}
use Rattle.query_core.specs.Groups.{number_of}
use Rattle.over_cells.specs.Aggregates.{below_0, above_0, negatives, positives}

-- the sum from a place on is the number there and the sum behind it
pub negatives_next : (vs : List Value) (i : ℕ) (d : Value) → i < length vs → negatives (drop i vs) ≡ below_0 (number_of (get_or vs i d)) +ℤ negatives (drop (i + 1) vs)
negatives_next vs i d below = at_drop_more negatives vs i d below

pub positives_next : (vs : List Value) (i : ℕ) (d : Value) → i < length vs → positives (drop i vs) ≡ above_0 (number_of (get_or vs i d)) +ℤ positives (drop (i + 1) vs)
positives_next vs i d below = at_drop_more positives vs i d below

-- How many answers there are in ascending order.
use Rattle.std.proofs.Common.{◌≡◌, Bool, List, length, map, sym, ap, ◌∙◌}
use Rattle.std.proofs.lemmas.List.{length-map}
use Rattle.std.proofs.lemmas.List.Sorted.{length_permutation}
use Rattle.query_core.specs.Answers.{ascending, comes_before}
use Rattle.query_core.proofs.AscendingLaws.{ascending_permutes}
use Rattle.rank_core.specs.View.{ranked_query}
use Rattle.rank_core.specs.declared.ranked.Ranked.{Ranked}

-- a list in ascending order has as many elements as the list
pub ascending_size : {X : Type 0} (first : X → X → Bool) (xs : List X) → length (ascending first xs) ≡ length xs
ascending_size first xs = length_permutation xs (ascending first xs) (ascending_permutes first xs)

-- so has a sorted list of answers
pub sorted_size : (xs ys : List Ranked) → map ranked_query ys ≡ ascending comes_before (map ranked_query xs) → length ys ≡ length xs
sorted_size xs ys e = sym (length-map ys ranked_query) ∙ ap length e ∙ ascending_size comes_before (map ranked_query xs) ∙ length-map xs ranked_query

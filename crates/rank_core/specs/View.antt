-- The plain data that a ranked answer stands for.
use Rattle.std.specs.Prelude.{List, map, ◌≡◌}
use Rattle.std.specs.Global.{Vec}
use Rattle.query_core.specs.Answers.{RankedQuery, ascending, comes_before}
use Rattle.query_core.specs.View.{select}
use Rattle.rank_core.specs.declared.ranked.Ranked.{Ranked}

-- the key and the plain query of a ranked answer
abbrev pub ranked_query : Ranked → RankedQuery
ranked_query r = record { key = r.key; query = select r.query }

-- the plain queries of a list of ranked answers
abbrev pub ranked_queries : Vec Ranked → List RankedQuery
ranked_queries list = map ranked_query list.items

-- a list of ranked queries is in ascending order already
abbrev pub ascends : List RankedQuery → Type 0
ascends list = ascending comes_before list ≡ list

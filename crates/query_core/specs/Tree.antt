-- The trees of queries, as plain data.
use Rattle.std.specs.Prelude.{ℕ, Bool, List}
use Rattle.predicate_core.specs.declared.pred.Pred.{Pred}
use Rattle.query_core.specs.declared.agg.Agg.{Agg}
use Rattle.query_core.specs.declared.kinds.Pairing.{Pairing}
use Rattle.query_core.specs.declared.kinds.Uniting.{Uniting}

-- a tree of operators over the inputs, which are numbered from 0; a pair and a union are of a kind, and a group has its key columns and its aggregate
pub data Tree : Type 0 where
  base : ℕ → Tree
  filter : Tree → Pred → Tree
  pair : Pairing → Tree → Tree → Pred → Tree
  group : Tree → List ℕ → Agg → Tree
  unite : Uniting → Tree → Tree → Tree

-- a query: its body, the body's columns that it selects, in order, and whether it removes duplicates
pub record Select : Type 0 where
  pub body : Tree
  pub picks : List ℕ
  pub distinct : Bool

-- The answers of a skeleton, read off its standard fillings.
use Rattle.std.specs.Prelude.{◌≡◌, ℕ, Bool, true, false, All, List, [], ◌∷◌, ◌++◌, flat_map, length, Option, None, if◌then◌else◌}
use Rattle.predicate_core.specs.declared.pred.Pred.{Pred}
use Rattle.predicate_core.specs.declared.pred.Pred.TheVariants.{Always}
use Rattle.table_core.specs.Rows.{types_of}
use Rattle.table_core.specs.declared.task.TaskParts.{TaskParts}
use Rattle.query_core.specs.Tree.{Tree, Select}
use Rattle.query_core.specs.Tree as t
use Rattle.query_core.specs.Grammar.{maps}
use Rattle.query_core.specs.Membership.{query_fault}
use Rattle.query_core.specs.Answers.{RankedQuery, ranked}
use Rattle.query_core.specs.Filled.{Filled, standard_fillings}
use Rattle.fill_core.specs.Bounds.{Passes}
use Rattle.root_search.specs.Targets.{rows_give}

-- a tree whose holes were given the first of some predicates, and the predicates that are left
pub record Given : Type 0 where
  pub tree : Tree
  pub left : List Pred

-- the next of some predicates, Always where none is left, and what is left behind it
abbrev pub next_pred : List Pred → Pred
next_pred [] = Always
next_pred (p ∷ preds) = p

abbrev pub behind : List Pred → List Pred
behind [] = []
behind (p ∷ preds) = preds

-- a tree with the next of some predicates in each of its holes, from the left part to the right part to the node
abbrev pub given : Tree → List Pred → Given
given (t.base table) preds = record { tree = t.base table; left = preds }
given (t.filter child p) preds = record { tree = t.filter (given child preds).tree (next_pred (given child preds).left); left = behind (given child preds).left }
given (t.pair kind a b p) preds = record {
  tree = t.pair kind (given a preds).tree (given b (given a preds).left).tree (next_pred (given b (given a preds).left).left);
  left = behind (given b (given a preds).left).left;
}
given (t.group child keys agg) preds = record { tree = t.group (given child preds).tree keys agg; left = (given child preds).left }
given (t.unite kind a b) preds = record { tree = t.unite kind (given a preds).tree (given b (given a preds).left).tree; left = (given b (given a preds).left).left }

-- a skeleton with these predicates
abbrev pub with_preds : Tree → List Pred → Tree
with_preds skeleton preds = (given skeleton preds).tree

-- the query of a skeleton with these predicates, this map and flag
abbrev pub query_of : Tree → List Pred → List ℕ → Bool → Select
query_of skeleton preds picks distinct = record { body = with_preds skeleton preds; picks = picks; distinct = distinct }

-- the query of a filling with this map and flag, where it gives the output
abbrev pub answer_by : TaskParts → ℕ → Tree → Filled → List ℕ → Bool → List RankedQuery
answer_by task n skeleton f picks distinct =
    if rows_give picks distinct f.rows task.output.rows then ranked task (record { skeleton = n; query = query_of skeleton f.preds picks distinct }) ∷ [] else []

-- the answers of a filling with this map, with and without removal of duplicates
abbrev pub answers_by : TaskParts → ℕ → Tree → Filled → List ℕ → List RankedQuery
answers_by task n skeleton f picks = answer_by task n skeleton f picks false ++ answer_by task n skeleton f picks true

-- the answers of a filling of the skeleton of this number
abbrev pub answers_on : TaskParts → ℕ → Tree → Filled → List RankedQuery
answers_on task n skeleton f = flat_map (answers_by task n skeleton f) (maps f.types (types_of task.output))

-- the answers of a skeleton with its number
abbrev pub root_answers : TaskParts → ℕ × Tree → List RankedQuery
root_answers task s = flat_map (answers_on task s.0 s.1) (standard_fillings task s.1)

-- some answers and more are together more than a bound, where there is one
abbrev pub TooMany : Option ℕ → List RankedQuery → List RankedQuery → Type 0
TooMany bound found more = Passes bound (length (found ++ more))

-- the queries of a skeleton with these predicates, and a map of these, are of the grammar
abbrev pub AreOfGrammar : TaskParts → Tree → List Pred → List (List ℕ) → Type 0
AreOfGrammar task skeleton preds picked = All (λ picks. (distinct : Bool) → query_fault task (query_of skeleton preds picks distinct) ≡ None) picked

-- so are those of a filling
abbrev pub FillingFits : TaskParts → Tree → Filled → Type 0
FillingFits task skeleton f = AreOfGrammar task skeleton f.preds (maps f.types (types_of task.output))

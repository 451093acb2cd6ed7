-- The task of a number: two tables and a constant that seem drawn at random, and what one query gives of them.
use Rattle.std.specs.Prelude.{ℕ, ◌+◌, ◌-◌, ◌*◌, pos, false, List, [], ◌∷◌, ◌++◌, map, codes, unwrap_or}
use Rattle.std.specs.List.{range_with_len}
use Rattle.value_core.specs.declared.value.Value.{Value}
use Rattle.value_core.specs.declared.value.Value.TheVariants.{Int, Text}
use Rattle.value_core.specs.declared.value.ColType.TheVariants as kind
use Rattle.value_core.specs.declared.comparison.CmpOp.TheVariants.{Eq, Gt}
use Rattle.predicate_core.specs.declared.atom.Atom.TheVariants.{Cols, Const}
use Rattle.predicate_core.specs.declared.pred.Pred.TheVariants.{And2}
use Rattle.table_core.specs.Rows.{Row, TableData}
use Rattle.table_core.specs.declared.agg_set.AggSet.{AggSet}
use Rattle.table_core.specs.declared.column.Column.{Column}
use Rattle.table_core.specs.declared.task.TaskParts.{TaskParts}
use Rattle.query_core.specs.Tree.{Select}
use Rattle.query_core.specs.Tree as t
use Rattle.query_core.specs.Meaning.{answer}
use Rattle.query_core.specs.declared.kinds.Pairing.TheVariants.{Join}
use Rattle.gen_task.specs.Draws.{draw, state_after}

-- a whole number as a value
abbrev pub whole : ℕ → Value
whole n = Int (pos n)

-- a column of whole numbers, and one of texts
abbrev pub whole_column : List ℕ → Column
whole_column name = record { name = name; kind = kind.Int }

abbrev pub text_column : List ℕ → Column
text_column name = record { name = name; kind = kind.Text }

-- row i of table `a`, i from 1 on, by the draws from a state: two to a row
unfoldable pub row_a : ℕ → ℕ → Row
row_a x i = whole i ∷ whole (draw x (2 * i - 1) 16) ∷ whole (draw x (2 * i) 100) ∷ []

-- row j of table `b`, j from 0 on, by the draws from a state: one to a row; 48 is the digit 0
unfoldable pub row_b : ℕ → ℕ → Row
row_b x j = whole j ∷ Text (codes "t" ++ (48 + draw x (j + 1) 3) ∷ []) ∷ []

-- the columns and the rows of table `a`
abbrev pub columns_a : List Column
columns_a = whole_column (codes "id") ∷ whole_column (codes "grp") ∷ whole_column (codes "val") ∷ []

unfoldable pub rows_a : ℕ → List Row
rows_a x = map (row_a x) (range_with_len 1 16)

-- the columns and the rows of table `b`
abbrev pub columns_b : List Column
columns_b = whole_column (codes "grp") ∷ text_column (codes "tag") ∷ []

unfoldable pub rows_b : ℕ → List Row
rows_b x = map (row_b x) (range_with_len 0 16)

-- the tables that are drawn from a state
abbrev pub table_a : ℕ → TableData
table_a x = record { name = codes "a"; columns = columns_a; rows = rows_a x }

abbrev pub table_b : ℕ → TableData
table_b x = record { name = codes "b"; columns = columns_b; rows = rows_b x }

-- the inputs of a number's task: the second's draws go on where the first's end
abbrev pub inputs : ℕ → List TableData
inputs number = table_a number ∷ table_b (state_after number 32) ∷ []

-- the constant, whose draw comes behind those of the inputs
abbrev pub constants : ℕ → List Value
constants number = whole (draw (state_after (state_after number 32) 16) 1 100) ∷ []

-- SELECT a.id, b.tag FROM a JOIN b ON a.grp = b.grp AND a.val > the constant
abbrev pub query : Select
query = record {
  body = t.pair Join (t.base 0) (t.base 1) (And2 (Cols 1 Eq 3) (Const 2 Gt 0));
  picks = 0 ∷ 4 ∷ [];
  distinct = false;
}

-- the columns and the rows of the output: what the query gives
abbrev pub columns_out : List Column
columns_out = whole_column (codes "id") ∷ text_column (codes "tag") ∷ []

unfoldable pub rows_out : List TableData → List Value → List Row
rows_out ins ks = unwrap_or (answer ins ks query) []

abbrev pub table_out : List TableData → List Value → TableData
table_out ins ks = record { name = codes "out"; columns = columns_out; rows = rows_out ins ks }

abbrev pub no_aggregates : AggSet
no_aggregates = record { count_all = false; count = false; count_distinct = false; sum = false; min = false; max = false }

-- the task of a number
abbrev pub made : ℕ → TaskParts
made number = record {
  inputs = inputs number;
  output = table_out (inputs number) (constants number);
  constants = constants number;
  aggregates = no_aggregates;
  ops = 1;
  leaves = 2;
  atoms = 3;
  show = 25;
  budget = 400000;
}

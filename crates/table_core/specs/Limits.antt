-- What a task is made of, and the limits of its parts.
use Rattle.std.specs.Prelude.{ℕ, Bool, true, false, not, ◌&&◌, List, [], ◌∷◌, length, nat_eq, nat_le, Option, Some, None, if◌then◌else◌}
use Rattle.std.specs.List.{list_all, list_any}
use Rattle.std.specs.Cmp.Lexicographic.{pointwise}
use Rattle.value_core.specs.Value.{same, is_null}
use Rattle.value_core.specs.declared.value.Value.{Value}
use Rattle.table_core.specs.Rows.{TableData}
use Rattle.table_core.specs.declared.column.Column.{Column}
use Rattle.table_core.specs.declared.limits.TheConstants.{MOST_INPUTS, MOST_COLUMNS, MOST_ROWS, MOST_OUTPUT_COLUMNS, MOST_OUTPUT_ROWS, MOST_CONSTANTS, MOST_OPS, MOST_LEAVES, MOST_ATOMS, MOST_SHOWN, LARGEST_BUDGET}
use Rattle.table_core.specs.declared.task.TaskParts.{TaskParts}

-- whether a number is one of those from low to high
abbrev pub within : ℕ → ℕ → ℕ → Bool
within low high n = nat_le low n && nat_le n high

-- whether no two of a list are the same by this test
abbrev pub all_distinct : {A : Type 0} → (A → A → Bool) → List A → Bool
all_distinct alike [] = true
all_distinct alike (x ∷ xs) = not (list_any (λ y. alike y x) xs) && all_distinct alike xs

-- whether two columns have the same name
abbrev pub same_column_name : Column → Column → Bool
same_column_name c d = pointwise nat_eq c.name d.name

-- whether two tables have the same name
abbrev pub same_table_name : TableData → TableData → Bool
same_table_name t u = pointwise nat_eq t.name u.name

-- whether a table has 1 to `widest` columns, all of distinct names, and at most `longest` rows
abbrev pub is_table_within : ℕ → ℕ → TableData → Bool
is_table_within widest longest table =
    (within 1 widest (length table.columns) && nat_le (length table.rows) longest) && all_distinct same_column_name table.columns

-- 1 to so many inputs of distinct names, each within its limits
abbrev pub are_inputs_within : List TableData → Bool
are_inputs_within inputs =
    (within 1 MOST_INPUTS (length inputs) && list_all (is_table_within MOST_COLUMNS MOST_ROWS) inputs) && all_distinct same_table_name inputs

-- an output within its limits
abbrev pub is_output_within : TableData → Bool
is_output_within output = is_table_within MOST_OUTPUT_COLUMNS MOST_OUTPUT_ROWS output

-- not too many constants, all distinct and none of them NULL
abbrev pub are_constants_within : List Value → Bool
are_constants_within constants =
    (nat_le (length constants) MOST_CONSTANTS && list_all (λ c. not (is_null c)) constants) && all_distinct same constants

-- the number of the first number of a task that is out of its limits: ops, leaves, atoms, show, budget
abbrev pub first_bad_number : TaskParts → Option ℕ
first_bad_number task =
    if not (within 0 MOST_OPS task.ops) then Some 5
    else (if not (within 1 MOST_LEAVES task.leaves) then Some 6
    else (if not (within 1 MOST_ATOMS task.atoms) then Some 7
    else (if not (within 1 MOST_SHOWN task.show) then Some 8
    else (if not (within 1 LARGEST_BUDGET task.budget) then Some 9
    else None))))

-- the number of the first part that is out of its limits, in the order of the fields; the aggregates, the fourth, never are
abbrev pub first_bad_part : TaskParts → Option ℕ
first_bad_part task =
    if not (are_inputs_within task.inputs) then Some 1
    else (if not (is_output_within task.output) then Some 2
    else (if not (are_constants_within task.constants) then Some 3
    else first_bad_number task))

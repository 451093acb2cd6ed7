-- Tables as bags: a row may occur several times, and the order of rows carries no meaning.
use Rattle.std.specs.Prelude.{ℕ, Bool, List, [], ◌∷◌, ◌++◌, length, ◌==◌, ◌&&◌, ◌||◌, false, count_by}
use Rattle.std.specs.List.{list_all, list_any}
use Rattle.std.specs.Cmp.Lexicographic.{pointwise}
use Rattle.value_core.specs.Value.{same}
use Rattle.table_core.specs.Rows.{Row, TableData}

-- whether two rows are the same, NULL being the same as NULL
abbrev pub same_cells : Row → Row → Bool
same_cells = pointwise same

-- the number of places of a row
abbrev pub count : List Row → Row → ℕ
count rows row = count_by (λ r. same_cells r row) rows

-- whether two lists of rows are one bag: each row of either has as many places in both
abbrev pub same_rows : List Row → List Row → Bool
same_rows xs ys = list_all (λ r. count xs r == count ys r) (xs ++ ys)

-- whether two tables are one bag: as many columns, and each row as often in both
abbrev pub same_bag : TableData → TableData → Bool
same_bag t u = (length t.columns == length u.columns) && same_rows t.rows u.rows

-- whether some row has two places
abbrev pub has_double : List Row → Bool
has_double [] = false
has_double (row ∷ rows) = list_any (λ r. same_cells r row) rows || has_double rows

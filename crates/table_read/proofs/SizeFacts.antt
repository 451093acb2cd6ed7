-- A table that a file tells is within its size, and has the name that it is given.
use Rattle.std.proofs.Common.{◌≡◌, ◌≤◌, ◌+◌, ◌∙◌, ℕ, true, List, [], ◌∷◌, length, Option, Result, Ok, Err, ap, sym, refl, arith}
use Rattle.std.specs.Prelude.{IfOk, nat_eq, nat_le, nat_lt}
use Rattle.std.proofs.lemmas.Bool.{leb-true, le-leb, ltb-true}
use Rattle.std.specs.List.{All}
use Rattle.std.specs.Cmp.Lexicographic.{pointwise}
use Rattle.std.proofs.lemmas.List.{length-map}
use Rattle.std.proofs.lemmas.List.Elements.{All-head}
use Rattle.csv_records.specs.Records.{records_of}
use Rattle.csv_records.proofs.RecordsFacts.{HasField, records_have_fields}
use Rattle.first_fault.specs.Answer.{Reads}
use Rattle.first_fault.specs.declared.stop.Stop.{Stop}
use Rattle.first_fault.specs.Reading.{each, kept_or}
use Rattle.value_core.specs.Text.{is_text}
use Rattle.value_core.specs.declared.value.ColType.{ColType}
use Rattle.table_core.specs.Limits.{all_distinct, is_table_within, same_column_name}
use Rattle.table_core.specs.Rows.{TableData}
use Rattle.table_read.specs.Table.{Fields, are_types_of, columns_of, line_at, names_of, table_in, table_of, table_under, table_with, tuple_at}
use Rattle.table_read.specs.declared.size.Size.{Size}
use Rattle.table_read.specs.declared.fault.TableFault.{TableFault}
use Rattle.table_read.specs.declared.fault.TableFault.TheVariants.{BadText, BadTypes, TooManyColumns, TooManyRows}
use Rattle.table_read.proofs.StepFacts.{binds, kept, each_length}
use Rattle.table_read.proofs.DistinctNames.{columns_distinct, columns_names, names_distinct}

-- the places of the rows are below the limit
lines_within : (longest width at : ℕ) (rows lines : List Fields) → at ≤ longest → each (line_at longest width) at rows ≡ Ok lines → at + length lines ≤ longest
lines_within longest width at [] lines h e = let none : lines ≡ [] = cc in rw none (omega arith)
lines_within longest width at (row ∷ rows) lines h e =
    let first = binds (line_at longest width at row) _ lines e in
    let line = binds (kept_or TooManyRows (nat_lt at longest) row) _ first.0 first.1 in
    let below = ltb-true at longest (kept TooManyRows (nat_lt at longest) row line.0 line.1).0 in
    let rest = binds (each (line_at longest width) (at + 1) rows) _ lines first.2 in
    let more = lines_within longest width (at + 1) rows rest.0 (omega arith) rest.1 in
    let whole : first.0 ∷ rest.0 ≡ lines = cc rest.2 in
    rw (← whole) (omega arith)

-- a table whose parts are within the limits
parts_within : (widest longest : ℕ) (table : TableData) → 1 ≤ length table.columns → length table.columns ≤ widest → length table.rows ≤ longest
    → all_distinct same_column_name table.columns ≡ true → is_table_within widest longest table ≡ true
parts_within widest longest table some wide long d =
    rw (le-leb 1 (length table.columns) some, le-leb (length table.columns) widest wide, le-leb (length table.rows) longest long, d) refl

names_within : (widest : ℕ) (header : Fields) (names : List (List ℕ)) → names_of widest header ≡ Ok names
    → (length names ≡ length header) × (length header ≤ widest) × (all_distinct (pointwise nat_eq) names ≡ true)
unfolding names_of
names_within widest header names e =
    let fields = binds (kept_or TooManyColumns (nat_le (length header) widest) header) _ names e in
    let few = kept TooManyColumns (nat_le (length header) widest) header fields.0 fields.1 in
    let found = names_distinct 0 [] fields.0 names fields.2 refl in
    (rw few.1 (omega (arith, found.0)), leb-true (length header) widest few.0, found.1)

table_under_within : (name : List ℕ) (size : Size) (types : Option (List ColType)) (header : Fields) (rows : List Fields) (table : TableData) → 1 ≤ length header
    → table_under name size types header rows ≡ Ok table → (is_table_within size.columns size.rows table ≡ true) × (table.name ≡ name)
unfolding table_under table_with
table_under_within name size types header rows table some e =
    let names = binds (names_of size.columns header) _ table e in
    let declared = binds (kept_or BadTypes (are_types_of (length names.0) types) types) _ table names.2 in
    let lines = binds (each (line_at size.rows (length names.0)) 0 rows) _ table declared.2 in
    let tuples = binds (each (tuple_at (columns_of declared.0 names.0 lines.0)) 0 lines.0) _ table lines.2 in
    let good = names_within size.columns header names.0 names.1 in
    let typed = kept BadTypes (are_types_of (length names.0) types) types declared.0 declared.1 in
    let long = lines_within size.rows (length names.0) 0 rows lines.0 (omega arith) lines.1 in
    let rows_long = each_length (tuple_at (columns_of declared.0 names.0 lines.0)) 0 lines.0 tuples.0 tuples.1 in
    let have = columns_names declared.0 names.0 lines.0 (rw (← typed.1) typed.0) in
    let width : length (columns_of declared.0 names.0 lines.0) ≡ length names.0 = sym (length-map _ _) ∙ ap length have in
    let whole : record { name = name; columns = columns_of declared.0 names.0 lines.0; rows = tuples.0 } ≡ table = cc tuples.2 in
    rw (← whole) (parts_within size.columns size.rows (record { name = name; columns = columns_of declared.0 names.0 lines.0; rows = tuples.0 }) (omega arith) (omega arith) (omega arith) (columns_distinct _ names.0 have good.2), refl)

table_in_within : (name : List ℕ) (size : Size) (types : Option (List ColType)) (records : List Fields) (table : TableData) → All HasField records
    → table_in name size types records ≡ Ok table → (is_table_within size.columns size.rows table ≡ true) × (table.name ≡ name)
table_in_within name size types [] table all e = cc
table_in_within name size types (header ∷ rows) table all e = table_under_within name size types header rows table (All-head HasField header rows all) e

table_within : (name : List ℕ) (size : Size) (types : Option (List ColType)) (bytes : List ℕ) (table : TableData) → table_of name size types bytes ≡ Ok table
    → (is_table_within size.columns size.rows table ≡ true) × (table.name ≡ name)
unfolding table_of
table_within name size types bytes table e =
    let text = binds (kept_or BadText (is_text bytes) bytes) _ table e in
    table_in_within name size types (records_of text.0) table (records_have_fields text.0) text.2

pub answer_within : (name : List ℕ) (size : Size) (types : Option (List ColType)) (bytes : List ℕ) (answer : Result TableData (Stop TableFault))
    → Reads answer (table_of name size types bytes) → IfOk answer (λ table. is_table_within size.columns size.rows table ≡ true)
answer_within name size types bytes (Ok table) e = (table_within name size types bytes table e).0
answer_within name size types bytes (Err stop) e = tt

pub answer_named : (name : List ℕ) (size : Size) (types : Option (List ColType)) (bytes : List ℕ) (answer : Result TableData (Stop TableFault))
    → Reads answer (table_of name size types bytes) → IfOk answer (λ table. table.name ≡ name)
answer_named name size types bytes (Ok table) e = (table_within name size types bytes table e).1
answer_named name size types bytes (Err stop) e = tt

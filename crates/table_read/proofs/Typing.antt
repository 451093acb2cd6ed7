-- The rows that a file's rows spell in columns fit these columns.
use Rattle.std.proofs.Common.{◌≡◌, ◌+◌, ℕ, List, [], ◌∷◌, length, Bool, true, false, Option, Some, None, Ok, eq-eqb, refl}
use Rattle.std.specs.Prelude.{◌==◌, if◌then◌else◌, option_map}
use Rattle.first_fault.specs.Reading.{each}
use Rattle.value_core.specs.Value.{fits}
use Rattle.value_core.specs.Integer.{integer_of}
use Rattle.value_core.specs.declared.value.Value.{Value}
use Rattle.value_core.specs.declared.value.Value.TheVariants.{Null, Int, Text}
use Rattle.value_core.specs.declared.value.ColType.{ColType}
use Rattle.value_core.specs.declared.value.ColType.TheVariants as kind
use Rattle.table_core.specs.Rows.{Row, are_typed, fits_columns, wrong_cell}
use Rattle.table_core.specs.declared.column.Column.{Column}
use Rattle.table_read.specs.Table.{Fields, cell_at, cell_of, field_at, filled_cell, tuple_at, word_of}
use Rattle.table_read.specs.declared.fault.TableFault.TheVariants.{BadCell}
use Rattle.table_read.proofs.StepFacts.{binds, found}

maps : {A B : Type 0} (o : Option A) (f : A → B) (y : B) → option_map f o ≡ Some y → (x : A) × (y ≡ f x)
maps None f y e = cc
maps (Some x) f y e = (x, cc)

fits_null : (type : ColType) → fits type Null ≡ true
fits_null kind.Int = refl
fits_null kind.Text = refl

fits_filled : (type : ColType) (field : List ℕ) (cell : Value) → filled_cell type field ≡ Some cell → fits type cell ≡ true
fits_filled kind.Int field cell e = let m = maps (integer_of field) Int cell e in rw m.1 refl
fits_filled kind.Text field cell e = let m = maps (word_of field) Text cell e in rw m.1 refl

fits_choice : (empty : Bool) (type : ColType) (field : List ℕ) (cell : Value) → (if empty then Some Null else filled_cell type field) ≡ Some cell → fits type cell ≡ true
fits_choice true type field cell e = let null : cell ≡ Null = cc in rw null (fits_null type)
fits_choice false type field cell e = fits_filled type field cell e

fits_cell : (type : ColType) (field : List ℕ) (cell : Value) → cell_of type field ≡ Some cell → fits type cell ≡ true
fits_cell type field cell e = fits_choice (length field == 0) type field cell e

-- a row has a cell for each column, and none of a wrong type
row_typed : (place at number : ℕ) (columns : List Column) (row : Fields) (cells : Row) → each (cell_at place row) at columns ≡ Ok cells
    → (length cells ≡ length columns) × (wrong_cell number columns cells ≡ None)
row_typed place at number [] row cells e = let none : cells ≡ [] = cc in rw none (refl, refl)
row_typed place at number (c ∷ cs) row cells e =
    let first = binds (cell_at place row at c) _ cells e in
    let rest = binds (each (cell_at place row) (at + 1) cs) _ cells first.2 in
    let more = row_typed place (at + 1) (number + 1) cs row rest.0 rest.1 in
    let fit = fits_cell c.kind (field_at row at) first.0 (found (BadCell (place + 1) (at + 1)) _ _ first.1) in
    let whole : cells ≡ first.0 ∷ rest.0 = cc rest.2 in
    rw (whole, fit) (rw more.0 refl, more.1)

row_fits : (place : ℕ) (columns : List Column) (row : Fields) (cells : Row) → tuple_at columns place row ≡ Ok cells → fits_columns columns cells ≡ true
row_fits place columns row cells e =
    let t = row_typed place 0 0 columns row cells e in
    let same : (length columns == length columns) ≡ true = eq-eqb (length columns) (length columns) refl in
    rw (t.0, t.1, same) refl

rows_typed : (place : ℕ) (columns : List Column) (rows : List Fields) (tuples : List Row) → each (tuple_at columns) place rows ≡ Ok tuples → are_typed columns tuples ≡ true
rows_typed place columns [] tuples e = let none : tuples ≡ [] = cc in rw none refl
rows_typed place columns (row ∷ rows) tuples e =
    let first = binds (tuple_at columns place row) _ tuples e in
    let rest = binds (each (tuple_at columns) (place + 1) rows) _ tuples first.2 in
    let whole : tuples ≡ first.0 ∷ rest.0 = cc rest.2 in
    rw (whole, row_fits place columns row first.0 first.1) (rows_typed (place + 1) columns rows rest.0 rest.1)

pub tuples_typed : (columns : List Column) (rows : List Fields) (tuples : List Row) → each (tuple_at columns) 0 rows ≡ Ok tuples → are_typed columns tuples ≡ true
tuples_typed columns rows tuples e = rows_typed 0 columns rows tuples e

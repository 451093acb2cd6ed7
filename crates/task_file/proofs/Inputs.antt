-- The inputs that were read: as many as there are tables, of distinct names.
use Rattle.std.proofs.Common.{◌≡◌, ℕ, ◌+◌, true, false, not, List, [], ◌∷◌, ◌++◌, map, length, codes, Some, Ok, refl, ap, subst, ◌∙◌, arith}
use Rattle.std.proofs.lemmas.Bool.{not-true}
use Rattle.std.proofs.lemmas.List.{map-append, length_push}
use Rattle.std.specs.List.{list_all, list_any}
use Rattle.std.specs.Option.{is_some}
use Rattle.std.specs.Str.{bytes_eq}
use Rattle.toml.specs.Data.{Data, Members, as_table}
use Rattle.first_fault.specs.Reading.{found_or}
use Rattle.toml_keys.specs.Keys.{when, within, text_of, array_of, required, known, under}
use Rattle.toml_keys.specs.declared.fault.KeyFault.TheVariants.{BadKey}
use Rattle.value_core.specs.declared.word.TheConstants.{LONGEST_WORD}
use Rattle.table_core.specs.Limits.{all_distinct}
use Rattle.table_core.specs.declared.limits.TheConstants.{MOST_COLUMNS, MOST_INPUTS}
use Rattle.task_file.specs.TaskFile.{is_named, name_of, input_keys, file_at, types_at, input_in, input_of, inputs_after, tables_of, inputs_of}
use Rattle.task_file.specs.declared.table_file.InputFile.{InputFile}
use Rattle.task_file.proofs.Distinct.{any_of_map, distinct_push}
use Rattle.task_file.proofs.Steps.{bind_ok, ok_same, renamed_ok, required_some, then_some, when_some, array_within}

-- the names of inputs
abbrev pub names_of : List InputFile → List (List ℕ)
names_of inputs = map (λ (i : InputFile). i.name) inputs

-- a name that was read is none of the earlier ones
name_fresh : (earlier : List InputFile) (value : Data) (name : List ℕ) → name_of earlier value ≡ Some name → is_named earlier name ≡ false
unfolding name_of
name_fresh earlier value name e =
    let read = then_some (text_of LONGEST_WORD value) (λ found. when (not (is_named earlier found)) found) name e in
    let kept = when_some (not (is_named earlier read.0)) read.0 name read.2 in
    subst (λ found. is_named earlier found ≡ false) kept.1 (not-true (is_named earlier read.0) kept.0)

-- the same of an input in its table
input_in_fresh : (earlier : List InputFile) (members : Members) (input : InputFile) → input_in earlier members ≡ Ok input → is_named earlier input.name ≡ false
unfolding input_in
input_in_fresh earlier members input e =
    let table = bind_ok (known input_keys members) _ input e in
    let name = bind_ok (required (codes "name") (name_of earlier) table.0) _ input table.2 in
    let file = bind_ok (file_at table.0) _ input name.2 in
    let types = bind_ok (types_at MOST_COLUMNS table.0) _ input file.2 in
    let read = required_some (codes "name") (name_of earlier) table.0 name.0 name.1 in
    let made : record { name = name.0; file = file.0; types = types.0 } ≡ input = ok_same _ input types.2 in
    subst (λ (i : InputFile). is_named earlier i.name ≡ false) made (name_fresh earlier read.0 name.0 read.1)

-- the same of an input of a value
input_fresh : (earlier : List InputFile) (value : Data) (input : InputFile) → input_of earlier value ≡ Ok input → is_named earlier input.name ≡ false
unfolding input_of
input_fresh earlier value input e =
    let table = bind_ok (found_or (BadKey (codes "input")) (as_table value)) _ input e in
    input_in_fresh earlier table.0 input (renamed_ok (under (codes "input.")) (input_in earlier table.0) input table.2)

-- inputs after earlier ones of distinct names have distinct names
inputs_after_distinct : (earlier : List InputFile) (values : List Data) (inputs : List InputFile) → all_distinct bytes_eq (names_of earlier) ≡ true → inputs_after earlier values ≡ Ok inputs
    → (all_distinct bytes_eq (names_of inputs) ≡ true) × (length inputs ≡ length earlier + length values)
inputs_after_distinct earlier [] inputs distinct e =
    let same : earlier ≡ inputs = cc in
    subst (λ (found : List InputFile). (all_distinct bytes_eq (names_of found) ≡ true) × (length found ≡ length earlier + 0)) same (distinct, omega arith)
inputs_after_distinct earlier (value ∷ values) inputs distinct e =
    let step = bind_ok (input_of earlier value) (λ input. inputs_after (earlier ++ input ∷ []) values) inputs e in
    let name = (step.0).name in
    let fresh : list_any (λ other. bytes_eq other name) (names_of earlier) ≡ false = any_of_map (λ (i : InputFile). i.name) (λ other. bytes_eq other name) earlier ∙ input_fresh earlier value step.0 step.1 in
    let more : all_distinct bytes_eq (names_of (earlier ++ step.0 ∷ [])) ≡ true = ap (all_distinct bytes_eq) (map-append (λ (i : InputFile). i.name) earlier (step.0 ∷ [])) ∙ distinct_push (names_of earlier) name distinct fresh in
    let rest = inputs_after_distinct (earlier ++ step.0 ∷ []) values inputs more step.2 in
    let one = length_push earlier step.0 in
    (rest.0, omega arith)

tables_within : (value : Data) (values : List Data) → tables_of value ≡ Some values → within 1 MOST_INPUTS (length values) ≡ true
unfolding tables_of
tables_within value values e =
    let read = then_some (array_of 1 MOST_INPUTS value) (λ items. when (list_all (λ item. is_some (as_table item)) items) items) values e in
    let kept = when_some (list_all (λ item. is_some (as_table item)) read.0) read.0 values read.2 in
    subst (λ (items : List Data). within 1 MOST_INPUTS (length items) ≡ true) kept.1 (array_within 1 MOST_INPUTS value read.0 read.1)

-- the inputs of a task
pub inputs_distinct : (members : Members) (inputs : List InputFile) → inputs_of members ≡ Ok inputs → (within 1 MOST_INPUTS (length inputs) ≡ true) × (all_distinct bytes_eq (names_of inputs) ≡ true)
unfolding inputs_of
inputs_distinct members inputs e =
    let tables = bind_ok (required (codes "input") tables_of members) (inputs_after []) inputs e in
    let read = required_some (codes "input") tables_of members tables.0 tables.1 in
    let rest = inputs_after_distinct [] tables.0 inputs refl tables.2 in
    let many : length tables.0 ≡ length inputs = omega arith in
    (subst (λ n. within 1 MOST_INPUTS n ≡ true) many (tables_within read.0 tables.0 read.1), rest.0)

-- What a task file says is within the limits of a task.
use Rattle.std.proofs.Common.{◌≡◌, ℕ, ℤ, Bool, true, not, ◌&&◌, nat_le, List, [], ◌∷◌, map, length, codes, Option, Some, None, option_map, Ok, if◌then◌else◌, refl, sym, ap, subst, ◌∙◌}
use Rattle.std.proofs.lemmas.Bool.{and_parts}
use Rattle.std.proofs.lemmas.List.{length-map}
use Rattle.std.specs.List.{list_all}
use Rattle.std.specs.Option.{option_or}
use Rattle.std.specs.Str.{bytes_eq}
use Rattle.toml.specs.Data.{Data, Members, as_integer}
use Rattle.toml_keys.specs.Keys.{◌>>=◌ as ◌>>?◌, when, number_of, text_of, array_of, optional, known}
use Rattle.value_core.specs.Value.{same, is_null}
use Rattle.value_core.specs.declared.value.Value.{Value}
use Rattle.value_core.specs.declared.value.Value.TheVariants.{Int, Text}
use Rattle.value_core.specs.declared.word.TheConstants.{LONGEST_WORD}
use Rattle.table_core.specs.Rows.{TableData}
use Rattle.table_core.specs.Limits.{within, all_distinct, same_table_name, is_table_within, is_output_within, are_inputs_within, are_constants_within, first_bad_part}
use Rattle.table_core.specs.declared.limits.TheConstants.{LARGEST_BUDGET, MOST_ATOMS, MOST_COLUMNS, MOST_CONSTANTS, MOST_INPUTS, MOST_LEAVES, MOST_OPS, MOST_ROWS, MOST_SHOWN}
use Rattle.task_file.specs.TaskFile.{MakesTask, aggregates_named, aggregates_of, all_distinct as all_others_distinct, all_some, constant_of, constants_of, inputs_of, output_of, parts_of, task_keys, task_of}
use Rattle.task_file.specs.declared.table_file.InputFile.{InputFile}
use Rattle.task_file.specs.declared.task.TaskFile.{TaskFile}
use Rattle.task_file.proofs.Distinct.{distinct_flipped, distinct_of_map, same-flip}
use Rattle.task_file.proofs.Inputs.{inputs_distinct, names_of}
use Rattle.task_file.proofs.Steps.{array_within, bind_ok, number_at_within, ok_same, optional_keeps, then_some, when_some}

-- a value that was read isn't NULL
never_null : (number : Option ℤ) (text : Option (List ℕ)) (constant : Value) → option_or (option_map Int number) (option_map Text text) ≡ Some constant → not (is_null constant) ≡ true
never_null (Some n) text constant e = let same : Int n ≡ constant = cc in subst (λ c. not (is_null c) ≡ true) same refl
never_null None (Some t) constant e = let same : Text t ≡ constant = cc in subst (λ c. not (is_null c) ≡ true) same refl
never_null None None constant e = absurd (cc)

constant_not_null : (value : Data) (constant : Value) → constant_of value ≡ Some constant → not (is_null constant) ≡ true
unfolding constant_of
constant_not_null value constant e = never_null (as_integer value) (text_of LONGEST_WORD value) constant e

mapped_some : {B : Type 0} (y : B) (rest : Option (List B)) (out : List B) → option_map (λ ys. y ∷ ys) rest ≡ Some out → (ys : List B) × (rest ≡ Some ys) × (y ∷ ys ≡ out)
mapped_some y (Some ys) out e = (ys, refl, cc)
mapped_some y None out e = absurd (cc)

all_some_more : {B : Type 0} (first : Option B) (rest : List (Option B)) (out : List B) → all_some (first ∷ rest) ≡ Some out → (y : B) × (ys : List B) × (first ≡ Some y) × (all_some rest ≡ Some ys) × (y ∷ ys ≡ out)
all_some_more (Some y) rest out e = let more = mapped_some y (all_some rest) out e in (y, more.0, refl, more.1, more.2)
all_some_more None rest out e = absurd (cc)

-- where each value was read, there are as many, and each keeps what one that is read keeps
all_some_keeps : {A B : Type 0} (read : A → Option B) (kept : B → Bool) → ((x : A) (y : B) → read x ≡ Some y → kept y ≡ true) → (xs : List A) (out : List B) → all_some (map read xs) ≡ Some out
    → (length out ≡ length xs) × (list_all kept out ≡ true)
all_some_keeps read kept keeps [] out e = let same : [] ≡ out = cc in subst (λ ys. (length ys ≡ 0) × (list_all kept ys ≡ true)) same (refl, refl)
all_some_keeps read kept keeps (x ∷ xs) out e =
    let more = all_some_more (read x) (map read xs) out e in
    let rest = all_some_keeps read kept keeps xs more.1 more.3 in
    subst (λ ys. (length ys ≡ length (x ∷ xs)) × (list_all kept ys ≡ true)) more.4 (rw rest.0 refl, rw (keeps x more.0 more.2, rest.1) refl)

-- constants that were read
constants_within : (value : Data) (constants : List Value) → constants_of value ≡ Some constants → are_constants_within constants ≡ true
unfolding constants_of
constants_within value constants e =
    let listed = then_some (array_of 0 MOST_CONSTANTS value >>? (λ items. all_some (map constant_of items))) (λ found. when (all_others_distinct same found) found) constants e in
    let items = then_some (array_of 0 MOST_CONSTANTS value) (λ found. all_some (map constant_of found)) listed.0 listed.1 in
    let kept = when_some (all_others_distinct same listed.0) listed.0 constants listed.2 in
    let each = all_some_keeps constant_of (λ c. not (is_null c)) constant_not_null items.0 listed.0 items.2 in
    let few : nat_le (length listed.0) MOST_CONSTANTS ≡ true = rw each.0 (and_parts (nat_le 0 (length items.0)) (nat_le (length items.0) MOST_CONSTANTS) (array_within 0 MOST_CONSTANTS value items.0 items.1)).1 in
    let distinct : all_distinct same listed.0 ≡ true = distinct_flipped same same-flip listed.0 ∙ kept.0 in
    subst (λ found. are_constants_within found ≡ true) kept.1 (rw (few, each.1, distinct) refl)

both : (a b : Bool) → a ≡ true → b ≡ true → (a && b) ≡ true
both a b x y = rw (x, y) refl

passes : (test : Bool) (part : ℕ) (rest : Option ℕ) → test ≡ true → rest ≡ None → (if not test then Some part else rest) ≡ None
passes test part rest h e = rw (h, e) refl

-- tables of these names, each within its limits
tables_within : (inputs : List InputFile) (tables : List TableData) → within 1 MOST_INPUTS (length inputs) ≡ true → all_distinct bytes_eq (names_of inputs) ≡ true
    → map (λ (t : TableData). t.name) tables ≡ names_of inputs → list_all (is_table_within MOST_COLUMNS MOST_ROWS) tables ≡ true → are_inputs_within tables ≡ true
tables_within inputs tables many distinct named each =
    let count : length inputs ≡ length tables = sym (length-map inputs (λ (i : InputFile). i.name)) ∙ (ap length (sym named) ∙ length-map tables (λ (t : TableData). t.name)) in
    let enough : within 1 MOST_INPUTS (length tables) ≡ true = subst (λ n. within 1 MOST_INPUTS n ≡ true) count many in
    let apart : all_distinct same_table_name tables ≡ true = sym (distinct_of_map (λ (t : TableData). t.name) bytes_eq tables) ∙ (ap (all_distinct bytes_eq) named ∙ distinct) in
    both (within 1 MOST_INPUTS (length tables) && list_all (is_table_within MOST_COLUMNS MOST_ROWS) tables) (all_distinct same_table_name tables)
    (both (within 1 MOST_INPUTS (length tables)) (list_all (is_table_within MOST_COLUMNS MOST_ROWS) tables) enough each) apart

-- a task of what was read
pub makes_task : (members : Members) (task : TaskFile) → task_of members ≡ Ok task → MakesTask task
unfolding task_of
makes_task members task e inputs output named each fits =
    let table = bind_ok (known task_keys members) _ task e in
    let input = bind_ok (inputs_of table.0) _ task table.2 in
    let out = bind_ok (output_of table.0) _ task input.2 in
    let constants = bind_ok (optional (codes "constants") [] constants_of table.0) _ task out.2 in
    let aggregates = bind_ok (optional (codes "aggregates") (aggregates_named []) aggregates_of table.0) _ task constants.2 in
    let ops = bind_ok (optional (codes "ops") 2 (number_of 0 MOST_OPS) table.0) _ task aggregates.2 in
    let leaves = bind_ok (optional (codes "leaves") 2 (number_of 1 MOST_LEAVES) table.0) _ task ops.2 in
    let atoms = bind_ok (optional (codes "atoms") 2 (number_of 1 MOST_ATOMS) table.0) _ task leaves.2 in
    let show = bind_ok (optional (codes "show") 25 (number_of 1 MOST_SHOWN) table.0) _ task atoms.2 in
    let budget = bind_ok (optional (codes "budget") 200000 (number_of 1 LARGEST_BUDGET) table.0) _ task show.2 in
    let made : record { inputs = input.0; output = out.0; constants = constants.0; aggregates = aggregates.0; ops = ops.0; leaves = leaves.0; atoms = atoms.0; show = show.0; budget = budget.0 } ≡ task = ok_same _ task budget.2 in
    let names = inputs_distinct table.0 input.0 input.1 in
    let same_names : map (λ (t : TableData). t.name) inputs ≡ names_of input.0 = named ∙ sym (ap (λ (t : TaskFile). names_of t.inputs) made) in
    let tables = tables_within input.0 inputs names.0 names.1 same_names each in
    let values = optional_keeps (λ found. are_constants_within found ≡ true) (codes "constants") [] constants_of table.0 constants.0 constants.1 refl (λ value read. constants_within value constants.0 read) in
    subst (λ (t : TaskFile). first_bad_part (parts_of t inputs output) ≡ None) made
    (passes (are_inputs_within inputs) 1 _ tables
    (passes (is_output_within output) 2 _ fits
    (passes (are_constants_within constants.0) 3 _ values
    (passes (within 0 MOST_OPS ops.0) 5 _ (number_at_within 0 MOST_OPS (codes "ops") 2 table.0 ops.0 refl ops.1)
    (passes (within 1 MOST_LEAVES leaves.0) 6 _ (number_at_within 1 MOST_LEAVES (codes "leaves") 2 table.0 leaves.0 refl leaves.1)
    (passes (within 1 MOST_ATOMS atoms.0) 7 _ (number_at_within 1 MOST_ATOMS (codes "atoms") 2 table.0 atoms.0 refl atoms.1)
    (passes (within 1 MOST_SHOWN show.0) 8 _ (number_at_within 1 MOST_SHOWN (codes "show") 25 table.0 show.0 refl show.1)
    (passes (within 1 LARGEST_BUDGET budget.0) 9 _ (number_at_within 1 LARGEST_BUDGET (codes "budget") 200000 table.0 budget.0 refl budget.1) refl))))))))

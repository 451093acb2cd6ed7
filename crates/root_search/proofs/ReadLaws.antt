-- The answers of a choice by the readings of its offer are those of its filling.
use Rattle.std.proofs.Common.{◌≡◌, ℕ, ◌<◌, arith, Bool, true, false, List, [], ◌∷◌, ◌++◌, get_or, drop, ◌≤◌, None, refl, sym, ap, ap₂, ◌∙◌, length, if◌then◌else◌}
use Rattle.std.specs.Prelude.{filter, All}
use Rattle.std.specs.List.{flat_map}
use Rattle.std.proofs.lemmas.List.{append-nil, drop_all}
use Rattle.std.proofs.lemmas.List.Elements.{All-filter, All-head, All-tail, All-map, All-weaker, All-get_or, All-cons}
use Rattle.std.proofs.lemmas.List.Folds.{flat_map-map}
use Rattle.value_core.specs.declared.value.ColType.{ColType}
use Rattle.predicate_core.specs.declared.pred.Pred.{Pred}
use Rattle.table_core.specs.Rows.{Row, types_of}
use Rattle.table_core.specs.declared.task.TaskParts.{TaskParts}
use Rattle.query_core.specs.Tree.{Tree}
use Rattle.query_core.specs.Grammar.{maps}
use Rattle.query_core.specs.Membership.{query_fault}
use Rattle.query_core.specs.Answers.{RankedQuery, ranked}
use Rattle.query_core.proofs.MapLaws.{flat_map_same, flat_map_filter}
use Rattle.bit_rows.specs.Masked.{masked}
use Rattle.fill_core.specs.Offers.{filled_by, filled_by_all, GivesNothing}
use Rattle.fill_core.specs.declared.choice.Choice.{Choice}
use Rattle.map_walk.specs.Targets.{are_enough}
use Rattle.map_walk.specs.declared.target.Reading.{Reading}
use Rattle.root_search.specs.Answers.{query_of, answers_by, answers_on, AreOfGrammar, FillingFits}
use Rattle.root_search.specs.Reads.{preds_of, read_answers, choice_answers}
use Rattle.root_search.specs.Readings.{reading_of, readings}
use Rattle.root_search.specs.Targets.{targets, rows_give}
use Rattle.root_search.proofs.BitLaws.{given_by_bits, none_by_few}
use Rattle.root_search.proofs.ReadingLaws.{readings_fit}

-- by a map with enough candidates
by_enough : (task : TaskParts) (n : ℕ) (skeleton : Tree) (types : List ColType) (parts : List Pred) (candidates : List Row) (c : Choice) (picks : List ℕ) → length c.bits ≡ length candidates
    → read_answers task n skeleton parts c (reading_of candidates task.output.rows picks) ≡ answers_by task n skeleton (filled_by types parts candidates c) picks
by_enough task n skeleton types parts candidates c picks wide =
    ap₂ (λ x y. (if x then ranked task (record { skeleton = n; query = query_of skeleton (preds_of parts c) picks false }) ∷ [] else []) ++ (if y then ranked task (record { skeleton = n; query = query_of skeleton (preds_of parts c) picks true }) ∷ [] else []))
    (sym (given_by_bits picks false c.bits candidates task.output.rows wide)) (sym (given_by_bits picks true c.bits candidates task.output.rows wide))

-- by any other map
by_few : (task : TaskParts) (n : ℕ) (skeleton : Tree) (types : List ColType) (parts : List Pred) (candidates : List Row) (c : Choice) (picks : List ℕ) → length c.bits ≡ length candidates
    → are_enough (targets picks candidates task.output.rows) ≡ false → answers_by task n skeleton (filled_by types parts candidates c) picks ≡ []
by_few task n skeleton types parts candidates c picks wide few =
    let none : (distinct : Bool) → rows_give picks distinct (masked c.bits candidates) task.output.rows ≡ false =
    λ distinct. given_by_bits picks distinct c.bits candidates task.output.rows wide ∙ none_by_few distinct (length task.output.rows) c.bits (targets picks candidates task.output.rows) few in
    rw (none false, none true) refl

by_map : (task : TaskParts) (n : ℕ) (skeleton : Tree) (types : List ColType) (parts : List Pred) (candidates : List Row) (c : Choice) (picks : List ℕ) → length c.bits ≡ length candidates
    → (b : Bool) → are_enough (targets picks candidates task.output.rows) ≡ b
    → (if b then read_answers task n skeleton parts c (reading_of candidates task.output.rows picks) else []) ≡ answers_by task n skeleton (filled_by types parts candidates c) picks
by_map task n skeleton types parts candidates c picks wide true is = by_enough task n skeleton types parts candidates c picks wide
by_map task n skeleton types parts candidates c picks wide false is = sym (by_few task n skeleton types parts candidates c picks wide is)

-- the answers of a choice by the readings are those of its filling
pub choice_is : (task : TaskParts) (n : ℕ) (skeleton : Tree) (types : List ColType) (parts : List Pred) (candidates : List Row) (c : Choice) → length c.bits ≡ length candidates
    → choice_answers task n skeleton parts (readings types candidates task.output) c ≡ answers_on task n skeleton (filled_by types parts candidates c)
choice_is task n skeleton types parts candidates c wide =
    let picked = maps types (types_of task.output) in
    let enough : List ℕ → Bool = λ picks. are_enough (targets picks candidates task.output.rows) in
    let read : List ℕ → Reading = reading_of candidates task.output.rows in
    let by : List ℕ → List RankedQuery = λ picks. read_answers task n skeleton parts c (read picks) in
    flat_map-map (read_answers task n skeleton parts c) read (filter enough picked)
    ∙ flat_map_filter by enough picked
    ∙ flat_map_same (λ picks. if enough picks then by picks else []) (answers_by task n skeleton (filled_by types parts candidates c)) picked
    (λ picks. by_map task n skeleton types parts candidates c picks wide (enough picks) refl)

-- where there is no reading, no choice gives anything
pub nothing_read : (task : TaskParts) (n : ℕ) (skeleton : Tree) (types : List ColType) (candidates : List Row) → readings types candidates task.output ≡ [] → GivesNothing (answers_on task n skeleton) types candidates
nothing_read task n skeleton types candidates none preds c wide =
    sym (choice_is task n skeleton types preds candidates c wide) ∙ ap (λ rs. choice_answers task n skeleton preds rs c) none

-- so are those of all choices
pub choices_are_read : (task : TaskParts) (n : ℕ) (skeleton : Tree) (types : List ColType) (parts : List Pred) (candidates : List Row) (choices : List Choice) → All (λ c. length c.bits ≡ length candidates) choices
    → flat_map (choice_answers task n skeleton parts (readings types candidates task.output)) choices ≡ flat_map (answers_on task n skeleton) (filled_by_all types parts candidates choices)
choices_are_read task n skeleton types parts candidates [] wide = refl
choices_are_read task n skeleton types parts candidates (c ∷ choices) wide =
    ap₂ (λ xs ys. xs ++ ys) (choice_is task n skeleton types parts candidates c (All-head (λ c. length c.bits ≡ length candidates) c choices wide))
    (choices_are_read task n skeleton types parts candidates choices (All-tail (λ c. length c.bits ≡ length candidates) c choices wide))

-- the masks of the readings have the length of bits of the candidates
pub readings_wide : (types : List ColType) (candidates : List Row) (task : TaskParts) (bits : List Bool) → length bits ≡ length candidates
    → All (λ r. All (λ t. length bits ≡ length t.mask) r.targets) (readings types candidates task.output)
readings_wide types candidates task bits wide =
    All-weaker (λ (r : Reading). (r.targets ≡ targets r.picks candidates task.output.rows) × All (λ t. length bits ≡ length t.mask) r.targets) (λ r. All (λ t. length bits ≡ length t.mask) r.targets) (λ r both. both.1)
    (readings types candidates task.output) (readings_fit types candidates task.output bits wide)

-- the queries of the readings are of the grammar, where those of all maps are
pub readings_of_grammar : (task : TaskParts) (skeleton : Tree) (types : List ColType) (candidates : List Row) (preds : List Pred) → AreOfGrammar task skeleton preds (maps types (types_of task.output))
    → All (λ r. (distinct : Bool) → query_fault task (query_of skeleton preds r.picks distinct) ≡ None) (readings types candidates task.output)
readings_of_grammar task skeleton types candidates preds fits =
    let enough : List ℕ → Bool = λ picks. are_enough (targets picks candidates task.output.rows) in
    All-map (λ (r : Reading). (distinct : Bool) → query_fault task (query_of skeleton preds r.picks distinct) ≡ None) (reading_of candidates task.output.rows) (filter enough (maps types (types_of task.output)))
    (All-filter enough (λ picks. (distinct : Bool) → query_fault task (query_of skeleton preds picks distinct) ≡ None) (maps types (types_of task.output)) fits)

-- what holds of each filling of some choices
pub filling_at : (P : Choice → Type 0) (choices : List Choice) (i : ℕ) (c : Choice) → i < length choices → c ≡ get_or choices i c → All P choices → P c
filling_at P choices i c below is all = rw is (All-get_or P choices i c below all)

pub fitting_at : (task : TaskParts) (skeleton : Tree) (types : List ColType) (parts : List Pred) (candidates : List Row) (choices : List Choice) → All (FillingFits task skeleton) (filled_by_all types parts candidates choices)
    → All (λ c. AreOfGrammar task skeleton (preds_of parts c) (maps types (types_of task.output))) choices
fitting_at task skeleton types parts candidates [] all = λ k d below. absurd (omega (arith, below))
fitting_at task skeleton types parts candidates (c ∷ choices) all =
    All-cons (λ c. AreOfGrammar task skeleton (preds_of parts c) (maps types (types_of task.output))) c choices
    (All-head (FillingFits task skeleton) (filled_by types parts candidates c) (filled_by_all types parts candidates choices) all)
    (fitting_at task skeleton types parts candidates choices (All-tail (FillingFits task skeleton) (filled_by types parts candidates c) (filled_by_all types parts candidates choices) all))

-- the store, where the answers of all choices were put into it
pub all_read : (task : TaskParts) (n : ℕ) (skeleton : Tree) (types : List ColType) (parts : List Pred) (candidates : List Row) (choices : List Choice) (rs : List Reading) (before after : List RankedQuery) (i : ℕ)
    → rs ≡ readings types candidates task.output → All (λ c. length c.bits ≡ length candidates) choices → length choices ≤ i
    → after ++ flat_map (choice_answers task n skeleton parts rs) (drop i choices) ≡ before ++ flat_map (choice_answers task n skeleton parts rs) choices
    → after ≡ before ++ flat_map (answers_on task n skeleton) (filled_by_all types parts candidates choices)
all_read task n skeleton types parts candidates choices rs before after i is wide past so_far =
    sym (append-nil after)
    ∙ ap (λ cs. after ++ flat_map (choice_answers task n skeleton parts rs) cs) (sym (drop_all i choices past))
    ∙ so_far
    ∙ ap (λ xs. before ++ flat_map (choice_answers task n skeleton parts xs) choices) is
    ∙ ap (λ xs. before ++ xs) (choices_are_read task n skeleton types parts candidates choices wide)

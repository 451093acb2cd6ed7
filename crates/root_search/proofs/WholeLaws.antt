-- Rows that give an output have in the columns of the map its values and no others. So where a part's rows don't open its groups, all of the groups give nothing.
use Rattle.std.proofs.Common.{◌≡◌, refl, sym, ap, ◌∙◌, ℕ, Bool, true, false, not, ◌||◌, ◌++◌, List, [], ◌∷◌, Some, inl, inr}
use Rattle.std.specs.Prelude.{slice_get, option_map, unwrap_or}
use Rattle.std.specs.List.{flat_map}
use Rattle.std.proofs.lemmas.Bool.{and_parts, both_ways}
use Rattle.std.proofs.lemmas.Option.{slice_get-map}
use Rattle.value_core.specs.declared.value.ColType.{ColType}
use Rattle.value_core.specs.declared.value.Value.TheVariants.{Null}
use Rattle.value_core.proofs.ValueLaws.{same_decides}
use Rattle.predicate_core.specs.Truth.{value_at}
use Rattle.predicate_core.proofs.OnceLists.{In, in_map}
use Rattle.table_core.specs.Rows.{Row, types_of}
use Rattle.table_core.specs.Bag.{has_double, same_rows}
use Rattle.table_core.specs.declared.task.TaskParts.{TaskParts}
use Rattle.query_core.specs.Filled.{Filled}
use Rattle.query_core.specs.Firsts.{projected}
use Rattle.query_core.specs.Grammar.{maps}
use Rattle.query_core.specs.Groups.{grouped}
use Rattle.query_core.specs.Meaning.{selected, given_rows}
use Rattle.query_core.specs.Tree.{Tree}
use Rattle.query_core.specs.declared.agg.Agg.{Agg}
use Rattle.query_laws.proofs.AscendingLists.{all_of}
use Rattle.query_laws.proofs.FirstCopyLaws.{in_firsts}
use Rattle.query_laws.proofs.MemberLaws.{map_in}
use Rattle.fill_core.specs.Offers.{WholeGivesNothing}
use Rattle.map_walk.specs.Open.{some_has, serves}
use Rattle.map_walk.specs.Readings.{row_has}
use Rattle.map_walk.specs.Supply.{group_supplies, opens}
use Rattle.map_walk.specs.Wholes.{has_some, has_no_others, is_whole, wholes_by}
use Rattle.map_walk.proofs.OpenLaws.{any_in, both_true}
use Rattle.map_walk.proofs.RowCountLaws.{firsts_in}
use Rattle.map_walk.proofs.WholeLaws.{wholes_open}
use Rattle.root_search.specs.Answers.{answers_by, answers_on}
use Rattle.root_search.specs.Targets.{rows_give}
use Rattle.root_search.proofs.RowCountLaws.{in_first, in_second}

-- ---- rows that give an output

-- a value of a projected row is that of the row at the place that is picked
projected_value : (picks : List ℕ) (row : Row) (place at : ℕ) → slice_get picks place ≡ Some at → value_at (projected picks row) place ≡ value_at row at
projected_value picks row place at is = ap (λ o. unwrap_or o Null) (slice_get-map (value_at row) picks place ∙ ap (option_map (value_at row)) is)

module _ (picks : List ℕ) (rows output : List Row) where
  -- with and without removal of duplicates the same rows are given
  given_in : (distinct : Bool) (row : Row) → In row (given_rows picks distinct rows) → In row (selected picks rows)
  given_in true row i = firsts_in row (selected picks rows) i
  given_in false row i = i

  in_given : (distinct : Bool) (row : Row) → In row (selected picks rows) → In row (given_rows picks distinct rows)
  in_given true row i = in_firsts row (selected picks rows) i
  in_given false row i = i

  module _ (distinct : Bool) (gives : rows_give picks distinct rows output ≡ true) where
    are_output : same_rows (given_rows picks distinct rows) output ≡ true
    are_output = (and_parts (not distinct || has_double (selected picks rows)) (same_rows (given_rows picks distinct rows) output) gives).1

    -- each row of the output is one of these projected, and each of these is projected to one
    behind : (out : Row) → In out output → (row : Row) × In row rows × (out ≡ projected picks row)
    behind out i = in_map (projected picks) out rows (given_in distinct out (in_first (given_rows picks distinct rows) output out are_output i))

    in_output : (row : Row) → In row rows → In (projected picks row) output
    in_output row i = in_second (given_rows picks distinct rows) output (projected picks row) are_output (in_given distinct (projected picks row) (map_in (projected picks) row rows i))

    -- so each column of the map has the values of the output's and no others
    picked_whole : (place at : ℕ) → slice_get picks place ≡ Some at → is_whole row_has rows output place at ≡ true
    picked_whole place at is =
        both_true (serves row_has rows output place at) (has_no_others row_has rows output place at)
        (all_of (λ out. some_has row_has rows at out place) output
        (λ out i.
        let h = behind out i in
        any_in (λ row. row_has row at (value_at out place)) h.0 rows h.1
        ((same_decides (value_at h.0 at) (value_at out place)).1 (sym (ap (λ r. value_at r place) h.2 ∙ projected_value picks h.0 place at is)))))
        (all_of (has_some row_has output place at) rows
        (λ row i.
        any_in (λ out. row_has row at (value_at out place)) (projected picks row) output (in_output row i)
        ((same_decides (value_at row at) (value_at (projected picks row) place)).1 (sym (projected_value picks row place at is)))))

-- ---- groups

-- nothing is joined of elements that give nothing
none_joined : {A B : Type 0} (f : A → List B) (xs : List A) → ((x : A) → In x xs → f x ≡ []) → flat_map f xs ≡ []
none_joined f [] none = refl
none_joined f (x ∷ xs) none = ap (λ t. t ++ flat_map f xs) (none x (inl refl)) ∙ none_joined f xs (λ y i. none y (inr i))

module _ (task : TaskParts) (n : ℕ) (skeleton : Tree) (types : List ColType) (keys : List ℕ) (width : ℕ) (rows : List Row) where
  -- all groups of rows that don't open them give nothing
  pub shut_whole : opens types (group_supplies keys (wholes_by row_has width rows task.output)) (types_of task.output) ≡ false
      → (agg : Agg) (groups : List Row) → grouped keys agg rows ≡ Some groups → WholeGivesNothing (answers_on task n skeleton) types groups
  shut_whole shut agg groups made preds = none_joined (answers_by task n skeleton f) (maps types (types_of task.output)) none
    where
      f : Filled
      f = record { types = types; preds = preds; rows = groups }

      not_given : (picks : List ℕ) → In picks (maps types (types_of task.output)) → (distinct b : Bool) → rows_give picks distinct groups task.output.rows ≡ b → rows_give picks distinct groups task.output.rows ≡ false
      not_given picks i distinct false is = is
      not_given picks i distinct true is =
          absurd (both_ways (opens types (group_supplies keys (wholes_by row_has width rows task.output)) (types_of task.output)) shut
          (wholes_open keys agg width rows groups task.output made types picks i (picked_whole picks groups task.output.rows distinct is)))

      none : (picks : List ℕ) → In picks (maps types (types_of task.output)) → answers_by task n skeleton f picks ≡ []
      none picks i =
          let never : (distinct : Bool) → rows_give picks distinct groups task.output.rows ≡ false = λ distinct. not_given picks i distinct (rows_give picks distinct groups task.output.rows) refl in
          rw (never false, never true) refl

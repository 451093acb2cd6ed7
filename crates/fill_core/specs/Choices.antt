-- What a node keeps of its candidate rows, by each of its standard predicates.
use Rattle.std.specs.Prelude.{ℕ, zero, suc, Bool, true, ◌&&◌, not, List, [], ◌∷◌, ◌++◌, map, take, drop, replicate, slice_get, Some, None}
use Rattle.std.specs.List.{list_all, list_any}
use Rattle.value_core.specs.declared.value.Value.{Value}
use Rattle.value_core.specs.declared.value.ColType.{ColType}
use Rattle.predicate_core.specs.declared.pred.Pred.{Pred}
use Rattle.table_core.specs.Rows.{Row}
use Rattle.table_core.specs.declared.task.TaskParts.{TaskParts}
use Rattle.query_core.specs.Filled.{first_preds}
use Rattle.bit_classes.specs.Laws.{kept_vector}
use Rattle.bit_classes.specs.declared.join.Join.{Join}
use Rattle.bit_classes.specs.declared.join.Join.TheVariants.{And, Or}
use Rattle.bit_classes.specs.declared.class.Class.{Class}
use Rattle.fill_core.specs.declared.choice.Choice.{Choice}

-- a predicate, and which of some candidate rows it keeps
abbrev pub chosen : List Value → List Row → Pred → Choice
chosen constants candidates p = record { pred = Some p; bits = kept_vector constants candidates p }

-- the choices of a hole over columns of these types
abbrev pub hole_choices : TaskParts → List ColType → List Row → List Choice
hole_choices task types candidates = map (chosen task.constants candidates) (first_preds task types candidates)

-- whether a choice leaves some row out
abbrev pub drops_some : Choice → Bool
drops_some c = not (list_all (λ b. b) c.bits)

-- whether a choice may be wanted, by AND as by OR
abbrev pub is_wanted : (Join → List Bool → Bool) → Choice → Bool
is_wanted may c = may And c.bits && may Or c.bits

-- the choice of a node without a predicate: all of so many rows
abbrev pub every : ℕ → Choice
every len = record { pred = None; bits = replicate len true }

-- the predicate of a class in a list, and which rows it keeps
abbrev pub class_choice : List Pred → Class → Choice
class_choice preds class = record { pred = slice_get preds class.number; bits = class.bits }

-- the bits of the pairs of so many left rows, each with so many right rows, and behind each left row's whether it is alone: whether none of its pairs is kept
abbrev pub with_alone : ℕ → ℕ → List Bool → List Bool
with_alone zero rights bits = []
with_alone (suc lefts) rights bits = (take rights bits ++ not (list_any (λ b. b) (take rights bits)) ∷ []) ++ with_alone lefts rights (drop rights bits)

-- a choice of the pairs, as one of the pairs and the padded left rows
abbrev pub left_choice : ℕ → ℕ → Choice → Choice
left_choice lefts rights c = record { pred = c.pred; bits = with_alone lefts rights c.bits }

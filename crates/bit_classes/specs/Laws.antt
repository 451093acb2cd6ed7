-- The law that ties vectors to predicates.
use Rattle.std.specs.Prelude.{◌≡◌, ℕ, Bool, List, map, length}
use Rattle.value_core.specs.declared.value.Value.{Value}
use Rattle.predicate_core.specs.declared.atom.Atom.{Atom}
use Rattle.predicate_core.specs.declared.pred.Pred.{Pred}
use Rattle.predicate_core.specs.declared.pred.Pred.TheVariants.{One}
use Rattle.predicate_core.specs.Atoms.{pred_list}
use Rattle.predicate_core.specs.Truth.{keeps}
use Rattle.bit_classes.specs.Vectors.{vectors}

-- which of some candidate rows a predicate keeps
abbrev pub kept_vector : List Value → List (List Value) → Pred → List Bool
kept_vector constants candidates p = map (λ row. keeps constants p row) candidates

-- over any candidates, the vectors of the predicates in order are those that the vectors of the atoms give
abbrev pub VectorsOfPreds : List Value → List Atom → ℕ → Type 0
VectorsOfPreds constants atoms bound =
    (candidates : List (List Value))
    → map (kept_vector constants candidates) (pred_list atoms bound)
    ≡ vectors (length candidates) (map (λ a. kept_vector constants candidates (One a)) atoms) bound

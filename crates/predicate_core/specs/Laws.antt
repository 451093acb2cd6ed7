-- Laws of predicates: each stands once in their list, and each keeps what its atoms keep.
use Rattle.std.specs.Prelude.{◌≡◌, ℕ, true, ◌&&◌, ◌||◌, List, slice_get, Some}
use Rattle.std.specs.List.{position_or_len}
use Rattle.value_core.specs.declared.value.Value.{Value}
use Rattle.value_core.specs.declared.value.ColType.{ColType}
use Rattle.predicate_core.specs.declared.atom.Atom.{Atom}
use Rattle.predicate_core.specs.declared.pred.Pred.{Pred}
use Rattle.predicate_core.specs.declared.pred.Pred.TheVariants.{Always, One, And2, Or2, And3, Or3}
use Rattle.predicate_core.specs.Atoms.{atom_list, pred_list}
use Rattle.predicate_core.specs.Equal.{same_pred}
use Rattle.predicate_core.specs.Truth.{keeps}

-- no element stands at two places of a list
abbrev pub EachOnce : {X : Type 0} → List X → Type 0
EachOnce {X} xs = (i j : ℕ) (x : X) → slice_get xs i ≡ Some x → slice_get xs j ≡ Some x → i ≡ j

-- where each atom stands once, each predicate over them stands once
abbrev pub PredsOnce : List Atom → ℕ → Type 0
PredsOnce atoms bound = EachOnce atoms → EachOnce (pred_list atoms bound)

-- a predicate's first place in the list, over columns of these types and these constants, is each place where it stands
abbrev pub NumberedByPlace : List ColType → List Value → ℕ → Type 0
NumberedByPlace types constants bound =
    (i : ℕ) (p : Pred) → slice_get (pred_list (atom_list types constants) bound) i ≡ Some p
    → position_or_len (same_pred p) (pred_list (atom_list types constants) bound) ≡ i

-- an AND keeps a row exactly where each of its atoms does, an OR where one of them does, and Always keeps each
abbrev pub KeepsByAtoms : List Value → List Value → Atom → Atom → Atom → Type 0
KeepsByAtoms constants row a b c =
    (keeps constants Always row ≡ true)
    × (keeps constants (And2 a b) row ≡ (keeps constants (One a) row && keeps constants (One b) row))
    × (keeps constants (Or2 a b) row ≡ (keeps constants (One a) row || keeps constants (One b) row))
    × (keeps constants (And3 a b c) row ≡ (keeps constants (One a) row && (keeps constants (One b) row && keeps constants (One c) row)))
    × (keeps constants (Or3 a b c) row ≡ (keeps constants (One a) row || (keeps constants (One b) row || keeps constants (One c) row)))

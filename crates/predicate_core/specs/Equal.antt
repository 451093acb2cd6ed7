-- Which predicates are the same, and what stands in them.
use Rattle.std.specs.Prelude.{ℕ, Bool, true, false, ◌&&◌, ◌==◌, List, [], ◌∷◌}
use Rattle.value_core.specs.declared.comparison.CmpOp.{CmpOp}
use Rattle.value_core.specs.declared.comparison.CmpOp.TheVariants.{Eq, Ne, Lt, Le, Gt, Ge}
use Rattle.predicate_core.specs.declared.atom.Atom.{Atom}
use Rattle.predicate_core.specs.declared.atom.Atom.TheVariants.{Cols, Const, IsNull, NotNull}
use Rattle.predicate_core.specs.declared.pred.Pred.{Pred}
use Rattle.predicate_core.specs.declared.pred.Pred.TheVariants.{Always, One, And2, Or2, And3, Or3}

-- the place of a comparison among the six
abbrev pub op_number : CmpOp → ℕ
op_number Eq = 0
op_number Ne = 1
op_number Lt = 2
op_number Le = 3
op_number Gt = 4
op_number Ge = 5

-- whether two atoms are the same
abbrev pub same_atom : Atom → Atom → Bool
same_atom (Cols i op j) (Cols k other l) = (i == k) && ((op_number op == op_number other) && (j == l))
same_atom (Const i op j) (Const k other l) = (i == k) && ((op_number op == op_number other) && (j == l))
same_atom (IsNull i) (IsNull k) = i == k
same_atom (NotNull i) (NotNull k) = i == k
same_atom _ _ = false

-- whether two predicates are the same
abbrev pub same_pred : Pred → Pred → Bool
same_pred Always Always = true
same_pred (One a) (One b) = same_atom a b
same_pred (And2 a b) (And2 c d) = same_atom a c && same_atom b d
same_pred (Or2 a b) (Or2 c d) = same_atom a c && same_atom b d
same_pred (And3 a b c) (And3 d e f) = same_atom a d && (same_atom b e && same_atom c f)
same_pred (Or3 a b c) (Or3 d e f) = same_atom a d && (same_atom b e && same_atom c f)
same_pred _ _ = false

-- the atoms of a predicate
abbrev pub atoms_of : Pred → List Atom
atoms_of Always = []
atoms_of (One a) = a ∷ []
atoms_of (And2 a b) = a ∷ b ∷ []
atoms_of (Or2 a b) = a ∷ b ∷ []
atoms_of (And3 a b c) = a ∷ b ∷ c ∷ []
atoms_of (Or3 a b c) = a ∷ b ∷ c ∷ []

-- whether an atom compares with the constant of this number
abbrev pub uses_constant : ℕ → Atom → Bool
uses_constant number (Cols i op j) = false
uses_constant number (Const i op k) = k == number
uses_constant number (IsNull i) = false
uses_constant number (NotNull i) = false

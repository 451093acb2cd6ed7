-- The atoms over a list of columns and the predicates over a list of atoms, in order.
use Rattle.std.specs.Prelude.{ℕ, ◌+◌, List, [], ◌∷◌, ◌++◌, map, nat_le, if◌then◌else◌}
use Rattle.value_core.specs.declared.value.Value.{Value}
use Rattle.value_core.specs.declared.value.ColType.{ColType}
use Rattle.value_core.specs.declared.comparison.CmpOp.{CmpOp}
use Rattle.value_core.specs.declared.comparison.CmpOp.TheVariants.{Eq, Ne, Lt, Le, Gt, Ge}
use Rattle.value_core.specs.Value.{same_type, is_of_type}
use Rattle.predicate_core.specs.declared.atom.Atom.{Atom}
use Rattle.predicate_core.specs.declared.atom.Atom.TheVariants.{Cols, Const, IsNull, NotNull}
use Rattle.predicate_core.specs.declared.pred.Pred.{Pred}
use Rattle.predicate_core.specs.declared.pred.Pred.TheVariants.{Always, One, And2, Or2, And3, Or3}

-- the six comparisons in order
abbrev pub comparisons : List CmpOp
comparisons = Eq ∷ Ne ∷ Lt ∷ Le ∷ Gt ∷ Ge ∷ []

-- column i, of type t, compared with each later column of its type; the later columns are numbered from j
abbrev pub column_with_columns : ℕ → ColType → ℕ → List ColType → List Atom
column_with_columns i t j [] = []
column_with_columns i t j (u ∷ us) = (if same_type t u then map (λ op. Cols i op j) comparisons else []) ++ column_with_columns i t (j + 1) us

-- each two columns of one type compared; the columns are numbered from i
abbrev pub columns_compared : ℕ → List ColType → List Atom
columns_compared i [] = []
columns_compared i (t ∷ ts) = column_with_columns i t (i + 1) ts ++ columns_compared (i + 1) ts

-- column i, of type t, compared with each constant of its type; the constants are numbered from k
abbrev pub column_with_constants : ℕ → ColType → ℕ → List Value → List Atom
column_with_constants i t k [] = []
column_with_constants i t k (c ∷ cs) = (if is_of_type t c then map (λ op. Const i op k) comparisons else []) ++ column_with_constants i t (k + 1) cs

-- each column compared with each constant of its type; the columns are numbered from i
abbrev pub constants_compared : ℕ → List Value → List ColType → List Atom
constants_compared i constants [] = []
constants_compared i constants (t ∷ ts) = column_with_constants i t 0 constants ++ constants_compared (i + 1) constants ts

-- each column's tests for NULL; the columns are numbered from i
abbrev pub null_tests : ℕ → List ColType → List Atom
null_tests i [] = []
null_tests i (t ∷ ts) = IsNull i ∷ NotNull i ∷ null_tests (i + 1) ts

-- the atoms over columns of these types: columns compared, then columns with constants, then tests for NULL
abbrev pub atom_list : List ColType → List Value → List Atom
atom_list types constants = (columns_compared 0 types ++ constants_compared 0 constants types) ++ null_tests 0 types

-- each two elements of a list, the earlier first
abbrev pub pairs : {X : Type 0} → List X → List (X × X)
pairs [] = []
pairs (a ∷ rest) = map (λ b. (a, b)) rest ++ pairs rest

-- each three elements of a list, the earlier first
abbrev pub triples : {X : Type 0} → List X → List (X × X × X)
triples [] = []
triples (a ∷ rest) = map (λ p. (a, p.0, p.1)) (pairs rest) ++ triples rest

-- the predicates of two atoms: the ANDs, and then the ORs
abbrev pub two_atoms : List Atom → List Pred
two_atoms atoms = map (λ p. And2 p.0 p.1) (pairs atoms) ++ map (λ p. Or2 p.0 p.1) (pairs atoms)

-- the predicates of three atoms: the ANDs, and then the ORs
abbrev pub three_atoms : List Atom → List Pred
three_atoms atoms = map (λ p. And3 p.0 p.1 p.2) (triples atoms) ++ map (λ p. Or3 p.0 p.1 p.2) (triples atoms)

-- the predicates of two or three atoms, as far as the bound goes
abbrev pub more_atoms : List Atom → ℕ → List Pred
more_atoms atoms bound = (if nat_le 2 bound then two_atoms atoms else []) ++ (if nat_le 3 bound then three_atoms atoms else [])

-- the predicates of up to `bound` atoms: Always, single atoms, ANDs and ORs of two, ANDs and ORs of three
abbrev pub pred_list : List Atom → ℕ → List Pred
pred_list atoms bound = Always ∷ (map One atoms ++ more_atoms atoms bound)

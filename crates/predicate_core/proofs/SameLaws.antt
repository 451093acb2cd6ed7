-- `same_atom` and `same_pred` are equality.
use Rattle.std.proofs.Common.{◌≡◌, refl, sym, ap, ◌∙◌, ℕ, false, ◌==◌, ◌&&◌, if◌then◌else◌, Decides}
use Rattle.std.proofs.lemmas.Bool.{false≢true}
use Rattle.std.proofs.lemmas.Bool.Decides.{Decides-eqb, Decides-and, Decides-like}
use Rattle.value_core.specs.declared.comparison.CmpOp.{CmpOp}
use Rattle.value_core.specs.declared.comparison.CmpOp.TheVariants.{Eq, Ne, Lt, Le, Gt, Ge}
use Rattle.predicate_core.specs.declared.atom.Atom.{Atom}
use Rattle.predicate_core.specs.declared.atom.Atom.TheVariants.{Cols, Const, IsNull, NotNull}
use Rattle.predicate_core.specs.declared.pred.Pred.{Pred}
use Rattle.predicate_core.specs.declared.pred.Pred.TheVariants.{Always, One, And2, Or2, And3, Or3}
use Rattle.predicate_core.specs.Equal.{op_number, same_atom, same_pred}

-- the comparison of a number
abbrev op_of : ℕ → CmpOp
op_of n = if n == 0 then Eq else (if n == 1 then Ne else (if n == 2 then Lt else (if n == 3 then Le else (if n == 4 then Gt else Ge))))

op_back : (op : CmpOp) → op ≡ op_of (op_number op)
op_back Eq = refl
op_back Ne = refl
op_back Lt = refl
op_back Le = refl
op_back Gt = refl
op_back Ge = refl

op_same : (a b : CmpOp) → op_number a ≡ op_number b → a ≡ b
op_same a b e = op_back a ∙ ap op_of e ∙ sym (op_back b)

-- two comparisons have one number exactly where they are equal
pub same_op_decides : (a b : CmpOp) → Decides (op_number a == op_number b) (a ≡ b)
same_op_decides a b = Decides-like (op_number a == op_number b) (op_same a b) (λ e. ap op_number e) (Decides-eqb (op_number a) (op_number b))

-- a test that says no of what can't be
apart : {P : Type 0} → (P → ⊥) → Decides false P
apart never = (λ e. absurd (false≢true e), λ p. absurd (never p))

-- a test of two columns or numbers and the comparison between them
parts_decide : (i k : ℕ) (op other : CmpOp) (j l : ℕ) → Decides ((i == k) && ((op_number op == op_number other) && (j == l))) ((i ≡ k) × ((op ≡ other) × (j ≡ l)))
parts_decide i k op other j l = Decides-and _ _ (Decides-eqb i k) (Decides-and _ _ (same_op_decides op other) (Decides-eqb j l))

-- two atoms are the same exactly where they are equal
pub same_atom_decides : (a b : Atom) → Decides (same_atom a b) (a ≡ b)
same_atom_decides (Cols i op j) (Cols k other l) = Decides-like _ (λ e. let a = e.0 in let b = e.1.0 in let c = e.1.1 in cc) (λ e. (cc, (cc, cc))) (parts_decide i k op other j l)
same_atom_decides (Const i op j) (Const k other l) = Decides-like _ (λ e. let a = e.0 in let b = e.1.0 in let c = e.1.1 in cc) (λ e. (cc, (cc, cc))) (parts_decide i k op other j l)
same_atom_decides (IsNull i) (IsNull k) = Decides-like _ (λ e. ap IsNull e) (λ e. cc) (Decides-eqb i k)
same_atom_decides (NotNull i) (NotNull k) = Decides-like _ (λ e. ap NotNull e) (λ e. cc) (Decides-eqb i k)
same_atom_decides _ _ = apart (λ e. cc)

-- two predicates are the same exactly where they are equal
pub same_pred_decides : (p q : Pred) → Decides (same_pred p q) (p ≡ q)
same_pred_decides Always Always = (λ e. refl, λ e. refl)
same_pred_decides (One a) (One b) = Decides-like _ (λ e. ap One e) (λ e. cc) (same_atom_decides a b)
same_pred_decides (And2 a b) (And2 c d) = Decides-like _ (λ e. let f = e.0 in let g = e.1 in cc) (λ e. (cc, cc)) (Decides-and _ _ (same_atom_decides a c) (same_atom_decides b d))
same_pred_decides (Or2 a b) (Or2 c d) = Decides-like _ (λ e. let f = e.0 in let g = e.1 in cc) (λ e. (cc, cc)) (Decides-and _ _ (same_atom_decides a c) (same_atom_decides b d))
same_pred_decides (And3 a b c) (And3 d e f) =
    Decides-like _ (λ s. let g = s.0 in let h = s.1.0 in let k = s.1.1 in cc) (λ s. (cc, (cc, cc)))
    (Decides-and _ _ (same_atom_decides a d) (Decides-and _ _ (same_atom_decides b e) (same_atom_decides c f)))
same_pred_decides (Or3 a b c) (Or3 d e f) =
    Decides-like _ (λ s. let g = s.0 in let h = s.1.0 in let k = s.1.1 in cc) (λ s. (cc, (cc, cc)))
    (Decides-and _ _ (same_atom_decides a d) (Decides-and _ _ (same_atom_decides b e) (same_atom_decides c f)))
same_pred_decides _ _ = apart (λ e. cc)

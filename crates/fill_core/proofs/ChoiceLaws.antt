-- The first predicates of classes are the standard ones.
use Rattle.std.proofs.Common.{◌≡◌, ℕ, zero, suc, ◌+◌, Bool, true, false, not, ◌&&◌, ◌==◌, cond, List, [], ◌∷◌, map, Option, Some, None, refl, sym, ap, subst, ◌∙◌, arith, inl, inr, eq-eqb, length, get_or, ◌<◌}
use Rattle.std.specs.Prelude.{filter, find, slice_get, if◌then◌else◌}
use Rattle.std.specs.List.{position_or_len, enumerate_from}
use Rattle.std.proofs.lemmas.Bool.{cases_Bool, false≢true, eqb-true}
use Rattle.std.proofs.lemmas.List.{length-map}
use Rattle.predicate_core.specs.declared.atom.Atom.{Atom}
use Rattle.value_core.specs.declared.value.Value.{Value}
use Rattle.value_core.specs.declared.value.ColType.{ColType}
use Rattle.predicate_core.specs.Atoms.{atom_list, pred_list}
use Rattle.predicate_core.specs.Equal.{same_pred}
use Rattle.predicate_core.specs.Truth.{keeps}
use Rattle.predicate_core.specs.declared.pred.Pred.{Pred}
use Rattle.predicate_core.specs.declared.pred.Pred.TheVariants.{One}
use Rattle.predicate_core.proofs.OnceLaws.{numbered_by_place}
use Rattle.predicate_core.proofs.SameLaws.{same_pred_decides}
use Rattle.table_core.specs.Rows.{Row}
use Rattle.query_core.specs.Standard.{same_bool, alike, is_first_alike}
use Rattle.bit_rows.specs.Bits.{same_bits}
use Rattle.bit_classes.specs.declared.class.Class.{Class}
use Rattle.bit_classes.specs.Classes.{class_of, stands_first, classes_of}
use Rattle.bit_classes.specs.Laws.{kept_vector}
use Rattle.bit_classes.specs.Sieves as sieves
use Rattle.bit_classes.specs.declared.join.Join.{Join}
use Rattle.bit_classes.specs.Vectors.{vectors}
use Rattle.bit_classes.proofs.PredLaws.{vectors_of_preds}
use Rattle.table_core.specs.declared.task.TaskParts.{TaskParts}
use Rattle.fill_core.specs.Choices.{chosen, class_choice, hole_choices, is_wanted}
use Rattle.fill_core.specs.declared.choice.Choice.{Choice}
use mathlib.Core.Bool.{beq}

beq_is : (a b : Bool) → beq a b ≡ same_bool a b
beq_is true true = refl
beq_is true false = refl
beq_is false true = refl
beq_is false false = refl

-- two vectors are the same where the predicates are alike
alike_is : (constants : List Value) (candidates : List Row) (p q : Pred) → same_bits (kept_vector constants candidates p) (kept_vector constants candidates q) ≡ alike constants candidates p q
alike_is constants [] p q = refl
alike_is constants (row ∷ rows) p q =
    ap (λ b. b && same_bits (kept_vector constants rows p) (kept_vector constants rows q)) (beq_is (keeps constants p row) (keeps constants q row))
    ∙ ap (λ b. same_bool (keeps constants p row) (keeps constants q row) && b) (alike_is constants rows p q)

same_bool_self : (a : Bool) → same_bool a a ≡ true
same_bool_self true = refl
same_bool_self false = refl

alike_self : (constants : List Value) (candidates : List Row) (p : Pred) → alike constants candidates p p ≡ true
alike_self constants [] p = refl
alike_self constants (row ∷ rows) p = rw (same_bool_self (keeps constants p row)) (alike_self constants rows p)

position_map : {X Y : Type 0} (t : Y → Bool) (f : X → Y) (xs : List X) → position_or_len t (map f xs) ≡ position_or_len (λ x. t (f x)) xs
position_map t f [] = refl
position_map t f (x ∷ xs) = ap (λ n. cond (not (t (f x))) (1 + n) 0) (position_map t f xs)

position_same : {X : Type 0} (t u : X → Bool) (xs : List X) → ((x : X) → t x ≡ u x) → position_or_len t xs ≡ position_or_len u xs
position_same t u [] same = refl
position_same t u (x ∷ xs) same = ap (λ b. cond (not b) (1 + position_or_len t xs) 0) (same x) ∙ ap (λ n. cond (not (u x)) (1 + n) 0) (position_same t u xs same)

get_next : {X : Type 0} (x : X) (xs : List X) (n : ℕ) → slice_get (x ∷ xs) (1 + n) ≡ slice_get xs n
get_next x xs n = let e : 1 + n ≡ suc n = omega arith in rw e refl

-- the first element that passes stands at the first place where one passes
find_at : {X : Type 0} (t : X → Bool) (xs : List X) → find t xs ≡ slice_get xs (position_or_len t xs)
find_at t [] = refl
find_at t (x ∷ xs) = here (t x) refl (find_at t xs)
  where
    here : (b : Bool) → t x ≡ b → find t xs ≡ slice_get xs (position_or_len t xs) → find t (x ∷ xs) ≡ slice_get (x ∷ xs) (position_or_len t (x ∷ xs))
    here true is rest = rw is refl
    here false is rest = rw is (rest ∙ sym (get_next x xs (position_or_len t xs)))

-- where an element passes, one is found
finds : {X : Type 0} (t : X → Bool) (xs : List X) (n : ℕ) (x : X) → slice_get xs n ≡ Some x → t x ≡ true → find t xs ≡ None → ⊥
finds t [] n x there passes none = cc
finds t (y ∷ ys) n x there passes none = here n (t y) there refl (λ m e f. finds t ys m x e passes f)
  where
    here : (k : ℕ) (b : Bool) → slice_get (y ∷ ys) k ≡ Some x → t y ≡ b → ((m : ℕ) → slice_get ys m ≡ Some x → find t ys ≡ None → ⊥) → ⊥
    here k true e is rest = let found : Some y ≡ None = rw is at none in cc
    here zero false e is rest = let same : y ≡ x = cc in absurd (false≢true (sym is ∙ ap t same ∙ passes))
    here (suc k) false e is rest = rest k e (rw is at none)

-- each predicate of a list stands there at its number
abbrev Numbered : List Pred → Type 0
Numbered preds = (i : ℕ) (p : Pred) → slice_get preds i ≡ Some p → position_or_len (same_pred p) preds ≡ i

same_self : (p : Pred) → same_pred p p ≡ true
same_self p = (same_pred_decides p p).1 refl

-- whether a predicate at a place is the first of those alike is whether that place is the first of those alike
first_at : (constants : List Value) (candidates : List Row) (preds : List Pred) (n : ℕ) (p : Pred) → Numbered preds → slice_get preds n ≡ Some p
    → (position_or_len (alike constants candidates p) preds == n) ≡ is_first_alike constants candidates preds p
first_at constants candidates preds n p numbered there =
    elim (cases_Bool (position_or_len (alike constants candidates p) preds == n)) [
      | inl same ↦
          let at : position_or_len (alike constants candidates p) preds ≡ n = eqb-true _ _ same in
          let is : find (alike constants candidates p) preds ≡ Some p = find_at (alike constants candidates p) preds ∙ ap (slice_get preds) at ∙ there in
          rw (same, is) (sym (same_self p))
      | inr other ↦ rw other (sym (not_first (find (alike constants candidates p) preds) refl other))
    ]
  where
    not_same : (q : Pred) → find (alike constants candidates p) preds ≡ Some q → (position_or_len (alike constants candidates p) preds == n) ≡ false → (b : Bool) → same_pred q p ≡ b → b ≡ false
    not_same q is other true same =
        let e : q ≡ p = (same_pred_decides q p).0 same in
        let at = numbered (position_or_len (alike constants candidates p) preds) p (sym (find_at (alike constants candidates p) preds) ∙ is ∙ ap Some e) in
        absurd (false≢true (sym other ∙ eq-eqb _ _ (sym at ∙ numbered n p there)))
    not_same q is other false same = refl

    not_first : (o : Option Pred) → find (alike constants candidates p) preds ≡ o → (position_or_len (alike constants candidates p) preds == n) ≡ false → is_first_alike constants candidates preds p ≡ false
    not_first None is other = absurd (finds (alike constants candidates p) preds n p there (alike_self constants candidates p) is)
    not_first (Some q) is other = rw is (not_same q is other (same_pred q p) refl)

-- the same of vectors
stands_is : (constants : List Value) (candidates : List Row) (preds : List Pred) (n : ℕ) (p : Pred) → Numbered preds → slice_get preds n ≡ Some p
    → stands_first (map (kept_vector constants candidates) preds) (n, kept_vector constants candidates p) ≡ is_first_alike constants candidates preds p
stands_is constants candidates preds n p numbered there =
    ap (λ m. m == n) (position_map (same_bits (kept_vector constants candidates p)) (kept_vector constants candidates) preds
    ∙ position_same _ (alike constants candidates p) preds (alike_is constants candidates p))
    ∙ first_at constants candidates preds n p numbered there

-- the choices of what is left of a list
choices_from : (constants : List Value) (candidates : List Row) (preds left : List Pred) (n : ℕ) → Numbered preds → ((k : ℕ) → slice_get left k ≡ slice_get preds (n + k))
    → map (class_choice preds) (map class_of (filter (stands_first (map (kept_vector constants candidates) preds)) (enumerate_from n (map (kept_vector constants candidates) left))))
    ≡ map (chosen constants candidates) (filter (is_first_alike constants candidates preds) left)
choices_from constants candidates preds [] n numbered suffix = refl
choices_from constants candidates preds (p ∷ left) n numbered suffix =
    here (is_first_alike constants candidates preds p) refl
    (choices_from constants candidates preds left (n + 1) numbered (λ k. suffix (suc k) ∙ ap (slice_get preds) (omega arith)))
  where
    there : slice_get preds n ≡ Some p
    there = ap (slice_get preds) (omega arith) ∙ sym (suffix 0)

    here : (b : Bool) → is_first_alike constants candidates preds p ≡ b
        → map (class_choice preds) (map class_of (filter (stands_first (map (kept_vector constants candidates) preds)) (enumerate_from (n + 1) (map (kept_vector constants candidates) left)))) ≡ map (chosen constants candidates) (filter (is_first_alike constants candidates preds) left)
        → map (class_choice preds) (map class_of (filter (stands_first (map (kept_vector constants candidates) preds)) (enumerate_from n (map (kept_vector constants candidates) (p ∷ left))))) ≡ map (chosen constants candidates) (filter (is_first_alike constants candidates preds) (p ∷ left))
    here true is rest = rw (stands_is constants candidates preds n p numbered there, is, there) (ap (λ t. chosen constants candidates p ∷ t) rest)
    here false is rest = rw (stands_is constants candidates preds n p numbered there, is) rest

-- the choices of the classes of the predicates over columns of these types are those of the standard predicates
choices_are : (constants : List Value) (candidates : List Row) (types : List ColType) (bound width : ℕ) (rows : List (List Bool)) (found : List Class)
    → width ≡ length candidates → rows ≡ map (λ a. kept_vector constants candidates (One a)) (atom_list types constants) → found ≡ classes_of (vectors width rows bound)
    → map (class_choice (pred_list (atom_list types constants) bound)) found
    ≡ map (chosen constants candidates) (filter (is_first_alike constants candidates (pred_list (atom_list types constants) bound)) (pred_list (atom_list types constants) bound))
choices_are constants candidates types bound width rows found is_width is_rows is_found =
    let preds = pred_list (atom_list types constants) bound in
    let all : vectors width rows bound ≡ map (kept_vector constants candidates) preds = rw (is_width, is_rows) (sym (vectors_of_preds constants (atom_list types constants) bound candidates)) in
    ap (map (class_choice preds)) (is_found ∙ ap classes_of all)
    ∙ choices_from constants candidates preds preds 0 (numbered_by_place types constants bound) (λ k. ap (slice_get preds) (omega arith))

-- each vector of kept rows has as many places as there are rows
pub vectors_wide : (constants : List Value) (candidates : List Row) (atoms : List Atom) (k : ℕ) (d : List Bool) → k < length (map (λ a. kept_vector constants candidates (One a)) atoms)
    → length (get_or (map (λ a. kept_vector constants candidates (One a)) atoms) k d) ≡ length candidates
vectors_wide constants candidates [] k d below = absurd (omega (arith, below))
vectors_wide constants candidates (a ∷ atoms) zero d below = length-map candidates (λ row. keeps constants (One a) row)
vectors_wide constants candidates (a ∷ atoms) (suc k) d below = vectors_wide constants candidates atoms k d (omega (arith, below))

-- by a task's own constants and bound
are_hole_choices : (task : TaskParts) (types : List ColType) (candidates : List Row) (constants : List Value) (bound : ℕ) (cs : List Choice) → constants ≡ task.constants → bound ≡ task.atoms
    → cs ≡ map (chosen constants candidates) (filter (is_first_alike constants candidates (pred_list (atom_list types constants) bound)) (pred_list (atom_list types constants) bound)) → cs ≡ hole_choices task types candidates
are_hole_choices task types candidates constants bound cs is_constants is_bound e =
    subst (λ b. cs ≡ map (chosen task.constants candidates) (filter (is_first_alike task.constants candidates (pred_list (atom_list types task.constants) b)) (pred_list (atom_list types task.constants) b))) is_bound
    (subst (λ k. cs ≡ map (chosen k candidates) (filter (is_first_alike k candidates (pred_list (atom_list types k) bound)) (pred_list (atom_list types k) bound))) is_constants e)

filter_made : {X Y : Type 0} (q : Y → Bool) (f : X → Y) (xs : List X) → filter q (map f xs) ≡ map f (filter (λ x. q (f x)) xs)
filter_made q f [] = refl
filter_made q f (x ∷ xs) = by (q (f x)) (filter_made q f xs)
  where
    by : (b : Bool) → filter q (map f xs) ≡ map f (filter (λ y. q (f y)) xs) → (if b then f x ∷ filter q (map f xs) else filter q (map f xs)) ≡ map f (if b then x ∷ filter (λ y. q (f y)) xs else filter (λ y. q (f y)) xs)
    by true rest = ap (λ ys. f x ∷ ys) rest
    by false rest = rest

-- the choices of the classes that may be wanted are the hole's that may be
pub wanted_are : (task : TaskParts) (types : List ColType) (candidates : List Row) (constants : List Value) (bound width : ℕ) (rows : List (List Bool)) (list : List Pred) (may : Join → List Bool → Bool) (found : List Class)
    → constants ≡ task.constants → bound ≡ task.atoms → width ≡ length candidates → rows ≡ map (λ a. kept_vector constants candidates (One a)) (atom_list types constants) → list ≡ pred_list (atom_list types constants) bound
    → found ≡ filter (sieves.is_wanted may) (classes_of (vectors width rows bound)) → map (class_choice list) found ≡ filter (is_wanted may) (hole_choices task types candidates)
wanted_are task types candidates constants bound width rows list may found is_constants is_bound is_width is_rows is_list is_found =
    let all = classes_of (vectors width rows bound) in
    let choices = choices_are constants candidates types bound width rows all is_width is_rows refl in
    ap (map (class_choice list)) is_found ∙ sym (filter_made (is_wanted may) (class_choice list) all)
    ∙ ap (filter (is_wanted may)) (are_hole_choices task types candidates constants bound (map (class_choice list) all) is_constants is_bound (ap (λ l. map (class_choice l) all) is_list ∙ choices))

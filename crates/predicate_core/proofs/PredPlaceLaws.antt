-- Where a predicate stands among the predicates over some atoms, from where its atoms stand.
use Rattle.std.proofs.Common.{◌≡◌, refl, sym, ap, subst, ◌∙◌, ℕ, ◌+◌, ◌*◌, ◌≤◌, Bool, true, false, nat_le, if◌then◌else◌, inl, inr, List, [], ◌∷◌, ◌++◌, length, map, Option, Some, None, option_map, unwrap_or, arith, length-append, le-leb, leb-true}
use Rattle.std.specs.List.{position_or_len}
use Rattle.std.proofs.lemmas.Bool.{false≢true}
use Rattle.std.proofs.lemmas.List.{length-map}
use Rattle.value_core.specs.declared.value.Value.{Value}
use Rattle.value_core.specs.declared.value.ColType.{ColType}
use Rattle.value_core.specs.Value.{same_type, is_of_type}
use Rattle.predicate_core.specs.declared.atom.Atom.{Atom}
use Rattle.predicate_core.specs.declared.atom.Atom.TheVariants.{Cols, Const}
use Rattle.predicate_core.specs.declared.pred.Pred.{Pred}
use Rattle.predicate_core.specs.declared.pred.Pred.TheVariants.{Always, One, And2, Or2, And3, Or3}
use Rattle.predicate_core.specs.Atoms.{comparisons, column_with_columns, columns_compared, column_with_constants, constants_compared, null_tests, atom_list, pairs, triples, two_atoms, three_atoms, more_atoms, pred_list}
use Rattle.predicate_core.specs.Counts.{pair_count, triple_count}
use Rattle.predicate_core.specs.Equal.{same_atom, same_pred}
use Rattle.predicate_core.specs.Search.{IsPlace}
use Rattle.predicate_core.proofs.NumberLaws.{length-pairs, length-triples, length-two_atoms}
use Rattle.predicate_core.proofs.OnceLists.{In, in_append}
use Rattle.predicate_core.proofs.OnceLaws.{form, in_form, and2_same, or2_same, and3_same, or3_same, two_forms, three_forms, more_forms, once_atoms, once_preds}
use Rattle.predicate_core.proofs.PlaceLaws.{Spot, place_of_spot, spot_of_place, spot_left, spot_right, spot_map, spot_is, position_of_spot}
use Rattle.predicate_core.proofs.SameLaws.{same_atom_decides, same_pred_decides}

-- a place moved on by so many, where the bound is reached
abbrev pub moved : ℕ → Bool → Option ℕ → Option ℕ
moved base reached place = if reached then option_map (λ k. base + k) place else None

-- to move a place twice is to move it once
moved_twice : (m n : ℕ) (b : Bool) (o : Option ℕ) → moved (m + n) b o ≡ option_map (λ k. m + k) (moved n b o)
moved_twice m n true (Some k) = ap Some (omega arith)
moved_twice m n true None = refl
moved_twice m n false o = refl

moved_inside : (m n : ℕ) (b : Bool) (o : Option ℕ) → moved (m + n) b o ≡ moved m b (option_map (λ k. n + k) o)
moved_inside m n true (Some k) = ap Some (omega arith)
moved_inside m n true None = refl
moved_inside m n false o = refl

moved_nothing : (b : Bool) (o : Option ℕ) → moved 0 b o ≡ (if b then o else None)
moved_nothing true (Some k) = ap Some (omega arith)
moved_nothing true None = refl
moved_nothing false o = refl

moved_out : (m : ℕ) (b : Bool) (o : Option ℕ) → moved m b o ≡ option_map (λ k. m + k) (if b then o else None)
moved_out m true o = refl
moved_out m false o = refl

-- a single atom
one_same : (a b : Atom) → One a ≡ One b → a ≡ b
one_same a b e = cc

not_always : (p : Pred) → 1 ≤ form p → In p (Always ∷ []) → ⊥
not_always p some here = elim here [ inl e ↦ let f = ap form e in omega (arith, f) | inr i ↦ i ]

pub spot_one : (atoms : List Atom) (bound : ℕ) (a : Atom) (o : Option ℕ) → Spot a atoms o → Spot (One a) (pred_list atoms bound) (option_map (λ k. 1 + k) o)
spot_one atoms bound a o s =
    let more = more_atoms atoms bound in
    spot_right (One a) (Always ∷ []) (map One atoms ++ more) 1 o refl (not_always (One a) (omega arith))
    (spot_left (One a) (map One atoms) more o (λ here. let h = more_forms atoms bound (One a) here in omega (arith, h)) (spot_map One one_same a atoms o s))

-- two atoms or more stand behind the single atoms
spot_more : (atoms : List Atom) (bound : ℕ) (p : Pred) (o : Option ℕ) → 2 ≤ form p → Spot p (more_atoms atoms bound) o → Spot p (pred_list atoms bound) (option_map (λ k. 1 + length atoms + k) o)
spot_more atoms bound p o many s =
    let long : 1 + length atoms ≡ length (Always ∷ map One atoms) = omega (arith, length-map atoms One) in
    spot_right p (Always ∷ map One atoms) (more_atoms atoms bound) (1 + length atoms) o long
    (λ here. elim here [
      | inl e ↦ let f = ap form e in omega (arith, f)
      | inr i ↦ let f = in_form One 1 (λ a. refl) p atoms i in omega (arith, f)
    ]) s

-- two atoms
spot_if : (b : Bool) (p : Pred) (xs : List Pred) (o : Option ℕ) → Spot p xs o → Spot p (if b then xs else []) (if b then o else None)
spot_if true p xs o s = s
spot_if false p xs o s = λ i. i

not_three : (b : Bool) (atoms : List Atom) (p : Pred) → form p ≤ 3 → In p (if b then three_atoms atoms else []) → ⊥
not_three true atoms p few here = let h = three_forms atoms p here in omega (arith, h.0)
not_three false atoms p few here = here

spot_two : (atoms : List Atom) (bound : ℕ) (p : Pred) (o : Option ℕ) → 2 ≤ form p → form p ≤ 3 → Spot p (two_atoms atoms) o → Spot p (pred_list atoms bound) (moved (1 + length atoms) (nat_le 2 bound) o)
spot_two atoms bound p o many few s =
    let two = if nat_le 2 bound then two_atoms atoms else [] in
    let three = if nat_le 3 bound then three_atoms atoms else [] in
    let more = spot_left p two three _ (not_three (nat_le 3 bound) atoms p few) (spot_if (nat_le 2 bound) p (two_atoms atoms) o s) in
    spot_is p (pred_list atoms bound) _ _ (moved_out (1 + length atoms) (nat_le 2 bound) o) (spot_more atoms bound p _ many more)

pub spot_and2 : (atoms : List Atom) (bound : ℕ) (a b : Atom) (o : Option ℕ) → IsPlace (a, b) (pairs atoms) o → IsPlace (And2 a b) (pred_list atoms bound) (moved (1 + length atoms) (nat_le 2 bound) o)
spot_and2 atoms bound a b o place =
    let ps = pairs atoms in
    let s = spot_of_place (a, b) ps o place in
    let f : Atom × Atom → Pred = λ q. And2 q.0 q.1 in
    let g : Atom × Atom → Pred = λ q. Or2 q.0 q.1 in
    let here = spot_left (And2 a b) (map f ps) (map g ps) o (λ i. let h = in_form g 3 (λ q. refl) (And2 a b) ps i in omega (arith, h)) (spot_map f and2_same (a, b) ps o s) in
    place_of_spot (And2 a b) (pred_list atoms bound) _ (spot_two atoms bound (And2 a b) o (omega arith) (omega arith) here)

pub spot_or2 : (atoms : List Atom) (bound : ℕ) (a b : Atom) (o : Option ℕ) → IsPlace (a, b) (pairs atoms) o → IsPlace (Or2 a b) (pred_list atoms bound) (moved (1 + length atoms + pair_count (length atoms)) (nat_le 2 bound) o)
spot_or2 atoms bound a b o place =
    let ps = pairs atoms in
    let n = pair_count (length atoms) in
    let s = spot_of_place (a, b) ps o place in
    let f : Atom × Atom → Pred = λ q. And2 q.0 q.1 in
    let g : Atom × Atom → Pred = λ q. Or2 q.0 q.1 in
    let long : n ≡ length (map f ps) = sym (length-map ps f ∙ length-pairs atoms) in
    let here = spot_right (Or2 a b) (map f ps) (map g ps) n o long (λ i. let h = in_form f 2 (λ q. refl) (Or2 a b) ps i in omega (arith, h)) (spot_map g or2_same (a, b) ps o s) in
    let list = pred_list atoms bound in
    place_of_spot (Or2 a b) list _ (spot_is (Or2 a b) list _ _ (moved_inside (1 + length atoms) n (nat_le 2 bound) o) (spot_two atoms bound (Or2 a b) _ (omega arith) (omega arith) here))

-- three atoms
three_reached : (bound : ℕ) → nat_le 3 bound ≡ true → nat_le 2 bound ≡ true
three_reached bound e = le-leb 2 bound (let h = leb-true 3 bound e in omega arith)

three_if : (b c : Bool) (atoms : List Atom) (p : Pred) (o : Option ℕ) → (c ≡ true → b ≡ true) → 4 ≤ form p → Spot p (three_atoms atoms) o
    → Spot p ((if b then two_atoms atoms else []) ++ (if c then three_atoms atoms else [])) (moved (2 * pair_count (length atoms)) c o)
three_if true true atoms p o both many s = spot_right p (two_atoms atoms) (three_atoms atoms) (2 * pair_count (length atoms)) o (sym (length-two_atoms atoms)) (λ i. let h = two_forms atoms p i in omega (arith, h.1)) s
three_if false true atoms p o both many s = absurd (false≢true (both refl))
three_if true false atoms p o both many s = λ i. elim (in_append p (two_atoms atoms) [] i) [ inl a ↦ let h = two_forms atoms p a in omega (arith, h.1) | inr b ↦ b ]
three_if false false atoms p o both many s = λ i. i

spot_three : (atoms : List Atom) (bound : ℕ) (p : Pred) (o : Option ℕ) → 4 ≤ form p → Spot p (three_atoms atoms) o → Spot p (pred_list atoms bound) (moved (1 + length atoms + 2 * pair_count (length atoms)) (nat_le 3 bound) o)
spot_three atoms bound p o many s =
    let n = 2 * pair_count (length atoms) in
    let both = three_reached bound in
    let more = three_if (nat_le 2 bound) (nat_le 3 bound) atoms p o both many s in
    spot_is p (pred_list atoms bound) _ _ (moved_twice (1 + length atoms) n (nat_le 3 bound) o) (spot_more atoms bound p _ (omega arith) more)

pub spot_and3 : (atoms : List Atom) (bound : ℕ) (a b c : Atom) (o : Option ℕ) → IsPlace (a, b, c) (triples atoms) o → IsPlace (And3 a b c) (pred_list atoms bound) (moved (1 + length atoms + 2 * pair_count (length atoms)) (nat_le 3 bound) o)
spot_and3 atoms bound a b c o place =
    let ts = triples atoms in
    let s = spot_of_place (a, b, c) ts o place in
    let f : Atom × Atom × Atom → Pred = λ q. And3 q.0 q.1 q.2 in
    let g : Atom × Atom × Atom → Pred = λ q. Or3 q.0 q.1 q.2 in
    let here = spot_left (And3 a b c) (map f ts) (map g ts) o (λ i. let h = in_form g 5 (λ q. refl) (And3 a b c) ts i in omega (arith, h)) (spot_map f and3_same (a, b, c) ts o s) in
    place_of_spot (And3 a b c) (pred_list atoms bound) _ (spot_three atoms bound (And3 a b c) o (omega arith) here)

pub spot_or3 : (atoms : List Atom) (bound : ℕ) (a b c : Atom) (o : Option ℕ) → IsPlace (a, b, c) (triples atoms) o → IsPlace (Or3 a b c) (pred_list atoms bound) (moved (1 + length atoms + 2 * pair_count (length atoms) + triple_count (length atoms)) (nat_le 3 bound) o)
spot_or3 atoms bound a b c o place =
    let ts = triples atoms in
    let n = triple_count (length atoms) in
    let s = spot_of_place (a, b, c) ts o place in
    let f : Atom × Atom × Atom → Pred = λ q. And3 q.0 q.1 q.2 in
    let g : Atom × Atom × Atom → Pred = λ q. Or3 q.0 q.1 q.2 in
    let long : n ≡ length (map f ts) = sym (length-map ts f ∙ length-triples atoms) in
    let here = spot_right (Or3 a b c) (map f ts) (map g ts) n o long (λ i. let h = in_form f 4 (λ q. refl) (Or3 a b c) ts i in omega (arith, h)) (spot_map g or3_same (a, b, c) ts o s) in
    let list = pred_list atoms bound in
    place_of_spot (Or3 a b c) list _ (spot_is (Or3 a b c) list _ _ (moved_inside (1 + length atoms + 2 * pair_count (length atoms)) n (nat_le 3 bound) o) (spot_three atoms bound (Or3 a b c) _ (omega arith) here))

-- a place is the number
pub pred_numbered : (types : List ColType) (constants : List Value) (bound : ℕ) (p : Pred) (o : Option ℕ) → IsPlace p (pred_list (atom_list types constants) bound) o
    → position_or_len (same_pred p) (pred_list (atom_list types constants) bound) ≡ unwrap_or o (length (pred_list (atom_list types constants) bound))
pred_numbered types constants bound p o place =
    let list = pred_list (atom_list types constants) bound in
    position_of_spot same_pred same_pred_decides p list o (once_preds (atom_list types constants) bound (once_atoms types constants)) (spot_of_place p list o place)

pub atom_numbered : (types : List ColType) (constants : List Value) (a : Atom) (o : Option ℕ) → Spot a (atom_list types constants) o
    → position_or_len (same_atom a) (atom_list types constants) ≡ unwrap_or o (length (atom_list types constants))
atom_numbered types constants a o s = position_of_spot same_atom same_atom_decides a (atom_list types constants) o (once_atoms types constants) s

-- few columns and constants have few atoms
six_columns : (b : Bool) (i j : ℕ) → length (if b then map (λ op. Cols i op j) comparisons else []) ≤ 6
six_columns true i j = omega arith
six_columns false i j = omega arith

six_constants : (b : Bool) (i k : ℕ) → length (if b then map (λ op. Const i op k) comparisons else []) ≤ 6
six_constants true i k = omega arith
six_constants false i k = omega arith

few_with_columns : (i : ℕ) (t : ColType) (j : ℕ) (us : List ColType) → length (column_with_columns i t j us) ≤ 6 * length us
few_with_columns i t j [] = omega arith
few_with_columns i t j (u ∷ us) =
    let all = length-append (if same_type t u then map (λ op. Cols i op j) comparisons else []) (column_with_columns i t (j + 1) us) in
    omega (arith, all, six_columns (same_type t u) i j, few_with_columns i t (j + 1) us)

few_columns : (i : ℕ) (ts : List ColType) → length ts ≤ 64 → length (columns_compared i ts) ≤ 384 * length ts
few_columns i [] few = omega arith
few_columns i (t ∷ ts) few =
    let all = length-append (column_with_columns i t (i + 1) ts) (columns_compared (i + 1) ts) in
    omega (arith, all, few_with_columns i t (i + 1) ts, few_columns (i + 1) ts (omega arith))

few_with_constants : (i : ℕ) (t : ColType) (k : ℕ) (cs : List Value) → length (column_with_constants i t k cs) ≤ 6 * length cs
few_with_constants i t k [] = omega arith
few_with_constants i t k (c ∷ cs) =
    let all = length-append (if is_of_type t c then map (λ op. Const i op k) comparisons else []) (column_with_constants i t (k + 1) cs) in
    omega (arith, all, six_constants (is_of_type t c) i k, few_with_constants i t (k + 1) cs)

few_constants : (i : ℕ) (cs : List Value) (ts : List ColType) → length cs ≤ 64 → length (constants_compared i cs ts) ≤ 384 * length ts
few_constants i cs [] few = omega arith
few_constants i cs (t ∷ ts) few =
    let all = length-append (column_with_constants i t 0 cs) (constants_compared (i + 1) cs ts) in
    omega (arith, all, few_with_constants i t 0 cs, few_constants (i + 1) cs ts few)

few_nulls : (i : ℕ) (ts : List ColType) → length (null_tests i ts) ≡ 2 * length ts
few_nulls i [] = omega arith
few_nulls i (t ∷ ts) = omega (arith, few_nulls (i + 1) ts)

pub atoms_few : (types : List ColType) (constants : List Value) → length types + length constants ≤ 64 → length (atom_list types constants) ≤ 100000
atoms_few types constants few =
    let columns = columns_compared 0 types in
    let values = constants_compared 0 constants types in
    let front = length-append columns values in
    let all = length-append (columns ++ values) (null_tests 0 types) in
    omega (arith, front, all, few_columns 0 types (omega arith), few_constants 0 constants types (omega arith), few_nulls 0 types)

-- a place of the same predicate, moved by the same
place_is : (p q : Pred) (list : List Pred) (o r : Option ℕ) → p ≡ q → r ≡ o → IsPlace q list o → IsPlace p list r
place_is p q list o r e f place =
    let P : Pred → Type 0 = λ x. IsPlace x list r in
    let R : Option ℕ → Type 0 = λ x. IsPlace q list x in
    subst P (sym e) (subst R (sym f) place)

pub moved_place : (p q : Pred) (list : List Pred) (m n : ℕ) (b : Bool) (o r : Option ℕ) → p ≡ q → m ≡ n → r ≡ moved m b o → IsPlace q list (moved n b o) → IsPlace p list r
moved_place p q list m n b o r e same is place = place_is p q list (moved n b o) r e (is ∙ ap (λ x. moved x b o) same) place

-- a single atom's place, from the search's
pub one_place : (atoms : List Atom) (bound : ℕ) (a : Atom) (o : Option ℕ) → Spot a atoms o → IsPlace (One a) (pred_list atoms bound) (option_map (λ k. 1 + k) o)
one_place atoms bound a o s = place_of_spot (One a) (pred_list atoms bound) _ (spot_one atoms bound a o s)

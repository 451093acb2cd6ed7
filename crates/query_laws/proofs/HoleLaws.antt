-- Which predicates the list of a hole has, and which maps fit a body.
use Rattle.std.proofs.Common.{◌≡◌, refl, sym, ap, subst, ◌∙◌, ℕ, zero, suc, ◌+◌, ◌<◌, ◌≤◌, Bool, true, false, not, ◌&&◌, nat_lt, nat_le, cond, if◌then◌else◌, inl, inr, List, [], ◌∷◌, map, length, arith}
use Rattle.std.specs.List.{list_all}
use Rattle.std.specs.declared.cmp.Ordering.{Ordering}
use Rattle.std.specs.declared.cmp.Ordering.TheVariants.{Less, Equal, Greater}
use Rattle.std.specs.Ordering.{nat_cmp, is_lt, ordering_reverse}
use Rattle.std.specs.Cmp.Lexicographic.{slice_cmp, pointwise}
use Rattle.std.proofs.lemmas.Bool.{false≢true, and_parts, and_from, ltb-true, lt-ltb, leb-true, le-leb, not-true, not_from_false, false_from_ne_true}
use Rattle.std.proofs.lemmas.Cmp.{nat_list_cmp_total}
use Rattle.value_core.specs.Value.{same_type}
use Rattle.value_core.specs.declared.value.ColType.{ColType}
use Rattle.value_core.specs.declared.value.ColType.TheVariants as kind
use Rattle.predicate_core.specs.Equal.{atoms_of}
use Rattle.predicate_core.specs.Atoms.{atom_list, pairs, triples, two_atoms, three_atoms, more_atoms, pred_list}
use Rattle.predicate_core.specs.declared.atom.Atom.{Atom}
use Rattle.predicate_core.specs.declared.pred.Pred.{Pred}
use Rattle.predicate_core.specs.declared.pred.Pred.TheVariants.{Always, One, And2, Or2, And3, Or3}
use Rattle.predicate_core.proofs.OnceLists.{In, in_same, in_append, in_map, in_pairs}
use Rattle.predicate_core.proofs.SameLaws.{same_pred_decides}
use Rattle.table_core.specs.declared.task.TaskParts.{TaskParts}
use Rattle.query_core.specs.Meaning.{type_at}
use Rattle.query_core.specs.Columns.{atom_in_range, pred_in_range, atom_agrees, pred_agrees}
use Rattle.query_core.specs.Grammar.{predicates, filter_predicates, places_of, maps}
use Rattle.query_core.specs.Membership.{columns_ascend, atom_key, atom_before, atoms_ascend, pred_in_order}
use Rattle.query_core.specs.Skeleton.{is_open}
use Rattle.query_laws.proofs.MemberLaws.{in_one, in_front, in_back, map_in, in_flat_map, flat_map_in}
use Rattle.query_laws.proofs.FillingLaws.{once_predicates}
use Rattle.query_laws.proofs.AscendingLists.{Ascending, OneWay, of_all, all_of, pairs_ordered, ordered_pairs, triples_pairs, ordered_triples}
use Rattle.query_laws.proofs.AtomLaws.{atoms_fit, atoms_listed, atoms_ascending}

-- of two atoms never does each stand before the other
reverse_one_way : (o p : Ordering) → o ≡ ordering_reverse p → is_lt o ≡ true → is_lt p ≡ true → ⊥
reverse_one_way o Less e less more = false≢true (sym (ap is_lt e) ∙ less)
reverse_one_way o Equal e less more = false≢true more
reverse_one_way o Greater e less more = false≢true more

atoms_one_way : OneWay atom_before
atoms_one_way a b first second =
    reverse_one_way (slice_cmp nat_cmp (atom_key a) (atom_key b)) (slice_cmp nat_cmp (atom_key b) (atom_key a)) (nat_list_cmp_total.antisymm (atom_key a) (atom_key b)) first second

-- some atoms are listed, ascend, and are no more than the bound
abbrev Joins : List Atom → ℕ → List Atom → Type 0
Joins atoms bound xs = ((a : Atom) → In a xs → In a atoms) × (atoms_ascend xs ≡ true) × (length xs ≤ bound)

-- what is in a list that may be left out
in_if : {X : Type 0} (b : Bool) (x : X) (xs : List X) → In x (if b then xs else []) → (b ≡ true) × In x xs
in_if true x xs i = (refl, i)
in_if false x xs i = absurd i

if_in : {X : Type 0} (b : Bool) (x : X) (xs : List X) → b ≡ true → In x xs → In x (if b then xs else [])
if_in b x xs is i = rw is i

both_listed : (atoms : List Atom) (a b : Atom) → In a atoms → In b atoms → (x : Atom) → In x (a ∷ b ∷ []) → In x atoms
both_listed atoms a b i j x (inl e) = in_same x a atoms e i
both_listed atoms a b i j x (inr (inl e)) = in_same x b atoms e j
both_listed atoms a b i j x (inr (inr none)) = absurd none

three_listed : (atoms : List Atom) (a b c : Atom) → In a atoms → In b atoms → In c atoms → (x : Atom) → In x (a ∷ b ∷ c ∷ []) → In x atoms
three_listed atoms a b c i j k x (inl e) = in_same x a atoms e i
three_listed atoms a b c i j k x (inr rest) = both_listed atoms b c j k x rest

module _ (atoms : List Atom) (bound : ℕ) (ascending : Ascending atom_before atoms) (some : 1 ≤ bound) where
  two_join : (q : Atom × Atom) → In q (pairs atoms) → 2 ≤ bound → Joins atoms bound (q.0 ∷ q.1 ∷ [])
  two_join q i enough =
      let h = in_pairs q atoms i in
      (both_listed atoms q.0 q.1 h.0 h.1, and_from (atom_before q.0 q.1) true (pairs_ordered atom_before q atoms ascending i) refl, enough)

  three_join : (q : Atom × Atom × Atom) → In q (triples atoms) → 3 ≤ bound → Joins atoms bound (q.0 ∷ q.1 ∷ q.2 ∷ [])
  three_join q i enough =
      let first : Atom × Atom = (q.0, q.1) in
      let second : Atom × Atom = (q.1, q.2) in
      let h = triples_pairs q atoms i in
      let f = in_pairs first atoms h.0 in
      let s = in_pairs second atoms h.1 in
      let before = pairs_ordered atom_before first atoms ascending h.0 in
      let after = and_from (atom_before q.1 q.2) true (pairs_ordered atom_before second atoms ascending h.1) refl in
      (three_listed atoms q.0 q.1 q.2 f.0 f.1 s.1, and_from (atom_before q.0 q.1) (atom_before q.1 q.2 && true) before after, enough)

  made_join : {Q : Type 0} (make : Q → Pred) (p : Pred) (qs : List Q) → ((q : Q) → In q qs → Joins atoms bound (atoms_of (make q))) → In p (map make qs) → Joins atoms bound (atoms_of p)
  made_join make p qs each i = let h = in_map make p qs i in subst (λ r. Joins atoms bound (atoms_of r)) (sym h.2) (each h.0 h.1)

  ones_join : (p : Pred) → In p (map One atoms) → Joins atoms bound (atoms_of p)
  ones_join p i = made_join One p atoms (λ a j. (λ x k. in_same x a atoms (in_one x a k) j, refl, some)) i

  twos_join : (p : Pred) → 2 ≤ bound → In p (two_atoms atoms) → Joins atoms bound (atoms_of p)
  twos_join p enough i =
      let ands : Atom × Atom → Pred = λ q. And2 q.0 q.1 in
      let ors : Atom × Atom → Pred = λ q. Or2 q.0 q.1 in
      elim (in_append p (map ands (pairs atoms)) (map ors (pairs atoms)) i) [
        | inl x ↦ made_join ands p (pairs atoms) (λ q j. two_join q j enough) x
        | inr x ↦ made_join ors p (pairs atoms) (λ q j. two_join q j enough) x
      ]

  threes_join : (p : Pred) → 3 ≤ bound → In p (three_atoms atoms) → Joins atoms bound (atoms_of p)
  threes_join p enough i =
      let ands : Atom × Atom × Atom → Pred = λ q. And3 q.0 q.1 q.2 in
      let ors : Atom × Atom × Atom → Pred = λ q. Or3 q.0 q.1 q.2 in
      elim (in_append p (map ands (triples atoms)) (map ors (triples atoms)) i) [
        | inl x ↦ made_join ands p (triples atoms) (λ q j. three_join q j enough) x
        | inr x ↦ made_join ors p (triples atoms) (λ q j. three_join q j enough) x
      ]

  more_join : (p : Pred) → In p (more_atoms atoms bound) → Joins atoms bound (atoms_of p)
  more_join p i =
      elim (in_append p (if nat_le 2 bound then two_atoms atoms else []) (if nat_le 3 bound then three_atoms atoms else []) i) [
        | inl x ↦ let h = in_if (nat_le 2 bound) p (two_atoms atoms) x in twos_join p (leb-true 2 bound h.0) h.1
        | inr x ↦ let h = in_if (nat_le 3 bound) p (three_atoms atoms) x in threes_join p (leb-true 3 bound h.0) h.1
      ]

  -- a listed predicate joins listed atoms
  preds_join : (p : Pred) → In p (pred_list atoms bound) → Joins atoms bound (atoms_of p)
  preds_join p (inl e) = subst (λ r. Joins atoms bound (atoms_of r)) (sym e) (λ x i. absurd i, refl, omega arith)
  preds_join p (inr i) = elim (in_append p (map One atoms) (more_atoms atoms bound) i) [ inl x ↦ ones_join p x | inr x ↦ more_join p x ]

  pair_in : (a b : Atom) → Joins atoms bound (a ∷ b ∷ []) → In (a, b) (pairs atoms)
  pair_in a b joins = ordered_pairs atom_before atoms_one_way a b atoms ascending (joins.0 a (inl refl)) (joins.0 b (inr (inl refl))) (and_parts (atom_before a b) true joins.1).0

  triple_in : (a b c : Atom) → Joins atoms bound (a ∷ b ∷ c ∷ []) → In (a, b, c) (triples atoms)
  triple_in a b c joins =
      let h = and_parts (atom_before a b) (atom_before b c && true) joins.1 in
      let k = and_parts (atom_before b c) true h.1 in
      ordered_triples atom_before atoms_one_way a b c atoms ascending (joins.0 a (inl refl)) (joins.0 b (inr (inl refl))) (joins.0 c (inr (inr (inl refl)))) h.0 k.0

  two_in : (p : Pred) → 2 ≤ bound → In p (two_atoms atoms) → In p (pred_list atoms bound)
  two_in p enough i =
      let twos : List Pred = if nat_le 2 bound then two_atoms atoms else [] in
      let threes : List Pred = if nat_le 3 bound then three_atoms atoms else [] in
      inr (in_back p (map One atoms) (more_atoms atoms bound) (in_front p twos threes (if_in (nat_le 2 bound) p (two_atoms atoms) (le-leb 2 bound enough) i)))

  three_in : (p : Pred) → 3 ≤ bound → In p (three_atoms atoms) → In p (pred_list atoms bound)
  three_in p enough i =
      let twos : List Pred = if nat_le 2 bound then two_atoms atoms else [] in
      let threes : List Pred = if nat_le 3 bound then three_atoms atoms else [] in
      inr (in_back p (map One atoms) (more_atoms atoms bound) (in_back p twos threes (if_in (nat_le 3 bound) p (three_atoms atoms) (le-leb 3 bound enough) i)))

  -- what joins listed atoms is a listed predicate
  joins_listed : (p : Pred) → Joins atoms bound (atoms_of p) → In p (pred_list atoms bound)
  joins_listed Always joins = inl refl
  joins_listed (One a) joins = inr (in_front (One a) (map One atoms) (more_atoms atoms bound) (map_in One a atoms (joins.0 a (inl refl))))
  joins_listed (And2 a b) joins =
      let ands : Atom × Atom → Pred = λ q. And2 q.0 q.1 in
      let ors : Atom × Atom → Pred = λ q. Or2 q.0 q.1 in
      two_in (And2 a b) joins.2 (in_front (And2 a b) (map ands (pairs atoms)) (map ors (pairs atoms)) (map_in ands (a, b) (pairs atoms) (pair_in a b joins)))
  joins_listed (Or2 a b) joins =
      let ands : Atom × Atom → Pred = λ q. And2 q.0 q.1 in
      let ors : Atom × Atom → Pred = λ q. Or2 q.0 q.1 in
      two_in (Or2 a b) joins.2 (in_back (Or2 a b) (map ands (pairs atoms)) (map ors (pairs atoms)) (map_in ors (a, b) (pairs atoms) (pair_in a b joins)))
  joins_listed (And3 a b c) joins =
      let ands : Atom × Atom × Atom → Pred = λ q. And3 q.0 q.1 q.2 in
      let ors : Atom × Atom × Atom → Pred = λ q. Or3 q.0 q.1 q.2 in
      three_in (And3 a b c) joins.2 (in_front (And3 a b c) (map ands (triples atoms)) (map ors (triples atoms)) (map_in ands (a, b, c) (triples atoms) (triple_in a b c joins)))
  joins_listed (Or3 a b c) joins =
      let ands : Atom × Atom × Atom → Pred = λ q. And3 q.0 q.1 q.2 in
      let ors : Atom × Atom × Atom → Pred = λ q. Or3 q.0 q.1 q.2 in
      three_in (Or3 a b c) joins.2 (in_back (Or3 a b c) (map ands (triples atoms)) (map ors (triples atoms)) (map_in ors (a, b, c) (triples atoms) (triple_in a b c joins)))

-- a predicate by itself: its numbers are in range, its types agree, its atoms are in order, and they are few enough
abbrev pub PredFits : TaskParts → List ColType → Pred → Type 0
PredFits task types p =
    (pred_in_range (length types) (length task.constants) p ≡ true) × (pred_agrees types task.constants p ≡ true) × (pred_in_order p ≡ true) × (nat_le (length (atoms_of p)) task.atoms ≡ true)

module _ (task : TaskParts) (types : List ColType) (some : 1 ≤ task.atoms) where
  -- the predicates of a hole are those that fit
  pub preds_fit : (p : Pred) → In p (predicates task types) → PredFits task types p
  preds_fit p i =
      let constants = task.constants in
      let h = preds_join (atom_list types constants) task.atoms (atoms_ascending types constants) some p i in
      let ordered = all_of columns_ascend (atoms_of p) (λ a j. (atoms_fit types constants a (h.0 a j)).2) in (
        all_of (atom_in_range (length types) (length constants)) (atoms_of p) (λ a j. (atoms_fit types constants a (h.0 a j)).0),
        all_of (atom_agrees types constants) (atoms_of p) (λ a j. (atoms_fit types constants a (h.0 a j)).1),
        and_from (list_all columns_ascend (atoms_of p)) (atoms_ascend (atoms_of p)) ordered h.1,
        le-leb (length (atoms_of p)) task.atoms h.2,
      )

  pub fitting_preds : (p : Pred) → PredFits task types p → In p (predicates task types)
  fitting_preds p fits =
      let constants = task.constants in
      let order = and_parts (list_all columns_ascend (atoms_of p)) (atoms_ascend (atoms_of p)) fits.2 in
      joins_listed (atom_list types constants) task.atoms (atoms_ascending types constants) some p (
        λ a i. atoms_listed types constants a (
          of_all (atom_in_range (length types) (length constants)) a (atoms_of p) fits.0 i,
          of_all (atom_agrees types constants) a (atoms_of p) fits.1 i,
          of_all columns_ascend a (atoms_of p) order.0 i,
        ),
        order.1,
        leb-true (length (atoms_of p)) task.atoms fits.3,
      )

  -- those of a filter's hole are these without Always
  pub filter_preds_fit : (p : Pred) → In p (filter_predicates task types) → PredFits task types p × (not (is_open p) ≡ true)
  filter_preds_fit p i =
      let once = once_predicates task types in
      let closed = false_from_ne_true (is_open p) (λ e. once.0 (in_same Always p (filter_predicates task types) (sym ((same_pred_decides p Always).0 e)) i)) in
      (preds_fit p (inr i), not_from_false (is_open p) closed)

  pub fitting_filter_preds : (p : Pred) → PredFits task types p → not (is_open p) ≡ true → In p (filter_predicates task types)
  fitting_filter_preds p fits closed = later (fitting_preds p fits)
    where
      later : In p (predicates task types) → In p (filter_predicates task types)
      later (inl e) = absurd (false≢true (sym (not-true (is_open p) closed) ∙ (same_pred_decides p Always).1 e))
      later (inr i) = i

-- types that are the same, the other way round
turned : (t u : ColType) → same_type t u ≡ true → same_type u t ≡ true
turned kind.Int kind.Int e = e
turned kind.Int kind.Text e = e
turned kind.Text kind.Int e = e
turned kind.Text kind.Text e = e

-- the places of the columns of a type
place_step : (type : ColType) (at k : ℕ) (u : ColType) (us : List ColType) (b : Bool) → same_type type u ≡ b
    → (In k (places_of type (at + 1) us) → (l : ℕ) × (k ≡ at + 1 + l) × (l < length us) × (same_type type (type_at us l) ≡ true))
    → In k (cond b (at ∷ places_of type (at + 1) us) (places_of type (at + 1) us))
    → (l : ℕ) × (k ≡ at + l) × (l < length (u ∷ us)) × (same_type type (type_at (u ∷ us) l) ≡ true)
place_step type at k u us true is rest (inl e) = (zero, omega arith, omega arith, is)
place_step type at k u us true is rest (inr i) = let h = rest i in (suc h.0, omega (arith, h.1), omega (arith, h.2), h.3)
place_step type at k u us false is rest i = let h = rest i in (suc h.0, omega (arith, h.1), omega (arith, h.2), h.3)

in_places : (type : ColType) (at : ℕ) (us : List ColType) (k : ℕ) → In k (places_of type at us) → (l : ℕ) × (k ≡ at + l) × (l < length us) × (same_type type (type_at us l) ≡ true)
in_places type at [] k i = absurd i
in_places type at (u ∷ us) k i = place_step type at k u us (same_type type u) refl (in_places type (at + 1) us k) i

later_place : (b : Bool) (at k : ℕ) (places : List ℕ) → In k places → In k (cond b (at ∷ places) places)
later_place true at k places i = inr i
later_place false at k places i = i

places_in : (type : ColType) (at : ℕ) (us : List ColType) (k l : ℕ) → k ≡ at + l → l < length us → same_type type (type_at us l) ≡ true → In k (places_of type at us)
places_in type at [] k l e below same = absurd (omega arith)
places_in type at (u ∷ us) k zero e below same = let here : k ≡ at = omega arith in rw same (inl here)
places_in type at (u ∷ us) k (suc l) e below same =
    later_place (same_type type u) at k (places_of type (at + 1) us) (places_in type (at + 1) us k l (omega arith) (omega arith) same)

-- a map by itself: it has as many columns as are wanted, each in range and of its type
abbrev pub MapFits : List ColType → List ColType → List ℕ → Type 0
MapFits body types picks =
    (length picks ≡ length types) × (list_all (λ k. nat_lt k (length body)) picks ≡ true) × (pointwise same_type (map (type_at body) picks) types ≡ true)

abbrev starting : List ColType → List ColType → ℕ → List (List ℕ)
starting body types at = map (λ rest. at ∷ rest) (maps body types)

-- the maps of a body are those that fit
pub maps_fit : (body types : List ColType) (picks : List ℕ) → In picks (maps body types) → MapFits body types picks
maps_fit body [] picks i = subst (MapFits body []) (sym (in_one picks [] i)) (refl, refl, refl)
maps_fit body (type ∷ types) picks i =
    let h = in_flat_map (starting body types) picks (places_of type 0 body) i in
    let g = in_map (λ rest. h.0 ∷ rest) picks (maps body types) h.2 in
    let place = in_places type 0 body h.0 h.1 in
    let rest = maps_fit body types g.0 g.1 in
    let at : place.0 ≡ h.0 = omega (arith, place.1) in
    let below : h.0 < length body = omega (arith, place.2, at) in
    let same : same_type type (type_at body h.0) ≡ true = subst (λ k. same_type type (type_at body k) ≡ true) at place.3 in
    let longer : length (h.0 ∷ g.0) ≡ length (type ∷ types) = omega (arith, rest.0) in
    subst (MapFits body (type ∷ types)) (sym g.2) (
      longer,
      and_from (nat_lt h.0 (length body)) (list_all (λ k. nat_lt k (length body)) g.0) (lt-ltb h.0 (length body) below) rest.1,
      and_from (same_type (type_at body h.0) type) (pointwise same_type (map (type_at body) g.0) types) (turned type (type_at body h.0) same) rest.2,
    )

pub fitting_maps : (body types : List ColType) (picks : List ℕ) → MapFits body types picks → In picks (maps body types)
fitting_maps body [] [] fits = inl refl
fitting_maps body [] (k ∷ ks) fits = absurd (false≢true fits.2)
fitting_maps body (type ∷ types) [] fits = absurd (false≢true fits.2)
fitting_maps body (type ∷ types) (k ∷ ks) fits =
    let range = and_parts (nat_lt k (length body)) (list_all (λ j. nat_lt j (length body)) ks) fits.1 in
    let agree = and_parts (same_type (type_at body k) type) (pointwise same_type (map (type_at body) ks) types) fits.2 in
    let shorter : length ks ≡ length types = omega (arith, fits.0) in
    let place = places_in type 0 body k k (omega arith) (ltb-true k (length body) range.0) (turned (type_at body k) type agree.0) in
    flat_map_in (starting body types) (k ∷ ks) k (places_of type 0 body) place (map_in (λ rest. k ∷ rest) ks (maps body types) (fitting_maps body types ks (shorter, range.1, agree.1)))

-- The vectors of predicates are made of the vectors of their atoms.
use Rattle.std.proofs.Common.{◌≡◌, refl, sym, ap, ◌∙◌, ℕ, Bool, true, false, ◌&&◌, ◌||◌, nat_le, if◌then◌else◌, List, [], ◌∷◌, ◌++◌, length, map, replicate}
use Rattle.std.proofs.lemmas.List.{map-append}
use Rattle.std.proofs.lemmas.Simd.{zip2-map}
use Rattle.value_core.specs.declared.value.Value.{Value}
use Rattle.predicate_core.specs.declared.atom.Atom.{Atom}
use Rattle.predicate_core.specs.declared.pred.Pred.{Pred}
use Rattle.predicate_core.specs.declared.pred.Pred.TheVariants.{Always, One, And2, Or2, And3, Or3}
use Rattle.predicate_core.specs.Atoms.{pairs, triples, two_atoms, three_atoms, more_atoms, pred_list}
use Rattle.predicate_core.specs.Truth.{keeps}
use Rattle.predicate_core.proofs.KeepsLaws.{keeps_by_atoms}
use Rattle.bit_rows.specs.Bits.{and_bits, or_bits}
use Rattle.bit_classes.specs.declared.join.Join.{Join}
use Rattle.bit_classes.specs.declared.join.Join.TheVariants.{And, Or}
use Rattle.bit_classes.specs.Vectors.{combined, combined_pairs, combined_triples, more_vectors, vectors}
use Rattle.bit_classes.specs.Laws.{kept_vector, VectorsOfPreds}
use Rattle.bit_classes.proofs.SplitLaws.{map-map}

-- ---- pairs and triples of mapped elements

pairs-map : {X Y : Type 0} (f : X → Y) (xs : List X) → pairs (map f xs) ≡ map (λ p. (f p.0, f p.1)) (pairs xs)
pairs-map f [] = refl
pairs-map {X} {Y} f (x ∷ xs) =
    let both : X × X → Y × Y = λ p. (f p.0, f p.1) in
    let with_x : X → X × X = λ y. (x, y) in
    let with_fx : Y → Y × Y = λ y. (f x, y) in
    ap (λ t. t ++ pairs (map f xs)) (map-map with_fx f xs ∙ sym (map-map both with_x xs))
    ∙ ap (λ t. map both (map with_x xs) ++ t) (pairs-map f xs)
    ∙ sym (map-append both (map with_x xs) (pairs xs))

triples-map : {X Y : Type 0} (f : X → Y) (xs : List X) → triples (map f xs) ≡ map (λ t. (f t.0, f t.1, f t.2)) (triples xs)
triples-map f [] = refl
triples-map {X} {Y} f (x ∷ xs) =
    let all : X × X × X → Y × Y × Y = λ t. (f t.0, f t.1, f t.2) in
    let both : X × X → Y × Y = λ p. (f p.0, f p.1) in
    let with_x : X × X → X × X × X = λ p. (x, p.0, p.1) in
    let with_fx : Y × Y → Y × Y × Y = λ p. (f x, p.0, p.1) in
    ap (λ t. map with_fx t ++ triples (map f xs)) (pairs-map f xs)
    ∙ ap (λ t. t ++ triples (map f xs)) (map-map with_fx both (pairs xs) ∙ sym (map-map all with_x (pairs xs)))
    ∙ ap (λ t. map all (map with_x (pairs xs)) ++ t) (triples-map f xs)
    ∙ sym (map-append all (map with_x (pairs xs)) (triples xs))

-- ---- the vector of one predicate

and_assoc : (a b c : Bool) → (a && (b && c)) ≡ ((a && b) && c)
and_assoc true b c = refl
and_assoc false b c = refl

or_assoc : (a b c : Bool) → (a || (b || c)) ≡ ((a || b) || c)
or_assoc true b c = refl
or_assoc false b c = refl

module _ (constants : List Value) (candidates : List (List Value)) where
  -- which candidates an atom keeps
  abbrev atom_vector : Atom → List Bool
  atom_vector a = kept_vector constants candidates (One a)

  always_vector : (rows : List (List Value)) → map (λ row. keeps constants Always row) rows ≡ replicate (length rows) true
  always_vector [] = refl
  always_vector (row ∷ rows) = ap (λ t. true ∷ t) (always_vector rows)

  and2_vector : (a b : Atom) → kept_vector constants candidates (And2 a b) ≡ combined And (atom_vector a) (atom_vector b)
  and2_vector a b =
      ap (λ f. map f candidates) (λ i row. (keeps_by_atoms constants row a b b).1 i)
      ∙ sym (zip2-map (λ x y. x && y) (λ row. keeps constants (One a) row) (λ row. keeps constants (One b) row) candidates)

  or2_vector : (a b : Atom) → kept_vector constants candidates (Or2 a b) ≡ combined Or (atom_vector a) (atom_vector b)
  or2_vector a b =
      ap (λ f. map f candidates) (λ i row. (keeps_by_atoms constants row a b b).2 i)
      ∙ sym (zip2-map (λ x y. x || y) (λ row. keeps constants (One a) row) (λ row. keeps constants (One b) row) candidates)

  and3_vector : (a b c : Atom) → kept_vector constants candidates (And3 a b c) ≡ combined And (combined And (atom_vector a) (atom_vector b)) (atom_vector c)
  and3_vector a b c =
      let by_a : List Value → Bool = λ row. keeps constants (One a) row in
      let by_b : List Value → Bool = λ row. keeps constants (One b) row in
      let by_c : List Value → Bool = λ row. keeps constants (One c) row in
      let each : (row : List Value) → keeps constants (And3 a b c) row ≡ ((by_a row && by_b row) && by_c row) = λ row. (keeps_by_atoms constants row a b c).3 ∙ and_assoc (by_a row) (by_b row) (by_c row) in
      ap (λ f. map f candidates) (λ i row. each row i)
      ∙ sym (zip2-map (λ x y. x && y) (λ row. by_a row && by_b row) by_c candidates)
      ∙ ap (λ v. and_bits v (map by_c candidates)) (sym (zip2-map (λ x y. x && y) by_a by_b candidates))

  or3_vector : (a b c : Atom) → kept_vector constants candidates (Or3 a b c) ≡ combined Or (combined Or (atom_vector a) (atom_vector b)) (atom_vector c)
  or3_vector a b c =
      let by_a : List Value → Bool = λ row. keeps constants (One a) row in
      let by_b : List Value → Bool = λ row. keeps constants (One b) row in
      let by_c : List Value → Bool = λ row. keeps constants (One c) row in
      let each : (row : List Value) → keeps constants (Or3 a b c) row ≡ ((by_a row || by_b row) || by_c row) = λ row. (keeps_by_atoms constants row a b c).4 ∙ or_assoc (by_a row) (by_b row) (by_c row) in
      ap (λ f. map f candidates) (λ i row. each row i)
      ∙ sym (zip2-map (λ x y. x || y) (λ row. by_a row || by_b row) by_c candidates)
      ∙ ap (λ v. or_bits v (map by_c candidates)) (sym (zip2-map (λ x y. x || y) by_a by_b candidates))

  -- ---- the vectors of a list of predicates

  pairs_vectors : (join : Join) (pred : Atom → Atom → Pred) → ((a b : Atom) → kept_vector constants candidates (pred a b) ≡ combined join (atom_vector a) (atom_vector b))
      → (atoms : List Atom) → map (kept_vector constants candidates) (map (λ p. pred p.0 p.1) (pairs atoms)) ≡ combined_pairs join (map atom_vector atoms)
  pairs_vectors join pred each atoms =
      let of : Atom × Atom → Pred = λ p. pred p.0 p.1 in
      let parts : Atom × Atom → List Bool × List Bool = λ p. (atom_vector p.0, atom_vector p.1) in
      let joins : List Bool × List Bool → List Bool = λ p. combined join p.0 p.1 in
      map-map (kept_vector constants candidates) of (pairs atoms)
      ∙ ap (λ f. map f (pairs atoms)) (λ i p. each p.0 p.1 i)
      ∙ sym (map-map joins parts (pairs atoms))
      ∙ ap (map joins) (sym (pairs-map atom_vector atoms))

  triples_vectors : (join : Join) (pred : Atom → Atom → Atom → Pred) → ((a b c : Atom) → kept_vector constants candidates (pred a b c) ≡ combined join (combined join (atom_vector a) (atom_vector b)) (atom_vector c))
      → (atoms : List Atom) → map (kept_vector constants candidates) (map (λ t. pred t.0 t.1 t.2) (triples atoms)) ≡ combined_triples join (map atom_vector atoms)
  triples_vectors join pred each atoms =
      let of : Atom × Atom × Atom → Pred = λ t. pred t.0 t.1 t.2 in
      let parts : Atom × Atom × Atom → List Bool × List Bool × List Bool = λ t. (atom_vector t.0, atom_vector t.1, atom_vector t.2) in
      let joins : List Bool × List Bool × List Bool → List Bool = λ t. combined join (combined join t.0 t.1) t.2 in
      map-map (kept_vector constants candidates) of (triples atoms)
      ∙ ap (λ f. map f (triples atoms)) (λ i t. each t.0 t.1 t.2 i)
      ∙ sym (map-map joins parts (triples atoms))
      ∙ ap (map joins) (sym (triples-map atom_vector atoms))

  two_vectors : (atoms : List Atom) → map (kept_vector constants candidates) (two_atoms atoms) ≡ combined_pairs And (map atom_vector atoms) ++ combined_pairs Or (map atom_vector atoms)
  two_vectors atoms =
      map-append (kept_vector constants candidates) (map (λ p. And2 p.0 p.1) (pairs atoms)) (map (λ p. Or2 p.0 p.1) (pairs atoms))
      ∙ (λ i. pairs_vectors And (λ a b. And2 a b) and2_vector atoms i ++ pairs_vectors Or (λ a b. Or2 a b) or2_vector atoms i)

  three_vectors : (atoms : List Atom) → map (kept_vector constants candidates) (three_atoms atoms) ≡ combined_triples And (map atom_vector atoms) ++ combined_triples Or (map atom_vector atoms)
  three_vectors atoms =
      map-append (kept_vector constants candidates) (map (λ p. And3 p.0 p.1 p.2) (triples atoms)) (map (λ p. Or3 p.0 p.1 p.2) (triples atoms))
      ∙ (λ i. triples_vectors And (λ a b c. And3 a b c) and3_vector atoms i ++ triples_vectors Or (λ a b c. Or3 a b c) or3_vector atoms i)

  map-if : (b : Bool) (preds : List Pred) (vs : List (List Bool)) → map (kept_vector constants candidates) preds ≡ vs → map (kept_vector constants candidates) (if b then preds else []) ≡ (if b then vs else [])
  map-if true preds vs e = e
  map-if false preds vs e = refl

  more_vectors_are : (atoms : List Atom) (bound : ℕ) → map (kept_vector constants candidates) (more_atoms atoms bound) ≡ more_vectors (map atom_vector atoms) bound
  more_vectors_are atoms bound =
      map-append (kept_vector constants candidates) (if nat_le 2 bound then two_atoms atoms else []) (if nat_le 3 bound then three_atoms atoms else [])
      ∙ (λ i. map-if (nat_le 2 bound) (two_atoms atoms) _ (two_vectors atoms) i ++ map-if (nat_le 3 bound) (three_atoms atoms) _ (three_vectors atoms) i)

  preds_vectors : (atoms : List Atom) (bound : ℕ) → map (kept_vector constants candidates) (pred_list atoms bound) ≡ vectors (length candidates) (map atom_vector atoms) bound
  preds_vectors atoms bound =
      ap (λ t. map (λ row. keeps constants Always row) candidates ∷ t)
      (map-append (kept_vector constants candidates) (map One atoms) (more_atoms atoms bound)
      ∙ (λ i. map-map (kept_vector constants candidates) One atoms i ++ more_vectors_are atoms bound i))
      ∙ ap (λ v. v ∷ (map atom_vector atoms ++ more_vectors (map atom_vector atoms) bound)) (always_vector candidates)

-- over any candidates, the vectors of the predicates in order are those that the vectors of the atoms give
pub vectors_of_preds : (constants : List Value) (atoms : List Atom) (bound : ℕ) → VectorsOfPreds constants atoms bound
vectors_of_preds constants atoms bound candidates = preds_vectors constants candidates atoms bound

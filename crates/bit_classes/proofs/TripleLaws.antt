-- Two vectors that give no new one give none with a third either.
use Rattle.std.proofs.Common.{◌≡◌, refl, sym, ap, ◌∙◌, subst, ◌⊎◌, inl, inr, Bool, true, false, Option, Some, None, List, [], ◌∷◌, ◌++◌, length, map}
use Rattle.std.proofs.lemmas.Bool.{cases_Bool}
use Rattle.std.proofs.lemmas.List.{map-append}
use Rattle.std.proofs.lemmas.Option.{none-some, same_Some}
use Rattle.predicate_core.specs.Atoms.{pairs, triples}
use Rattle.predicate_core.specs.Counts.{pair_count}
use Rattle.predicate_core.proofs.NumberLaws.{length-pairs}
use Rattle.predicate_core.proofs.OnceLists.{In, in_same, in_pairs}
use Rattle.bit_classes.specs.declared.class.Class.{Class}
use Rattle.bit_classes.specs.declared.join.Join.{Join}
use Rattle.bit_classes.specs.Vectors.{combined, combined_triples}
use Rattle.bit_classes.specs.Walk.{is_known, if_passing, combined_told, combined_passing, if_new, with_told, told_under, classes_under, told_triples}
use Rattle.bit_classes.proofs.KnownLaws.{known_before}
use Rattle.bit_classes.proofs.JoinLaws.{joined_turned, joined_grouped, joined_own}
use Rattle.bit_classes.proofs.SplitLaws.{map-map}
use Rattle.bit_classes.proofs.ThinLaws.{Thin, thin_append, thin_length, thin_same, thin_none, thin_row, two_in, in_mapped}

abbrev Vector : Type 0
Vector = List Bool

-- what passes a test is told
passing_told : (test : Vector → Bool) (told : Option Vector) (c : Vector) → if_passing test told ≡ Some c → told ≡ Some c
passing_told test None c e = absurd (none-some c e)
passing_told test (Some v) c e =
    elim (cases_Bool (test v)) [
      | inl passes ↦ let kept : if_passing test (Some v) ≡ Some v = rw passes refl in sym kept ∙ e
      | inr not ↦ let lost : if_passing test (Some v) ≡ None = rw not refl in absurd (none-some c (sym lost ∙ e))
    ]

module _ (test : Vector → Bool) (join : Join) where
  -- three vectors combined, in another order or with one twice
  last_turned : (x y z : Vector) → combined join (combined join x y) z ≡ combined join (combined join x z) y
  last_turned x y z = joined_grouped join x y z ∙ ap (combined join x) (joined_turned join y z) ∙ sym (joined_grouped join x z y)

  first_turned : (x y z : Vector) → combined join (combined join x y) z ≡ combined join (combined join y x) z
  first_turned x y z = ap (λ v. combined join v z) (joined_turned join x y)

  last_own : (x y : Vector) → combined join (combined join x y) y ≡ combined join x y
  last_own x y = joined_grouped join x y y ∙ ap (combined join x) (joined_own join y)

  first_own : (x y : Vector) → combined join (combined join x x) y ≡ combined join x y
  first_own x y = ap (λ v. combined join v y) (joined_own join x)

  -- ---- what a first vector gives with all others

  shift : (B : Vector → Type 0) (x z : Vector) (xs : List Vector) → (B z ⊎ (z ≡ x)) ⊎ In z xs → B z ⊎ In z (x ∷ xs)
  shift B x z xs (inl (inl b)) = inl b
  shift B x z xs (inl (inr e)) = inr (inl e)
  shift B x z xs (inr i) = inr (inr i)

  module _ (B K : Vector → Type 0) (x : Vector) (xs : List Vector)
      (two : (y z : Vector) → B y ⊎ In y (x ∷ xs) → B z ⊎ In z (x ∷ xs) → K (combined join y z))
      (before : (a y z : Vector) → B a → B y ⊎ In y (x ∷ xs) → B z ⊎ In z (x ∷ xs) → K (combined join (combined join a y) z)) where
    own_under : (z : Vector) → (B z ⊎ (z ≡ x)) ⊎ In z xs → K (combined join (combined join x z) z)
    own_under z among = subst K (sym (last_own x z)) (two x z (inr (inl refl)) (shift B x z xs among))

    before_under : (y z : Vector) → B y ⊎ (y ≡ x) → (B z ⊎ (z ≡ x)) ⊎ In z xs → K (combined join (combined join x y) z)
    before_under y z (inl b) among = subst K (first_turned y x z) (before y x z b (inr (inl refl)) (shift B x z xs among))
    before_under y z (inr e) among =
        let at_x : K (combined join (combined join x x) z) = subst K (sym (first_own x z)) (two x z (inr (inl refl)) (shift B x z xs among)) in
        subst (λ w. K (combined join (combined join x w) z)) (sym e) at_x

    under_x : (y z : Vector) → (B y ⊎ (y ≡ x)) ⊎ In y xs → (B z ⊎ (z ≡ x)) ⊎ In z xs
        → K (combined join (combined join x y) z) ⊎ In (combined join (combined join x y) z) (map (λ p. combined join (combined join x p.0) p.1) (pairs xs))
    under_x y z (inl b) among = inl (before_under y z b among)
    under_x y z (inr i) (inl b) = inl (subst K (last_turned x z y) (before_under z y b (inr i)))
    under_x y z (inr i) (inr j) =
        let f : Vector × Vector → Vector = λ p. combined join (combined join x p.0) p.1 in
        elim (two_in y z xs i j) [
          | inl e ↦ inl (subst (λ w. K (combined join (combined join x y) w)) e (own_under y (inr i)))
          | inr k ↦ elim k [
            | inl a ↦ inr (in_mapped f (y, z) (pairs xs) a)
            | inr b ↦ inr (in_same (combined join (combined join x y) z) (combined join (combined join x z) y) (map f (pairs xs)) (last_turned x y z) (in_mapped f (z, y) (pairs xs) b))
          ]
        ]

    before_three : (a y z : Vector) → B a ⊎ (a ≡ x) → (B y ⊎ (y ≡ x)) ⊎ In y xs → (B z ⊎ (z ≡ x)) ⊎ In z xs
        → K (combined join (combined join a y) z) ⊎ In (combined join (combined join a y) z) (map (λ p. combined join (combined join x p.0) p.1) (pairs xs))
    before_three a y z (inl b) among_y among_z = inl (before a y z b (shift B x y xs among_y) (shift B x z xs among_z))
    before_three a y z (inr e) among_y among_z =
        let P : Vector → Type 0 = λ w. K (combined join (combined join w y) z) ⊎ In (combined join (combined join w y) z) (map (λ p. combined join (combined join x p.0) p.1) (pairs xs)) in
        subst P (sym e) (under_x y z among_y among_z)

  -- ---- the classes of two vectors combined

  class_before : (classes : List Class) (told : Option Vector) (c : Vector) → is_known (with_told classes told) c ≡ true → (is_known classes c ≡ true) ⊎ (told ≡ Some c)
  class_before classes None c known = inl known
  class_before classes (Some v) c known = elim (known_before classes 0 v c known) [ inl a ↦ inl a | inr e ↦ inr (ap (λ w. Some w) (sym e)) ]

  -- a class was there before, or is the first vector combined with one that is told
  class_from : (classes : List Class) (first : Option Vector) (ms : List (Option Vector)) (c : Vector) → is_known (classes_under test join classes first ms) c ≡ true
      → (is_known classes c ≡ true) ⊎ ((u : Option Vector) × In u ms × (combined_told join first u ≡ Some c))
  class_from classes first [] c known = inl known
  class_from classes first (m ∷ ms) c known =
      let told = combined_passing test join first m in
      elim (class_from (with_told classes told) first ms c known) [
        | inl a ↦ elim (class_before classes told c a) [ inl b ↦ inl b | inr e ↦ inr (m, inl refl, passing_told test (combined_told join first m) c e) ]
        | inr u ↦ inr (u.0, inr u.1, u.2)
      ]

  -- what is told of two vectors combined
  joined_from : (B : Vector → Type 0) (x c : Vector) (m u : Option Vector) → (m ≡ Some x) ⊎ ((m ≡ None) × B x) → combined_told join m u ≡ Some c → (y : Vector) × (u ≡ Some y) × (c ≡ combined join x y)
  joined_from B x c m u (inr none) e = absurd (none-some c (sym (ap (λ w. combined_told join w u) none.0) ∙ e))
  joined_from B x c m None (inl some) e = absurd (none-some c (sym (ap (λ w. combined_told join w None) some) ∙ e))
  joined_from B x c m (Some y) (inl some) e = (y, refl, sym (same_Some (combined join x y) c (sym (ap (λ w. combined_told join w (Some y)) some) ∙ e)))

  thin_told : (B : Vector → Type 0) (ms : List (Option Vector)) (xs : List Vector) (y : Vector) → Thin B ms xs → In (Some y) ms → In y xs
  thin_told B [] xs y t i = absurd i
  thin_told B (m ∷ ms) [] y t i = absurd t
  thin_told B (m ∷ ms) (x ∷ xs) y t (inl e) = elim t.0 [ inl f ↦ inl (same_Some y x (e ∙ f)) | inr n ↦ absurd (none-some y (sym (e ∙ n.0))) ]
  thin_told B (m ∷ ms) (x ∷ xs) y t (inr i) = inr (thin_told (λ w. B w ⊎ (w ≡ x)) ms xs y t.1 i)

  told_joined : (x y c : Vector) (B : Vector → Type 0) (m : Option Vector) → (m ≡ Some y) ⊎ ((m ≡ None) × B y) → combined_told join (Some x) m ≡ Some c → c ≡ combined join x y
  told_joined x y c B m (inl some) e = sym (same_Some (combined join x y) c (sym (ap (combined_told join (Some x)) some) ∙ e))
  told_joined x y c B m (inr none) e = absurd (none-some c (sym (ap (combined_told join (Some x)) none.0) ∙ e))

  -- ---- the triples under a first vector

  -- the vectors of some classes give only what is known with these
  abbrev Gives : List Class → (Vector → Type 0) → List Vector → Type 0
  Gives classes K zs = (c : Vector) → is_known classes c ≡ true → (z : Vector) → In z zs → K (combined join c z)

  -- x and y combined, with each vector after y
  row_thin : (x y : Vector) (B K : Vector → Type 0) (classes : List Class) (m : Option Vector) (ms : List (Option Vector)) (ys : List Vector)
      → (m ≡ Some y) ⊎ ((m ≡ None) × B y) → Thin (λ w. B w ⊎ (w ≡ y)) ms ys → K (combined join x y) → ((w z : Vector) → B w → In z (y ∷ ys) → K (combined join (combined join x w) z)) → Gives classes K (y ∷ ys)
      → (test (combined join x y) ≡ false → (z : Vector) → In z ys → K (combined join (combined join x y) z))
      → Thin K (map (combined_told join (if_new classes (combined_passing test join (Some x) m))) ms) (map (combined join (combined join x y)) ys)
  row_thin x y B K classes m ms ys (inr none) rest own before gives lost =
      let both : Option Vector = combined_passing test join (Some x) m in
      let nothing : if_new classes both ≡ None = ap (λ u. if_new classes (combined_passing test join (Some x) u)) none.0 in
      thin_none (combined_told join (if_new classes both)) (combined join (combined join x y)) (λ u. ap (λ w. combined_told join w u) nothing) K ms ys (thin_length (λ w. B w ⊎ (w ≡ y)) ms ys rest) (λ z i. before y z none.1 (inr i))
  row_thin x y B K classes m ms ys (inl some) rest own before gives lost =
      let v = combined join x y in
      let both : Option Vector = combined_passing test join (Some x) m in
      let nothing_thin : if_new classes both ≡ None → ((z : Vector) → In z ys → K (combined join v z)) → Thin K (map (combined_told join (if_new classes both)) ms) (map (combined join v) ys) = λ nothing each.
      thin_none (combined_told join (if_new classes both)) (combined join v) (λ u. ap (λ w. combined_told join w u) nothing) K ms ys (thin_length (λ w. B w ⊎ (w ≡ y)) ms ys rest) each in
      let both_is : both ≡ if_passing test (Some v) = ap (combined_passing test join (Some x)) some in
      elim (cases_Bool (test v)) [
        | inr not ↦
            let none : if_passing test (Some v) ≡ None = rw not refl in
            nothing_thin (ap (if_new classes) (both_is ∙ none)) (lost not)
        | inl passes ↦
            let passing_v : if_passing test (Some v) ≡ Some v = rw passes refl in
            elim (cases_Bool (is_known classes v)) [
              | inl old ↦
                  let known : if_new classes (Some v) ≡ None = rw old refl in
                  nothing_thin (ap (if_new classes) (both_is ∙ passing_v) ∙ known) (λ z i. gives v old z (inr i))
              | inr new ↦
                  let unknown : if_new classes (Some v) ≡ Some v = rw new refl in
                  let told : if_new classes both ≡ Some v = ap (if_new classes) (both_is ∙ passing_v) ∙ unknown in
                  let with_known : (w : Vector) → B w ⊎ (w ≡ y) → K (combined join v w) = λ w either. elim either [
                    | inl b ↦ subst K (last_turned x w y) (before w y b (inl refl))
                    | inr e ↦ subst (λ u. K (combined join v u)) (sym e) (subst K (sym (last_own x y)) own)
                  ] in
                  thin_same K _ (map (combined_told join (Some v)) ms) _ (map (combined join v) ys) (ap (λ u. map (combined_told join u) ms) told) refl
                  (thin_row (combined join) (combined_told join) (λ a b. refl) (λ u. refl) (λ a. refl) v (λ w. B w ⊎ (w ≡ y)) K with_known ms ys rest)
            ]
      ]

  split_under : (x y : Vector) (ys : List Vector) → map (λ p. combined join (combined join x p.0) p.1) (pairs (y ∷ ys)) ≡ map (combined join (combined join x y)) ys ++ map (λ p. combined join (combined join x p.0) p.1) (pairs ys)
  split_under x y ys =
      let f : Vector × Vector → Vector = λ p. combined join (combined join x p.0) p.1 in
      let with_y : Vector → Vector × Vector = λ z. (y, z) in
      map-append f (map with_y ys) (pairs ys) ∙ ap (λ t. t ++ map f (pairs ys)) (map-map f with_y ys)

  under_thin : (x : Vector) (B K : Vector → Type 0) (classes : List Class) (ms : List (Option Vector)) (xs : List Vector) → Thin B ms xs
      → ((y : Vector) → In y xs → K (combined join x y)) → ((w z : Vector) → B w → In z xs → K (combined join (combined join x w) z)) → Gives classes K xs
      → ((y z : Vector) → In y xs → In z xs → test (combined join x y) ≡ false → K (combined join (combined join x y) z))
      → Thin K (told_under test join classes (Some x) ms) (map (λ p. combined join (combined join x p.0) p.1) (pairs xs))
  under_thin x B K classes [] [] t own before gives lost = tt
  under_thin x B K classes [] (y ∷ ys) t own before gives lost = absurd t
  under_thin x B K classes (m ∷ ms) [] t own before gives lost = absurd t
  under_thin x B K classes (m ∷ ms) (y ∷ ys) t own before gives lost =
      let v = combined join x y in
      let row = map (combined join v) ys in
      let B' : Vector → Type 0 = λ w. B w ⊎ (w ≡ y) in
      let K' : Vector → Type 0 = λ w. K w ⊎ In w row in
      let told = combined_passing test join (Some x) m in
      let first = row_thin x y B K classes m ms ys t.0 t.1 (own y (inl refl)) before gives (λ not z i. lost y z (inl refl) (inr i) not) in
      let in_row : (z : Vector) → In z ys → K' (combined join v z) = λ z i. inr (in_mapped (combined join v) z ys i) in
      let before' : (w z : Vector) → B w ⊎ (w ≡ y) → In z ys → K' (combined join (combined join x w) z) = λ w z either i. elim either [
        | inl b ↦ inl (before w z b (inr i))
        | inr e ↦ subst (λ u. K' (combined join (combined join x u) z)) (sym e) (in_row z i)
      ] in
      let gives' : Gives (with_told classes told) K' ys = λ c known z i. elim (class_before classes told c known) [
        | inl a ↦ inl (gives c a z (inr i))
        | inr e ↦ subst (λ u. K' (combined join u z)) (sym (told_joined x y c B m t.0 (passing_told test (combined_told join (Some x) m) c e))) (in_row z i)
      ] in
      thin_same K _ _ _ _ refl (split_under x y ys)
      (thin_append K _ row _ (map (λ p. combined join (combined join x p.0) p.1) (pairs ys)) first
      (under_thin x B' K' (with_told classes told) ms ys t.1 (λ z i. inl (own z (inr i))) before' gives' (λ a z i j not. inl (lost a z (inr i) (inr j) not))))

  none_under : (classes : List Class) (ms : List (Option Vector)) → told_under test join classes None ms ≡ map (λ p. None) (pairs ms)
  none_under classes [] = refl
  none_under classes (u ∷ us) =
      let nothing : Option Vector × Option Vector → Option Vector = λ p. None in
      let with_u : Option Vector → Option Vector × Option Vector = λ w. (u, w) in
      ap (λ t. map (combined_told join None) us ++ t) (none_under classes us)
      ∙ sym (map-append nothing (map with_u us) (pairs us) ∙ ap (λ t. t ++ map nothing (pairs us)) (map-map nothing with_u us))

  -- ---- all triples

  split_triples : (x : Vector) (xs : List Vector) → combined_triples join (x ∷ xs) ≡ map (λ p. combined join (combined join x p.0) p.1) (pairs xs) ++ combined_triples join xs
  split_triples x xs =
      let f : Vector × Vector × Vector → Vector = λ t. combined join (combined join t.0 t.1) t.2 in
      let with_x : Vector × Vector → Vector × Vector × Vector = λ p. (x, p.0, p.1) in
      map-append f (map with_x (pairs xs)) (triples xs) ∙ ap (λ t. t ++ map f (triples xs)) (map-map f with_x (pairs xs))

  -- the triples of a list, where all pairs are known, what is known has its triples with all, and so have the classes
  pub triples_thin : (B K : Vector → Type 0) (classes : List Class) (ms : List (Option Vector)) (xs : List Vector) → Thin B ms xs
      → ((y z : Vector) → B y ⊎ In y xs → B z ⊎ In z xs → K (combined join y z))
      → ((a y z : Vector) → B a → B y ⊎ In y xs → B z ⊎ In z xs → K (combined join (combined join a y) z))
      → ((c : Vector) → is_known classes c ≡ true → (z : Vector) → B z ⊎ In z xs → K (combined join c z))
      → ((x y z : Vector) → In x xs → In y xs → In z xs → test (combined join x y) ≡ false → K (combined join (combined join x y) z))
      → Thin K (told_triples test join classes ms) (combined_triples join xs)
  triples_thin B K classes [] [] t two before gives lost = tt
  triples_thin B K classes [] (x ∷ xs) t two before gives lost = absurd t
  triples_thin B K classes (m ∷ ms) [] t two before gives lost = absurd t
  triples_thin B K classes (m ∷ ms) (x ∷ xs) t two before gives lost =
      let B' : Vector → Type 0 = λ w. B w ⊎ (w ≡ x) in
      let f : Vector × Vector → Vector = λ p. combined join (combined join x p.0) p.1 in
      let K' : Vector → Type 0 = λ w. K w ⊎ In w (map f (pairs xs)) in
      let after = classes_under test join classes m ms in
      let same : length (pairs ms) ≡ length (pairs xs) = length-pairs ms ∙ ap pair_count (thin_length B' ms xs t.1) ∙ sym (length-pairs xs) in
      let nothing : Option Vector × Option Vector → Option Vector = λ p. None in
      let first : Thin K (told_under test join classes m ms) (map f (pairs xs)) = elim t.0 [
        | inl e ↦ thin_same K _ (told_under test join classes (Some x) ms) _ (map f (pairs xs)) (ap (λ u. told_under test join classes u ms) e) refl
            (under_thin x B' K classes ms xs t.1 (λ y i. two x y (inr (inl refl)) (inr (inr i))) (λ w z b i. before_under B K x xs two before w z b (inr i)) (λ c known z i. gives c known z (inr (inr i))) (λ y z i j not. lost x y z (inl refl) (inr i) (inr j) not))
        | inr n ↦ thin_same K _ (map nothing (pairs ms)) _ (map f (pairs xs)) (ap (λ u. told_under test join classes u ms) n.0 ∙ none_under classes ms) refl
            (thin_none nothing f (λ p. refl) K (pairs ms) (pairs xs) same (λ p i. let parts = in_pairs p xs i in before x p.0 p.1 n.1 (inr (inr parts.0)) (inr (inr parts.1))))
      ] in
      let gives' : (c : Vector) → is_known after c ≡ true → (z : Vector) → B' z ⊎ In z xs → K' (combined join c z) = λ c known z among.
      elim (class_from classes m ms c known) [
        | inl a ↦ inl (gives c a z (shift B x z xs among))
        | inr u ↦
            let from = joined_from B x c m u.0 t.0 u.2 in
            let there : In from.0 xs = thin_told B' ms xs from.0 t.1 (in_same (Some from.0) u.0 ms (sym from.1) u.1) in
            subst (λ w. K' (combined join w z)) (sym from.2) (under_x B K x xs two before from.0 z (inr there) among)
      ] in
      thin_same K _ _ _ _ refl (split_triples x xs)
      (thin_append K _ (map f (pairs xs)) _ (combined_triples join xs) first
      (triples_thin B' K' after ms xs t.1 (λ y z a b. inl (two y z (shift B x y xs a) (shift B x z xs b))) (before_three B K x xs two before) gives' (λ a b c i j k not. inl (lost a b c (inr i) (inr j) (inr k) not))))

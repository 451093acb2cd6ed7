-- The atoms whose vectors are new tell all that is new of two and three atoms.
use Rattle.std.proofs.Common.{◌≡◌, refl, sym, ap, ◌∙◌, subst, ℕ, ◌+◌, ◌⊎◌, inl, inr, Bool, true, false, ◌&&◌, nat_le, if◌then◌else◌, Option, Some, None, List, [], ◌∷◌, ◌++◌, length, map, replicate, arith}
use Rattle.std.specs.List.{All}
use Rattle.std.proofs.lemmas.Bool.{cases_Bool, false≢true}
use Rattle.std.proofs.lemmas.Bool.Decides.{nat_tests}
use Rattle.std.proofs.lemmas.List.Elements.{All-cons, All-nil, All-head, All-tail}
use Rattle.predicate_core.specs.Atoms.{pairs}
use Rattle.predicate_core.proofs.OnceLists.{In, in_same}
use Rattle.bit_classes.specs.declared.class.Class.{Class}
use Rattle.bit_classes.specs.declared.join.Join.{Join}
use Rattle.bit_classes.specs.declared.join.Join.TheVariants.{And, Or}
use Rattle.bit_classes.specs.Vectors.{combined, combined_pairs, combined_triples, more_vectors}
use Rattle.bit_classes.specs.Walk.{HasWidth, is_known, with_vector, new_vectors, combined_told, if_passing, sifted, told_pairs, told_triples, told_two, told_three, told_more}
use Rattle.bit_classes.proofs.ThinLaws.{Thin, thin_wider, thin_same, thin_mapped, thin_append, thin_length, pairs_first, thin_pairs, in_front, in_back, in_mapped, two_in}
use Rattle.bit_classes.proofs.KnownLaws.{known_before}
use Rattle.bit_classes.proofs.TripleLaws.{triples_thin}
use Rattle.bit_classes.specs.Sieves.{IsSieve}
use Rattle.bit_classes.proofs.SplitLaws.{joined_length}
use Rattle.bit_classes.proofs.JoinLaws.{joined_turned, joined_own, full_and_is, full_or_is}

-- ---- the vectors that are new

pub new_thin : (classes : List Class) (n : ℕ) (vs : List (List Bool)) → Thin (λ w. is_known classes w ≡ true) (new_vectors classes n vs) vs
new_thin classes n [] = tt
new_thin classes n (v ∷ vs) =
    let rest = thin_wider (λ w. is_known (with_vector classes (n, v)) w ≡ true) (λ w. (is_known classes w ≡ true) ⊎ (w ≡ v)) (λ w k. known_before classes n v w k) (new_vectors (with_vector classes (n, v)) (n + 1) vs) vs (new_thin (with_vector classes (n, v)) (n + 1) vs) in
    elim (cases_Bool (is_known classes v)) [
      | inl old ↦ (inr (rw old refl, old), rest)
      | inr new ↦ (inl (rw new refl), rest)
    ]

pub thin_widths : (width : ℕ) (K : List Bool → Type 0) (us : List (Option (List Bool))) (vs : List (List Bool)) → Thin K us vs → All (λ v. length v ≡ width) vs → All (HasWidth width) us
thin_widths width K [] [] t wide = All-nil (HasWidth width)
thin_widths width K [] (v ∷ vs) t wide = absurd t
thin_widths width K (u ∷ us) [] t wide = absurd t
thin_widths width K (u ∷ us) (v ∷ vs) t wide =
    let has : List Bool → Type 0 = λ x. length x ≡ width in
    let rest = thin_widths width (λ w. K w ⊎ (w ≡ v)) us vs t.1 (All-tail has v vs wide) in
    let head : HasWidth width u = elim t.0 [ inl e ↦ subst (HasWidth width) (sym e) (All-head has v vs wide) | inr k ↦ subst (HasWidth width) (sym k.0) tt ] in
    All-cons (HasWidth width) u us head rest

-- ---- two atoms and three

told_some : (join : Join) (x y : List Bool) → combined_told join (Some x) (Some y) ≡ Some (combined join x y)
told_some join x y = refl

-- the pairs of a list, told in turn
later_pairs : (join : Join) (rows : List (Option (List Bool))) → told_pairs join rows ≡ map (λ p. combined_told join p.0 p.1) (pairs rows)
later_pairs join [] = refl
later_pairs join (m ∷ ms) = ap (λ t. map (combined_told join m) ms ++ t) (later_pairs join ms) ∙ sym (pairs_first (combined_told join) m ms)

and_false : (b : Bool) → (b && false) ≡ false
and_false true = refl
and_false false = refl

-- what may not be wanted under a join isn't wanted
off_unwanted : (may : Join → List Bool → Bool) (join : Join) (w : List Bool) → may join w ≡ false → (may And w && may Or w) ≡ false
off_unwanted may And w off = rw off refl
off_unwanted may Or w off = rw off (and_false (may And w))

-- what passes a test is told still, and what doesn't is known
passing_thin : (test : List Bool → Bool) (K : List Bool → Type 0) (us : List (Option (List Bool))) (vs : List (List Bool)) → ((v : List Bool) → In v vs → test v ≡ false → K v) → Thin K us vs → Thin K (sifted test us) vs
passing_thin test K us vs known t =
    let each : (v : List Bool) → In v vs → (if_passing test (Some v) ≡ Some v) ⊎ ((if_passing test (Some v) ≡ None) × K v) = λ v i.
    elim (cases_Bool (test v)) [ inl passes ↦ inl (rw passes refl) | inr not ↦ inr (rw not refl, known v i not) ] in
    thin_mapped (if_passing test) refl K us vs each t

module _ (width : ℕ) (may : Join → List Bool → Bool) (K : List Bool → Type 0) (ms : List (Option (List Bool))) (rows : List (List Bool))
    (sieve : IsSieve width may) (thin : Thin (λ w. w ≡ replicate width true) ms rows) (wide : (w : List Bool) → (w ≡ replicate width true) ⊎ In w rows → length w ≡ width)
    (known : (w : List Bool) → (w ≡ replicate width true) ⊎ In w rows → K w) (unwanted : (w : List Bool) → (may And w && may Or w) ≡ false → K w) where
  -- the full vector, which is that of Always
  abbrev full : List Bool
  full = replicate width true

  full_known : (join : Join) (y z : List Bool) → y ≡ full → (z ≡ full) ⊎ In z rows → K (combined join y z)
  full_known And y z e among = subst K (sym (ap (λ w. combined And w z) e ∙ full_and_is width z (wide z among))) (known z among)
  full_known Or y z e among = subst K (sym (ap (λ w. combined Or w z) e ∙ full_or_is width z (wide z among))) (known full (inl refl))

  -- ---- vectors that may not be wanted under a join

  -- a vector of the width that may not be wanted
  abbrev Off : Join → List Bool → Type 0
  Off join w = (length w ≡ width) × (may join w ≡ false)

  -- what isn't told of the rows, and what is among these
  abbrev Before : Join → List Bool → Type 0
  Before join w = (w ≡ full) ⊎ Off join w

  joined_wide : (join : Join) (y z : List Bool) → length y ≡ width → length z ≡ width → length (combined join y z) ≡ width
  joined_wide join y z wide_y wide_z = joined_length join y z (wide_y ∙ sym wide_z) ∙ wide_y

  off_joined : (join : Join) (y z : List Bool) → length y ≡ width → length z ≡ width → (may join y ≡ false) ⊎ (may join z ≡ false) → may join (combined join y z) ≡ false
  off_joined join y z wide_y wide_z off =
      elim (cases_Bool (may join (combined join y z))) [
        | inl passes ↦
            let both = sieve join y z wide_y wide_z passes in
            elim off [ inl a ↦ absurd (false≢true (sym a ∙ both.0)) | inr b ↦ absurd (false≢true (sym b ∙ both.1)) ]
        | inr not ↦ not
      ]

  off_known : (join : Join) (y z : List Bool) → length y ≡ width → length z ≡ width → (may join y ≡ false) ⊎ (may join z ≡ false) → K (combined join y z)
  off_known join y z wide_y wide_z off = unwanted (combined join y z) (off_unwanted may join (combined join y z) (off_joined join y z wide_y wide_z off))

  settle : (join : Join) (w : List Bool) → Before join w ⊎ In w rows → Off join w ⊎ ((w ≡ full) ⊎ In w rows)
  settle join w (inl (inl e)) = inr (inl e)
  settle join w (inl (inr off)) = inl off
  settle join w (inr i) = inr (inr i)

  settled_wide : (join : Join) (w : List Bool) → Before join w ⊎ In w rows → length w ≡ width
  settled_wide join w among = elim (settle join w among) [ inl off ↦ off.0 | inr there ↦ wide w there ]

  -- the rows that may be wanted under a join
  sifted_thin : (join : Join) → Thin (Before join) (sifted (may join) ms) rows
  sifted_thin join =
      let wider = thin_wider (λ w. w ≡ full) (Before join) (λ w e. inl e) ms rows thin in
      passing_thin (may join) (Before join) ms rows (λ v i not. inr (wide v (inr i), not)) wider

  -- ---- two rows

  own_pair : (join : Join) (z : List Bool) → Before join z ⊎ In z rows → K (combined join z z)
  own_pair join z among =
      elim (settle join z among) [
        | inl off ↦ off_known join z z off.0 off.0 (inl off.1)
        | inr there ↦ subst K (sym (joined_own join z)) (known z there)
      ]

  before_pair : (join : Join) (y z : List Bool) → Before join y → Before join z ⊎ In z rows → K (combined join y z)
  before_pair join y z (inr off) among = off_known join y z off.0 (settled_wide join z among) (inl off.1)
  before_pair join y z (inl e) among =
      elim (settle join z among) [
        | inl off ↦ off_known join y z (wide y (inl e)) off.0 (inr off.1)
        | inr there ↦ full_known join y z e there
      ]

  two_thin : (join : Join) → Thin K (told_pairs join (sifted (may join) ms)) (combined_pairs join rows)
  two_thin join =
      thin_same K _ _ _ (combined_pairs join rows) (later_pairs join (sifted (may join) ms)) refl
      (thin_pairs (combined join) (combined_told join) (told_some join) (λ y. refl) (λ x. refl) (joined_turned join) (Before join) K (sifted (may join) ms) rows (sifted_thin join) (own_pair join) (before_pair join))

  -- ---- three rows

  -- what is known once the pairs are
  abbrev Known2 : (List Bool → Type 0) → Join → Type 0
  Known2 L join = (w : List Bool) → K w ⊎ In w (combined_pairs join rows) → L w

  pair_known : (L : List Bool → Type 0) (join : Join) → Known2 L join → (y z : List Bool) → (y ≡ full) ⊎ In y rows → (z ≡ full) ⊎ In z rows → L (combined join y z)
  pair_known L join two y z (inl e) among = two (combined join y z) (inl (full_known join y z e among))
  pair_known L join two y z (inr i) (inl e) = subst L (joined_turned join z y) (two (combined join z y) (inl (full_known join z y e (inr i))))
  pair_known L join two y z (inr i) (inr j) =
      let f : List Bool × List Bool → List Bool = λ p. combined join p.0 p.1 in
      elim (two_in y z rows i j) [
        | inl e ↦ subst (λ w. L (combined join y w)) e (subst L (sym (joined_own join y)) (two y (inl (known y (inr i)))))
        | inr k ↦ elim k [
          | inl a ↦ two (combined join y z) (inr (in_mapped f (y, z) (pairs rows) a))
          | inr b ↦ two (combined join y z) (inr (in_same (combined join y z) (combined join z y) (map f (pairs rows)) (joined_turned join y z) (in_mapped f (z, y) (pairs rows) b)))
        ]
      ]

  full_first : (L : List Bool → Type 0) (join : Join) → Known2 L join → (a y z : List Bool) → a ≡ full → (y ≡ full) ⊎ In y rows → (z ≡ full) ⊎ In z rows → L (combined join (combined join a y) z)
  full_first L And two a y z e among_y among_z =
      subst L (sym (ap (λ w. combined And w z) (ap (λ w. combined And w y) e ∙ full_and_is width y (wide y among_y)))) (pair_known L And two y z among_y among_z)
  full_first L Or two a y z e among_y among_z =
      subst L (sym (ap (λ w. combined Or w z) (ap (λ w. combined Or w y) e ∙ full_or_is width y (wide y among_y)))) (pair_known L Or two full z (inl refl) among_z)

  module _ (L : List Bool → Type 0) (join : Join) (two : Known2 L join) where
    any_pair : (y z : List Bool) → Before join y ⊎ In y rows → Before join z ⊎ In z rows → L (combined join y z)
    any_pair y z among_y among_z =
        elim (settle join y among_y) [
          | inl off ↦ two (combined join y z) (inl (off_known join y z off.0 (settled_wide join z among_z) (inl off.1)))
          | inr there ↦ elim (settle join z among_z) [
            | inl off ↦ two (combined join y z) (inl (off_known join y z (wide y there) off.0 (inr off.1)))
            | inr here ↦ pair_known L join two y z there here
          ]
        ]

    -- where two combined, or a third, may not be wanted
    off_third : (a y z : List Bool) → length a ≡ width → length y ≡ width → length z ≡ width → (may join (combined join a y) ≡ false) ⊎ (may join z ≡ false) → L (combined join (combined join a y) z)
    off_third a y z wide_a wide_y wide_z off = two (combined join (combined join a y) z) (inl (off_known join (combined join a y) z (joined_wide join a y wide_a wide_y) wide_z off))

    before_three : (a y z : List Bool) → Before join a → Before join y ⊎ In y rows → Before join z ⊎ In z rows → L (combined join (combined join a y) z)
    before_three a y z (inr off) among_y among_z =
        let wide_y = settled_wide join y among_y in
        off_third a y z off.0 wide_y (settled_wide join z among_z) (inl (off_joined join a y off.0 wide_y (inl off.1)))
    before_three a y z (inl e) among_y among_z =
        let wide_a = wide a (inl e) in
        elim (settle join y among_y) [
          | inl off ↦ off_third a y z wide_a off.0 (settled_wide join z among_z) (inl (off_joined join a y wide_a off.0 (inr off.1)))
          | inr there ↦ elim (settle join z among_z) [
            | inl off ↦ off_third a y z wide_a (wide y there) off.0 (inr off.1)
            | inr here ↦ full_first L join two a y z e there here
          ]
        ]

    three_thin : Thin L (told_triples (may join) join [] (sifted (may join) ms)) (combined_triples join rows)
    three_thin =
        triples_thin (may join) join (Before join) L [] (sifted (may join) ms) rows (sifted_thin join) any_pair before_three (λ c known z among. absurd (false≢true known))
        (λ x y z i j k not. off_third x y z (wide x (inr i)) (wide y (inr j)) (wide z (inr k)) (inl not))

  -- the pairs by AND and by OR
  both_thin : Thin K (told_pairs And (sifted (may And) ms) ++ told_pairs Or (sifted (may Or) ms)) (combined_pairs And rows ++ combined_pairs Or rows)
  both_thin =
      thin_append K (told_pairs And (sifted (may And) ms)) (combined_pairs And rows) (told_pairs Or (sifted (may Or) ms)) (combined_pairs Or rows) (two_thin And)
      (thin_wider K (λ w. K w ⊎ In w (combined_pairs And rows)) (λ w k. inl k) (told_pairs Or (sifted (may Or) ms)) (combined_pairs Or rows) (two_thin Or))

  Pairs : List Bool → Type 0
  Pairs w = K w ⊎ In w (combined_pairs And rows ++ combined_pairs Or rows)

  known_by : (join : Join) (w : List Bool) → K w ⊎ In w (combined_pairs join rows) → Pairs w
  unfolding Pairs
  known_by join w (inl k) = inl k
  known_by And w (inr i) = inr (in_front w (combined_pairs And rows) (combined_pairs Or rows) i)
  known_by Or w (inr i) = inr (in_back w (combined_pairs And rows) (combined_pairs Or rows) i)

  all_three_thin : Thin Pairs (told_triples (may And) And [] (sifted (may And) ms) ++ told_triples (may Or) Or [] (sifted (may Or) ms)) (combined_triples And rows ++ combined_triples Or rows)
  all_three_thin =
      thin_append Pairs (told_triples (may And) And [] (sifted (may And) ms)) (combined_triples And rows) (told_triples (may Or) Or [] (sifted (may Or) ms)) (combined_triples Or rows) (three_thin Pairs And (known_by And))
      (thin_wider Pairs (λ w. Pairs w ⊎ In w (combined_triples And rows)) (λ w k. inl k) (told_triples (may Or) Or [] (sifted (may Or) ms)) (combined_triples Or rows) (three_thin Pairs Or (known_by Or)))

  more_thin : (two three : Bool) → (three ≡ true → two ≡ true)
      → Thin K ((if two then told_two (sifted (may And) ms) (sifted (may Or) ms) else []) ++ (if three then told_three may (sifted (may And) ms) (sifted (may Or) ms) else []))
      ((if two then combined_pairs And rows ++ combined_pairs Or rows else []) ++ (if three then combined_triples And rows ++ combined_triples Or rows else []))
  unfolding Pairs
  more_thin true true so = thin_append K _ _ (told_three may (sifted (may And) ms) (sifted (may Or) ms)) (combined_triples And rows ++ combined_triples Or rows) both_thin all_three_thin
  more_thin true false so = thin_append K _ _ [] [] both_thin tt
  more_thin false true so = absurd (false≢true (so refl))
  more_thin false false so = tt

three_two : (bound : ℕ) → nat_le 3 bound ≡ true → nat_le 2 bound ≡ true
three_two bound e = grind (arith, nat_tests)

pub told_more_thin : (width bound : ℕ) (may : Join → List Bool → Bool) (K : List Bool → Type 0) (ms : List (Option (List Bool))) (rows : List (List Bool)) → IsSieve width may → Thin (λ w. w ≡ replicate width true) ms rows
    → ((w : List Bool) → (w ≡ replicate width true) ⊎ In w rows → length w ≡ width) → ((w : List Bool) → (w ≡ replicate width true) ⊎ In w rows → K w) → ((w : List Bool) → (may And w && may Or w) ≡ false → K w)
    → Thin K (told_more may ms bound) (more_vectors rows bound)
told_more_thin width bound may K ms rows sieve thin wide known unwanted = more_thin width may K ms rows sieve thin wide known unwanted (nat_le 2 bound) (nat_le 3 bound) (three_two bound)

-- ---- the rows that are new

pub news_widths : (width : ℕ) (classes : List Class) (rows : List (List Bool)) (news : List (Option (List Bool))) → news ≡ new_vectors classes 1 rows → All (λ v. length v ≡ width) rows → All (HasWidth width) news
news_widths width classes rows news are wide =
    let P : List (Option (List Bool)) → Type 0 = λ us. All (HasWidth width) us in
    subst P (sym are) (thin_widths width (λ w. is_known classes w ≡ true) (new_vectors classes 1 rows) rows (new_thin classes 1 rows) wide)

pub news_length : (classes : List Class) (rows : List (List Bool)) (news : List (Option (List Bool))) → news ≡ new_vectors classes 1 rows → length news ≡ length rows
news_length classes rows news are = ap length are ∙ thin_length (λ w. is_known classes w ≡ true) (new_vectors classes 1 rows) rows (new_thin classes 1 rows)

-- The whole walk with a sieve leaves the classes that are wanted.
use Rattle.std.proofs.Common.{◌≡◌, refl, sym, ap, ◌∙◌, subst, ℕ, ◌+◌, ◌<◌, ◌⊎◌, inl, inr, Bool, true, false, ◌&&◌, Option, List, [], ◌∷◌, length, replicate, filter, Ok, Err, arith}
use Rattle.std.specs.List.{All, enumerate_from}
use Rattle.std.proofs.lemmas.Bool.{false≢true}
use Rattle.std.proofs.lemmas.Grind.{fold-append}
use Rattle.std.proofs.lemmas.List.{length-replicate}
use Rattle.std.proofs.lemmas.List.Elements.{All-head, All-tail}
use Rattle.predicate_core.proofs.OnceLists.{In}
use Rattle.bit_classes.specs.declared.class.Class.{Class}
use Rattle.bit_classes.specs.declared.class.ClassEnd.{ClassEnd}
use Rattle.bit_classes.specs.declared.class.ClassEnd.TheVariants.{More}
use Rattle.bit_classes.specs.declared.join.Join.{Join}
use Rattle.bit_classes.specs.declared.join.Join.TheVariants.{And, Or}
use Rattle.bit_classes.specs.Vectors.{more_vectors, vectors}
use Rattle.bit_classes.specs.Classes.{classes_of}
use Rattle.bit_classes.specs.Sieves.{IsSieve, is_wanted}
use Rattle.bit_classes.specs.Walk.{Walk, Sees, is_known, with_vector, with_vectors, numbered, new_vectors, told_more, only_full, all_told}
use Rattle.bit_classes.proofs.ClassLaws.{classes_seen}
use Rattle.bit_classes.proofs.KnownLaws.{known_itself, known_before, known_after, seen_known}
use Rattle.bit_classes.proofs.SplitLaws.{enumerated_parts}
use Rattle.bit_classes.proofs.ThinLaws.{Thin, thin_wider}
use Rattle.bit_classes.proofs.ToldLaws.{new_thin, told_more_thin}
use Rattle.bit_classes.proofs.KeptLaws.{told_kept}

all_in : (P : List Bool → Type 0) (vs : List (List Bool)) (w : List Bool) → All P vs → In w vs → P w
all_in P [] w all i = absurd i
all_in P (v ∷ vs) w all (inl e) = subst P (sym e) (All-head P v vs all)
all_in P (v ∷ vs) w all (inr i) = all_in P vs w (All-tail P v vs all) i

only_first : (first : List Bool) (w : List Bool) → is_known (with_vector [] (0, first)) w ≡ true → w ≡ first
only_first first w known = elim (known_before [] 0 first w known) [ inl a ↦ absurd (false≢true a) | inr e ↦ e ]

module _ (may : Join → List Bool → Bool) (width : ℕ) (rows : List (List Bool)) (bound : ℕ) where
  abbrev full : List Bool
  full = replicate width true

  -- the rows that are new, and the classes once the full vector and all rows are seen
  abbrev news : List (Option (List Bool))
  news = new_vectors (only_full width) 1 rows

  abbrev after_rows : List Class
  after_rows = with_vectors (only_full width) (enumerate_from 1 rows)

  abbrev Settled : List Bool → Type 0
  Settled w = (is_known after_rows w ≡ true) ⊎ ((may And w && may Or w) ≡ false)

  rows_known : (w : List Bool) → (w ≡ full) ⊎ In w rows → is_known after_rows w ≡ true
  rows_known w (inl e) = known_after (only_full width) (enumerate_from 1 rows) w (ap (is_known (only_full width)) e ∙ known_itself [] 0 full)
  rows_known w (inr i) = seen_known (only_full width) 1 rows w i

  rows_wide : All (λ v. length v ≡ width) rows → (w : List Bool) → (w ≡ full) ⊎ In w rows → length w ≡ width
  rows_wide wide w (inl e) = ap length e ∙ length-replicate width true
  rows_wide wide w (inr i) = all_in (λ v. length v ≡ width) rows w wide i

  news_thin : Thin (λ w. w ≡ full) news rows
  news_thin = thin_wider (λ w. is_known (only_full width) w ≡ true) (λ w. w ≡ full) (only_first full) news rows (new_thin (only_full width) 1 rows)

  more_thin : IsSieve width may → All (λ v. length v ≡ width) rows → Thin Settled (told_more may news bound) (more_vectors rows bound)
  more_thin sieve wide = told_more_thin width bound may Settled news rows sieve news_thin (rows_wide wide) (λ w among. inl (rows_known w among)) (λ w not. inr not)

  told_parts : with_vectors [] (all_told may width rows bound) ≡ with_vectors after_rows (numbered (1 + length rows) (told_more may news bound))
  told_parts = fold-append with_vector (only_full width) (enumerate_from 1 rows) (numbered (1 + length rows) (told_more may news bound))

  vector_parts : with_vectors after_rows (enumerate_from (1 + length rows) (more_vectors rows bound)) ≡ classes_of (vectors width rows bound)
  vector_parts =
      sym (fold-append with_vector (only_full width) (enumerate_from 1 rows) (enumerate_from (1 + length rows) (more_vectors rows bound)))
      ∙ ap (with_vectors (only_full width)) (sym (enumerated_parts 1 (1 + length rows) rows (more_vectors rows bound) refl))
      ∙ classes_seen (vectors width rows bound)

  -- what is seen with a sieve leaves the classes that are wanted
  pub wanted_same : IsSieve width may → All (λ v. length v ≡ width) rows → filter (is_wanted may) (with_vectors [] (all_told may width rows bound)) ≡ filter (is_wanted may) (classes_of (vectors width rows bound))
  wanted_same sieve wide =
      ap (filter (is_wanted may)) told_parts
      ∙ told_kept (λ v. may And v && may Or v) Settled after_rows after_rows (1 + length rows) (told_more may news bound) (more_vectors rows bound) refl (λ w k. k) (more_thin sieve wide)
      ∙ ap (filter (is_wanted may)) vector_parts

-- ---- where all may be wanted

filter_all : {X : Type 0} (test : X → Bool) → ((x : X) → test x ≡ true) → (xs : List X) → filter test xs ≡ xs
filter_all test each [] = refl
filter_all test each (x ∷ xs) = rw (each x) (ap (λ t. x ∷ t) (filter_all test each xs))

abbrev every : Join → List Bool → Bool
every join vector = true

every_same : (width : ℕ) (rows : List (List Bool)) (bound : ℕ) → All (λ v. length v ≡ width) rows → with_vectors [] (all_told every width rows bound) ≡ classes_of (vectors width rows bound)
every_same width rows bound wide =
    sym (filter_all (is_wanted every) (λ c. refl) (with_vectors [] (all_told every width rows bound)))
    ∙ wanted_same every width rows bound (λ join a b wide_a wide_b lets. (refl, refl)) wide
    ∙ filter_all (is_wanted every) (λ c. refl) (classes_of (vectors width rows bound))

-- ---- all that is seen

module _ (may : Join → List Bool → Bool) (width limit bound : ℕ) (rows : List (List Bool)) (found after : Walk) (empty : found ≡ record { classes = []; width = width; limit = limit }) where
  abbrev seen_all : Walk → List Class
  seen_all w = with_vectors w.classes (all_told may w.width rows bound)

  pub told_classes : Sees found (all_told may found.width rows bound) after (Ok tt) → after.classes ≡ with_vectors [] (all_told may width rows bound)
  told_classes seen = ap (λ (w : Walk). w.classes) seen ∙ ap seen_all empty

  pub told_limit : Sees found (all_told may found.width rows bound) after (Ok tt) → after.limit ≡ limit
  told_limit seen = ap (λ (w : Walk). w.limit) seen ∙ ap (λ (w : Walk). w.limit) empty

module _ (width limit bound : ℕ) (rows : List (List Bool)) (found after : Walk) (empty : found ≡ record { classes = []; width = width; limit = limit }) (wide : All (λ v. length v ≡ width) rows) where
  pub all_classes : Sees found (all_told every found.width rows bound) after (Ok tt) → (after.classes ≡ classes_of (vectors width rows bound)) × (after.limit ≡ limit)
  all_classes seen = (told_classes every width limit bound rows found after empty seen ∙ every_same width rows bound wide, told_limit every width limit bound rows found after empty seen)

  pub too_many : (end : ClassEnd) → Sees found (all_told every found.width rows bound) after (Err end) → end ≡ More → limit < length (classes_of (vectors width rows bound))
  too_many end stopped more =
      let all : Walk → List Class = λ w. with_vectors w.classes (all_told every w.width rows bound) in
      let count = ap length (ap all empty ∙ every_same width rows bound wide) in
      let same = ap (λ (w : Walk). w.limit) empty in
      omega (arith, stopped more, count, same)

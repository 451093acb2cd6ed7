-- The classes that are wanted are the same whether vectors that aren't wanted are seen or not.
use Rattle.std.proofs.Common.{◌≡◌, refl, sym, ap, ◌∙◌, subst, ℕ, ◌+◌, ◌⊎◌, inl, inr, Bool, true, false, Option, List, [], ◌∷◌, ◌++◌, filter}
use Rattle.std.specs.List.{enumerate_from}
use Rattle.std.proofs.lemmas.Bool.{cases_Bool}
use Rattle.std.proofs.lemmas.List.{append-nil}
use Rattle.std.proofs.lemmas.List.Elements.{filter-append}
use Rattle.std.proofs.lemmas.Map.Views.{any-filter_same}
use Rattle.bit_rows.specs.Bits.{same_bits}
use Rattle.bit_rows.proofs.PackLaws.{same_bits_decides}
use Rattle.bit_classes.specs.declared.class.Class.{Class}
use Rattle.bit_classes.specs.Classes.{class_of}
use Rattle.bit_classes.specs.Walk.{is_known, with_vector, with_vectors, numbered}
use Rattle.bit_classes.proofs.WalkLaws.{known_stays, new_stays}
use Rattle.bit_classes.proofs.KnownLaws.{known_kept, known_itself}
use Rattle.bit_classes.proofs.ThinLaws.{Thin}

module _ (wanted : List Bool → Bool) where
  -- the classes that are wanted
  abbrev kept : List Class → List Class
  kept classes = filter (λ c. wanted c.bits) classes

  kept_is_known : (classes : List Class) (v : List Bool) → wanted v ≡ true → is_known (kept classes) v ≡ is_known classes v
  kept_is_known classes v want =
      any-filter_same (λ c. same_bits v c.bits) (λ c. wanted c.bits) true (λ c e. ap wanted (sym ((same_bits_decides v c.bits).0 e)) ∙ want) classes

  kept_pushed : (classes : List Class) (n : ℕ) (v : List Bool) → is_known classes v ≡ false → kept (with_vector classes (n, v)) ≡ kept classes ++ kept (class_of (n, v) ∷ [])
  kept_pushed classes n v new = ap kept (new_stays classes n v new) ∙ filter-append (λ c. wanted c.bits) classes (class_of (n, v) ∷ [])

  -- a vector that is wanted is seen among those that are
  kept_wanted : (classes : List Class) (n : ℕ) (v : List Bool) → wanted v ≡ true → kept (with_vector classes (n, v)) ≡ with_vector (kept classes) (n, v)
  kept_wanted classes n v want =
      let same = kept_is_known classes v want in
      elim (cases_Bool (is_known classes v)) [
        | inl old ↦ ap kept (known_stays classes n v old) ∙ sym (known_stays (kept classes) n v (same ∙ old))
        | inr new ↦
            let one : kept (class_of (n, v) ∷ []) ≡ class_of (n, v) ∷ [] = rw want refl in
            kept_pushed classes n v new ∙ ap (λ t. kept classes ++ t) one ∙ sym (new_stays (kept classes) n v (same ∙ new))
      ]

  -- one that isn't wanted changes nothing
  kept_unwanted : (classes : List Class) (n : ℕ) (v : List Bool) → wanted v ≡ false → kept (with_vector classes (n, v)) ≡ kept classes
  kept_unwanted classes n v not =
      elim (cases_Bool (is_known classes v)) [
        | inl old ↦ ap kept (known_stays classes n v old)
        | inr new ↦
            let none : kept (class_of (n, v) ∷ []) ≡ [] = rw not refl in
            kept_pushed classes n v new ∙ ap (λ t. kept classes ++ t) none ∙ append-nil (kept classes)
      ]

  -- a vector more
  kept_more : (some all : List Class) (n : ℕ) (v : List Bool) → kept some ≡ kept all → kept (with_vector some (n, v)) ≡ kept (with_vector all (n, v))
  kept_more some all n v same =
      elim (cases_Bool (wanted v)) [
        | inl want ↦ kept_wanted some n v want ∙ ap (λ cs. with_vector cs (n, v)) same ∙ sym (kept_wanted all n v want)
        | inr not ↦ kept_unwanted some n v not ∙ same ∙ sym (kept_unwanted all n v not)
      ]

  kept_without : (some all : List Class) (n : ℕ) (v : List Bool) → kept some ≡ kept all → (is_known all v ≡ true) ⊎ (wanted v ≡ false) → kept some ≡ kept (with_vector all (n, v))
  kept_without some all n v same (inl old) = same ∙ ap kept (sym (known_stays all n v old))
  kept_without some all n v same (inr not) = same ∙ sym (kept_unwanted all n v not)

  known_more : (K : List Bool → Type 0) (all : List Class) (n : ℕ) (v : List Bool) → ((w : List Bool) → K w → (is_known all w ≡ true) ⊎ (wanted w ≡ false))
      → (w : List Bool) → K w ⊎ (w ≡ v) → (is_known (with_vector all (n, v)) w ≡ true) ⊎ (wanted w ≡ false)
  known_more K all n v known w (inl k) = elim (known w k) [ inl a ↦ inl (known_kept all n v w a) | inr b ↦ inr b ]
  known_more K all n v known w (inr e) = inl (subst (λ u. is_known (with_vector all (n, v)) u ≡ true) (sym e) (known_itself all n v))

  -- to see what is told leaves what is wanted of all
  pub told_kept : (K : List Bool → Type 0) (some all : List Class) (n : ℕ) (us : List (Option (List Bool))) (vs : List (List Bool)) → kept some ≡ kept all → ((w : List Bool) → K w → (is_known all w ≡ true) ⊎ (wanted w ≡ false)) → Thin K us vs
      → kept (with_vectors some (numbered n us)) ≡ kept (with_vectors all (enumerate_from n vs))
  told_kept K some all n [] [] same known t = same
  told_kept K some all n [] (v ∷ vs) same known t = absurd t
  told_kept K some all n (u ∷ us) [] same known t = absurd t
  told_kept K some all n (u ∷ us) (v ∷ vs) same known t =
      let after = with_vector all (n, v) in
      let K' : List Bool → Type 0 = λ w. K w ⊎ (w ≡ v) in
      let known' = known_more K all n v known in
      elim t.0 [
        | inl e ↦ ap (λ x. kept (with_vectors some (numbered n (x ∷ us)))) e ∙ told_kept K' (with_vector some (n, v)) after (n + 1) us vs (kept_more some all n v same) known' t.1
        | inr k ↦ ap (λ x. kept (with_vectors some (numbered n (x ∷ us)))) k.0 ∙ told_kept K' some after (n + 1) us vs (kept_without some all n v same (known v k.1)) known' t.1
      ]

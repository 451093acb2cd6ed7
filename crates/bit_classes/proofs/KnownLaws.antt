-- What is known stays known, and what is known after a vector was known before, or is that vector.
use Rattle.std.proofs.Common.{◌≡◌, refl, sym, ◌∙◌, subst, ℕ, ◌+◌, ◌⊎◌, inl, inr, Bool, true, false, ◌||◌, List, [], ◌∷◌}
use Rattle.std.specs.List.{enumerate_from}
use Rattle.std.proofs.lemmas.Bool.{cases_Bool}
use Rattle.predicate_core.proofs.OnceLists.{In}
use Rattle.bit_rows.specs.Bits.{same_bits}
use Rattle.bit_rows.proofs.PackLaws.{same_bits_decides}
use Rattle.bit_classes.specs.declared.class.Class.{Class}
use Rattle.bit_classes.specs.Classes.{class_of}
use Rattle.bit_classes.specs.Walk.{is_known, with_vector, with_vectors}
use Rattle.bit_classes.proofs.WalkLaws.{known_stays, new_stays}
use Rattle.bit_classes.proofs.ClassLaws.{any-push}

either_true : (a b : Bool) → a ≡ true → (a || b) ≡ true
either_true a b e = rw e refl

or_true : (a b : Bool) → b ≡ true → (a || b) ≡ true
or_true true b e = refl
or_true false b e = e

one_true : (a b : Bool) → (a || b) ≡ true → (a ≡ true) ⊎ (b ≡ true)
one_true true b e = inl refl
one_true false b e = inr e

pub known_kept : (classes : List Class) (n : ℕ) (v w : List Bool) → is_known classes w ≡ true → is_known (with_vector classes (n, v)) w ≡ true
known_kept classes n v w known =
    elim (cases_Bool (is_known classes v)) [
      | inl old ↦ rw (known_stays classes n v old) known
      | inr new ↦ rw (new_stays classes n v new) (any-push (λ c. same_bits w c.bits) classes (class_of (n, v)) ∙ either_true (is_known classes w) (same_bits w v) known)
    ]

pub known_itself : (classes : List Class) (n : ℕ) (v : List Bool) → is_known (with_vector classes (n, v)) v ≡ true
known_itself classes n v =
    elim (cases_Bool (is_known classes v)) [
      | inl old ↦ rw (known_stays classes n v old) old
      | inr new ↦ rw (new_stays classes n v new) (any-push (λ c. same_bits v c.bits) classes (class_of (n, v)) ∙ or_true (is_known classes v) (same_bits v v) ((same_bits_decides v v).1 refl))
    ]

-- what is known after a vector was known before, or is that vector
pub known_before : (classes : List Class) (n : ℕ) (v w : List Bool) → is_known (with_vector classes (n, v)) w ≡ true → (is_known classes w ≡ true) ⊎ (w ≡ v)
known_before classes n v w known =
    elim (cases_Bool (is_known classes v)) [
      | inl old ↦ inl (rw (known_stays classes n v old) at known)
      | inr new ↦
          let either : (is_known classes w || same_bits w v) ≡ true = sym (any-push (λ c. same_bits w c.bits) classes (class_of (n, v))) ∙ rw (new_stays classes n v new) at known in
          elim (one_true (is_known classes w) (same_bits w v) either) [ inl a ↦ inl a | inr b ↦ inr ((same_bits_decides w v).0 b) ]
    ]

pub known_after : (classes : List Class) (es : List (ℕ × List Bool)) (w : List Bool) → is_known classes w ≡ true → is_known (with_vectors classes es) w ≡ true
known_after classes [] w known = known
known_after classes (e ∷ es) w known = known_after (with_vector classes e) es w (known_kept classes e.0 e.1 w known)

pub seen_known : (classes : List Class) (n : ℕ) (vs : List (List Bool)) (w : List Bool) → In w vs → is_known (with_vectors classes (enumerate_from n vs)) w ≡ true
seen_known classes n [] w i = absurd i
seen_known classes n (v ∷ vs) w (inl e) =
    known_after (with_vector classes (n, v)) (enumerate_from (n + 1) vs) w (subst (λ u. is_known (with_vector classes (n, v)) u ≡ true) (sym e) (known_itself classes n v))
seen_known classes n (v ∷ vs) w (inr i) = seen_known (with_vector classes (n, v)) (n + 1) vs w i

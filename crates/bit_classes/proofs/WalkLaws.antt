-- Laws of classes that grow vector by vector.
use Rattle.std.proofs.Common.{◌≡◌, refl, sym, ap, ◌∙◌, subst, ℕ, ◌<◌, ◌≤◌, Bool, true, false, cond, ◌||◌, List, [], ◌∷◌, ◌++◌, length, map, Option, Some, None, is_some, Result, Ok, Err, inl, inr, arith}
use Rattle.std.specs.Map.{lookup}
use Rattle.std.proofs.lemmas.List.{append-nil, length-map, map_push, length_push}
use Rattle.std.proofs.lemmas.Bool.{cases_Bool}
use Rattle.std.proofs.lemmas.Grind.{fold-append}
use Rattle.bit_rows.specs.Bits.{same_bits}
use Rattle.bit_classes.specs.declared.class.Class.{Class}
use Rattle.bit_classes.specs.declared.class.ClassEnd.{ClassEnd}
use Rattle.bit_classes.specs.Classes.{class_of}
use Rattle.bit_classes.specs.Walk.{Walk, entry_class, is_known, with_vector, with_vectors, Sees}

-- ---- one vector, in a map

some_cond : (b : Bool) (n : ℕ) (rest : Option ℕ) → is_some (cond b (Some n) rest) ≡ (b || is_some rest)
some_cond true n rest = refl
some_cond false n rest = refl

-- a vector is found in a map exactly where it is that of a class
pub found_known : (vector : List Bool) (entries : List (List Bool × ℕ)) → is_some (lookup (same_bits vector) entries) ≡ is_known (map entry_class entries) vector
found_known vector [] = refl
found_known vector (e ∷ es) = some_cond (same_bits vector e.0) e.1 (lookup (same_bits vector) es) ∙ ap (λ r. same_bits vector e.0 || r) (found_known vector es)

-- a known vector changes nothing
pub known_stays : (classes : List Class) (n : ℕ) (vector : List Bool) → is_known classes vector ≡ true → with_vector classes (n, vector) ≡ classes
known_stays classes n vector known = rw known refl

-- a new one is a class more
pub new_stays : (classes : List Class) (n : ℕ) (vector : List Bool) → is_known classes vector ≡ false → with_vector classes (n, vector) ≡ classes ++ class_of (n, vector) ∷ []
new_stays classes n vector new = rw new refl

pub new_added : (entries : List (List Bool × ℕ)) (n : ℕ) (vector : List Bool) → is_known (map entry_class entries) vector ≡ false → with_vector (map entry_class entries) (n, vector) ≡ map entry_class (entries ++ (vector, n) ∷ [])
new_added entries n vector new = rw new (sym (map_push entry_class entries (vector, n)))

-- ---- what seeing one vector leaves

pub sees_known : (old : Walk) (entries : List (List Bool × ℕ)) (n : ℕ) (vector : List Bool) → map entry_class entries ≡ old.classes → is_some (lookup (same_bits vector) entries) ≡ true
    → old ≡ record old { classes = with_vector old.classes (n, vector) }
sees_known old entries n vector shown found =
    let known : is_known old.classes vector ≡ true = ap (λ cs. is_known cs vector) (sym shown) ∙ sym (found_known vector entries) ∙ found in
    let after : List Class → Walk = λ cs. record old { classes = cs } in
    ap after (sym (known_stays old.classes n vector known))

pub sees_full : (old : Walk) (entries : List (List Bool × ℕ)) (n : ℕ) (vector : List Bool) → map entry_class entries ≡ old.classes → is_some (lookup (same_bits vector) entries) ≡ false
    → old.limit ≤ length entries → old.limit < length (with_vector old.classes (n, vector))
sees_full old entries n vector shown found full =
    let new : is_known (map entry_class entries) vector ≡ false = sym (found_known vector entries) ∙ found in
    let added = ap length (ap (λ cs. with_vector cs (n, vector)) (sym shown) ∙ new_added entries n vector new) in
    let long = length-map (entries ++ (vector, n) ∷ []) entry_class in
    let more = length_push entries (vector, n) in
    omega (arith, added, long, more)

pub sees_new : (old : Walk) (entries more : List (List Bool × ℕ)) (n : ℕ) (vector : List Bool) → map entry_class entries ≡ old.classes → is_some (lookup (same_bits vector) entries) ≡ false
    → more ≡ entries ++ (vector, n) ∷ [] → map entry_class more ≡ with_vector old.classes (n, vector)
sees_new old entries more n vector shown found is =
    let new : is_known (map entry_class entries) vector ≡ false = sym (found_known vector entries) ∙ found in
    ap (map entry_class) is ∙ sym (new_added entries n vector new) ∙ ap (λ cs. with_vector cs (n, vector)) shown

pub absent : (o : Option ℕ) → is_some o ≡ false → o ≡ None
absent None e = refl
absent (Some n) e = cc

-- ---- what seeing many leaves

-- a walk that is on its way from `old` through all of some vectors, with the rest before it
abbrev pub OnWay : Walk → List (ℕ × List Bool) → Walk → List (ℕ × List Bool) → Type 0
OnWay old all now rest = (now ≡ record old { classes = now.classes }) × (with_vectors now.classes rest ≡ with_vectors old.classes all)

pub way_begins : (old : Walk) (all : List (ℕ × List Bool)) → OnWay old all old all
way_begins old all = (refl, refl)

pub way_goes_on : (old now new : Walk) (all left part rest : List (ℕ × List Bool)) → left ≡ part ++ rest → OnWay old all now left → Sees now part new (Ok tt) → OnWay old all new rest
way_goes_on old now new all left part rest split way seen =
    let after : Walk → List Class → Walk = λ w cs. record w { classes = cs } in
    let classes : new.classes ≡ with_vectors now.classes part = ap (λ (w : Walk). w.classes) seen in (
      seen ∙ (λ i. after (way.0 i) (sym classes i)),
      ap (λ cs. with_vectors cs rest) classes ∙ sym (fold-append with_vector now.classes part rest) ∙ ap (with_vectors now.classes) (sym split) ∙ way.1,
    )

-- to see the same vectors
pub sees_same : (old new : Walk) (result : Result (Unit {0}) ClassEnd) (es fs : List (ℕ × List Bool)) → es ≡ fs → Sees old es new result → Sees old fs new result
sees_same old new result es fs same = subst (λ gs. Sees old gs new result) same

pub way_ends : (old now : Walk) (all : List (ℕ × List Bool)) → OnWay old all now [] → Sees old all now (Ok tt)
way_ends old now all way = let after : List Class → Walk = λ cs. record old { classes = cs } in way.0 ∙ ap after way.1

length_with : (classes : List Class) (e : ℕ × List Bool) → length classes ≤ length (with_vector classes e)
length_with classes e =
    elim (cases_Bool (is_known classes e.1)) [
      | inl known ↦ rw known (omega arith)
      | inr new ↦ rw new (omega (arith, length_push classes (class_of e)))
    ]

-- classes never go
pub never_fewer : (classes : List Class) (es : List (ℕ × List Bool)) → length classes ≤ length (with_vectors classes es)
never_fewer classes [] = omega arith
never_fewer classes (e ∷ es) = omega (arith, length_with classes e, never_fewer (with_vector classes e) es)

pub way_stops : (old now new : Walk) (all left part rest : List (ℕ × List Bool)) (end : ClassEnd) → left ≡ part ++ rest → OnWay old all now left → Sees now part new (Err end) → (after : Walk) → Sees old all after (Err end)
way_stops old now new all left part rest end split way stopped after =
    λ more.
    let limit : now.limit ≡ old.limit = ap (λ (w : Walk). w.limit) way.0 in
    let same = ap length (fold-append with_vector now.classes part rest) in
    let all_of = ap length (ap (with_vectors now.classes) (sym split) ∙ way.1) in
    omega (arith, stopped more, limit, never_fewer (with_vectors now.classes part) rest, same, all_of)

-- ---- one part after another

pub sees_then : (a b c : Walk) (es fs : List (ℕ × List Bool)) (result : Result (Unit {0}) ClassEnd) → Sees a es b (Ok tt) → Sees b fs c result → Sees a (es ++ fs) c result
sees_then a b c es fs (Ok done) first second = way_ends a c (es ++ fs) (way_goes_on a b c (es ++ fs) fs fs [] (sym (append-nil fs)) (way_goes_on a a b (es ++ fs) (es ++ fs) es fs refl (way_begins a (es ++ fs)) first) second)
sees_then a b c es fs (Err end) first second = way_stops a b c (es ++ fs) fs fs [] end (sym (append-nil fs)) (way_goes_on a a b (es ++ fs) (es ++ fs) es fs refl (way_begins a (es ++ fs)) first) second c

pub sees_stopped : (a b c : Walk) (es fs : List (ℕ × List Bool)) (end : ClassEnd) → Sees a es b (Err end) → Sees a (es ++ fs) c (Err end)
sees_stopped a b c es fs end first = way_stops a a b (es ++ fs) (es ++ fs) es fs end refl (way_begins a (es ++ fs)) first c

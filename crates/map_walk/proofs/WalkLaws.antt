-- A walk over masks: narrowing keeps lengths and leaves fewer candidates, so that nothing goes on from too few.
use Rattle.std.proofs.Common.{◌≡◌, refl, sym, ap, ap₂, subst, ◌∙◌, ◌+◌, ◌≤◌, Bool, true, false, cond, ◌&&◌, ◌||◌, List, [], ◌∷◌, ◌++◌, if◌then◌else◌, arith}
use Rattle.std.specs.Prelude.{nat_le, All}
use Rattle.std.specs.List.{flat_map, list_any}
use Rattle.std.proofs.lemmas.Bool.{and_parts, leb-true, le-leb, false_from_ne_true, both_ways}
use Rattle.std.proofs.lemmas.List.Elements.{All-head, All-tail, All-weaker}
use Rattle.std.proofs.lemmas.List.Sums.{sum_by-cons}
use Rattle.std.proofs.lemmas.Simd.{length-zip2}
use Rattle.bit_rows.specs.Bits.{and_bits}
use Rattle.map_walk.specs.declared.offer.Offer.{Offer}
use Rattle.map_walk.specs.declared.target.Reading.{Reading}
use Rattle.map_walk.specs.declared.target.Target.{Target}
use Rattle.map_walk.specs.Narrow.{Fitting, narrowed, next}
use Rattle.map_walk.specs.Targets.{ones, are_enough}
use Rattle.map_walk.specs.Walk.{Fits, walked, goes_on}

-- one bit more
pub ones_next : (b : Bool) (bits : List Bool) → ones (b ∷ bits) ≡ cond b 1 0 + ones bits
ones_next b bits = sum_by-cons (λ c. cond c 1 0) b bits

-- at most as many bits are set in both of two rows as in the first
ones_fewer : (a b : List Bool) → ones (and_bits a b) ≤ ones a
ones_fewer [] b = omega arith
ones_fewer (x ∷ a) [] = omega arith
ones_fewer (true ∷ a) (true ∷ b) = omega (arith, ones_fewer a b, ones_next true (and_bits a b), ones_next true a)
ones_fewer (true ∷ a) (false ∷ b) = omega (arith, ones_fewer a b, ones_next false (and_bits a b), ones_next true a)
ones_fewer (false ∷ a) (y ∷ b) = omega (arith, ones_fewer a b, ones_next false (and_bits a b), ones_next false a)

-- targets that have enough candidates left had enough
enough_before : (ts : List Target) (ms : List (List Bool)) → Fitting ts ms → are_enough (narrowed ts ms) ≡ true → are_enough ts ≡ true
enough_before [] ms fit all = refl
enough_before (t ∷ ts) [] fit all = absurd fit
enough_before (t ∷ ts) (m ∷ ms) fit all =
    let h = and_parts (nat_le t.copies (ones (and_bits t.mask m))) (are_enough (narrowed ts ms)) all in
    let here : nat_le t.copies (ones t.mask) ≡ true = le-leb _ _ (omega (arith, leb-true _ _ h.0, ones_fewer t.mask m)) in
    rw here (enough_before ts ms fit.1 h.1)

few_after : (ts : List Target) (ms : List (List Bool)) → Fitting ts ms → are_enough ts ≡ false → are_enough (narrowed ts ms) ≡ false
few_after ts ms fit few = false_from_ne_true _ (λ all. both_ways _ few (enough_before ts ms fit all))

-- masks that fit still do where fewer candidates are left
fitting_after : (ts : List Target) (ms others : List (List Bool)) → Fitting ts ms → Fitting ts others → Fitting (narrowed ts ms) others
fitting_after [] ms [] fit more = tt
fitting_after [] ms (o ∷ others) fit more = absurd more
fitting_after (t ∷ ts) [] others fit more = absurd fit
fitting_after (t ∷ ts) (m ∷ ms) [] fit more = absurd more
fitting_after (t ∷ ts) (m ∷ ms) (o ∷ others) fit more =
    (length-zip2 (λ x y. x && y) t.mask m fit.0 ∙ more.0, fitting_after ts ms others fit.1 more.1)

fits_after : (ts : List Target) (ms : List (List Bool)) (columns : List (List Offer)) → Fitting ts ms → Fits ts columns → Fits (narrowed ts ms) columns
fits_after ts ms columns fit fits =
    All-weaker (λ offers. All (λ o. Fitting ts o.masks) offers) (λ offers. All (λ o. Fitting (narrowed ts ms) o.masks) offers)
    (λ offers each. All-weaker (λ o. Fitting ts o.masks) (λ o. Fitting (narrowed ts ms) o.masks) (λ o more. fitting_after ts ms o.masks fit more) offers each) columns fits

-- where each of some elements gives nothing, so do all
none_each : {X Y : Type 0} (P : X → Type 0) (f : X → List Y) (xs : List X) → All P xs → ((x : X) → P x → f x ≡ []) → flat_map f xs ≡ []
none_each P f [] each none = refl
none_each P f (x ∷ xs) each none = ap₂ (λ a b. a ++ b) (none x (All-head P x xs each)) (none_each P f xs (All-tail P x xs each) none)

-- where a target has too few candidates, no reading goes on
pub few_walked : (r : Reading) (columns : List (List Offer)) → Fits r.targets columns → are_enough r.targets ≡ false → walked r columns ≡ []
few_walked r [] fits few = rw few refl
few_walked r (offers ∷ columns) fits few =
    none_each (λ o. Fitting r.targets o.masks) (λ o. walked (next r o) columns) offers (All-head (λ os. All (λ o. Fitting r.targets o.masks) os) offers columns fits)
    (λ o fit. few_walked (next r o) columns (fits_after r.targets o.masks columns fit (All-tail (λ os. All (λ o. Fitting r.targets o.masks) os) offers columns fits)) (few_after r.targets o.masks fit few))

-- whether there is something
abbrev pub some_of : {X : Type 0} → List X → Bool
some_of xs = list_any (λ x. true) xs

some_append : {X : Type 0} (xs ys : List X) → some_of (xs ++ ys) ≡ (some_of xs || some_of ys)
some_append [] ys = refl
some_append (x ∷ xs) ys = refl

some_joined : {X Y : Type 0} (f : X → List Y) (xs : List X) → some_of (flat_map f xs) ≡ list_any (λ x. some_of (f x)) xs
some_joined f [] = refl
some_joined f (x ∷ xs) = some_append (f x) (flat_map f xs) ∙ ap (λ b. some_of (f x) || b) (some_joined f xs)

-- some reading goes on exactly where there is one
pub goes_on_where_walked : (r : Reading) (columns : List (List Offer)) → goes_on r.targets columns ≡ some_of (walked r columns)
goes_on_where_walked r [] = by (are_enough r.targets)
  where
    by : (b : Bool) → b ≡ some_of (if b then r ∷ [] else [])
    by true = refl
    by false = refl
goes_on_where_walked r (offers ∷ columns) =
    ap (λ p. list_any p offers) (λ i o. goes_on_where_walked (next r o) columns i) ∙ sym (some_joined (λ o. walked (next r o) columns) offers)

-- where a target has too few candidates, none does
few_go_on : (r : Reading) (columns : List (List Offer)) → Fits r.targets columns → are_enough r.targets ≡ false → goes_on r.targets columns ≡ false
few_go_on r columns fits few = goes_on_where_walked r columns ∙ ap some_of (few_walked r columns fits few)

-- ---- the steps of a walk

-- columns that fit, the first of them and the rest
pub fits_parts : (ts : List Target) (columns : List (List Offer)) (offers items : List Offer) (rest : List (List Offer)) → Fits ts columns → columns ≡ offers ∷ rest → items ≡ offers
    → All (λ o. Fitting ts o.masks) items × Fits ts rest
fits_parts ts columns offers items rest fits are is =
    let both = subst (Fits ts) are fits in
    let Each : List Offer → Type 0 = λ os. All (λ o. Fitting ts o.masks) os in
    (subst Each (sym is) (All-head Each offers rest both), All-tail Each offers rest both)

-- the columns that are left fit what an offer leaves
pub fits_next : (ts left : List Target) (ms : List (List Bool)) (columns : List (List Offer)) → Fitting ts ms → Fits ts columns → left ≡ narrowed ts ms → Fits left columns
fits_next ts left ms columns fit fits is = subst (λ xs. Fits xs columns) (sym is) (fits_after ts ms columns fit fits)

-- where an offer leaves too few candidates, no reading goes on by it
pub none_walked : (r : Reading) (o : Offer) (columns : List (List Offer)) (ts : List Target) (ms : List (List Bool)) → ts ≡ r.targets → ms ≡ o.masks → Fitting r.targets o.masks → Fits r.targets columns
    → are_enough (narrowed ts ms) ≡ false → walked (next r o) columns ≡ []
none_walked r o columns ts ms is_t is_m fit fits few =
    few_walked (next r o) columns (fits_after r.targets o.masks columns fit fits) (ap₂ (λ x y. are_enough (narrowed x y)) (sym is_t) (sym is_m) ∙ few)

pub none_goes_on : (targets : List Target) (o : Offer) (columns : List (List Offer)) (ms : List (List Bool)) → ms ≡ o.masks → Fitting targets o.masks → Fits targets columns → are_enough (narrowed targets ms) ≡ false
    → goes_on (narrowed targets o.masks) columns ≡ false
none_goes_on targets o columns ms is_m fit fits few =
    few_go_on (record { picks = []; targets = narrowed targets o.masks }) columns (fits_after targets o.masks columns fit fits) (ap (λ y. are_enough (narrowed targets y)) (sym is_m) ∙ few)

-- Where an element stands in lists joined and mapped, and in the lists of pairs and triples.
use Rattle.std.proofs.Common.{◌≡◌, refl, sym, ap, subst, ◌∙◌, IfSome, ℕ, zero, suc, ◌+◌, ◌-◌, ◌<◌, ◌≤◌, Bool, true, false, nat_lt, ◌&&◌, if◌then◌else◌, Decides, inl, inr, List, [], ◌∷◌, ◌++◌, length, map, Option, Some, None, option_map, unwrap_or, arith}
use Rattle.std.specs.List.{slice_get, position_or_len}
use Rattle.std.proofs.lemmas.Bool.{cases_Bool, false≢true}
use Rattle.std.proofs.lemmas.Bool.Decides.{Decides-ltb, Decides-and}
use Rattle.std.proofs.lemmas.List.{length-map}
use Rattle.std.proofs.lemmas.Option.{same_Some, none-some, slice_get-map}
use Rattle.predicate_core.specs.declared.atom.Atom.{Atom}
use Rattle.predicate_core.specs.declared.search.Search.{Search}
use Rattle.predicate_core.specs.Atoms.{pairs, triples}
use Rattle.predicate_core.specs.Counts.{pair_count, triple_count}
use Rattle.predicate_core.specs.Equal.{same_atom}
use Rattle.predicate_core.specs.Search.{first_place, searched, started, pair_place, triple_place, pair_spot, triple_spot, IsPlace}
use Rattle.predicate_core.proofs.NumberLaws.{get_back, length-pairs}
use Rattle.predicate_core.proofs.OnceLists.{In, Once, in_same, in_append, in_map, in_at, at_in, each_once, position_once, in_pairs}
use Rattle.predicate_core.proofs.SameLaws.{same_atom_decides}
use Rattle.predicate_core.proofs.SearchLaws.{searched_count}

-- a place, by membership
abbrev pub Spot : {X : Type 0} → X → List X → Option ℕ → Type 0
Spot x xs (Some k) = slice_get xs k ≡ Some x
Spot x xs None = In x xs → ⊥

pub place_of_spot : {X : Type 0} (x : X) (xs : List X) (o : Option ℕ) → Spot x xs o → IsPlace x xs o
place_of_spot x xs (Some k) s = s
place_of_spot x xs None s = λ k e. s (in_at xs k x e)

pub spot_of_place : {X : Type 0} (x : X) (xs : List X) (o : Option ℕ) → IsPlace x xs o → Spot x xs o
spot_of_place x xs (Some k) s = s
spot_of_place x xs None s = λ i. let h = at_in x xs i in s h.0 h.1

-- of lists joined
pub spot_front : {X : Type 0} (x : X) (xs ys : List X) (k : ℕ) → Spot x xs (Some k) → Spot x (xs ++ ys) (Some k)
spot_front x [] ys k s = absurd (none-some x s)
spot_front x (y ∷ xs) ys zero s = s
spot_front x (y ∷ xs) ys (suc k) s = spot_front x xs ys k s

pub spot_left : {X : Type 0} (x : X) (xs ys : List X) (o : Option ℕ) → (In x ys → ⊥) → Spot x xs o → Spot x (xs ++ ys) o
spot_left x xs ys (Some k) never s = spot_front x xs ys k s
spot_left x xs ys None never s = λ i. elim (in_append x xs ys i) [ inl a ↦ s a | inr b ↦ never b ]

pub spot_right : {X : Type 0} (x : X) (xs ys : List X) (n : ℕ) (o : Option ℕ) → n ≡ length xs → (In x xs → ⊥) → Spot x ys o → Spot x (xs ++ ys) (option_map (λ k. n + k) o)
spot_right x xs ys n (Some k) e never s = get_back xs ys k (n + k) (omega (arith, e)) ∙ s
spot_right x xs ys n None e never s = λ i. elim (in_append x xs ys i) [ inl a ↦ never a | inr b ↦ s b ]

pub spot_map : {X Y : Type 0} (f : X → Y) → ((a b : X) → f a ≡ f b → a ≡ b) → (x : X) (xs : List X) (o : Option ℕ) → Spot x xs o → Spot (f x) (map f xs) o
spot_map f apart x xs (Some k) s = slice_get-map f xs k ∙ ap (option_map f) s
spot_map f apart x xs None s = λ i. let h = in_map f (f x) xs i in s (in_same x h.0 xs (apart x h.0 h.2) h.1)

-- the first place that a test finds, by the place or the length
pub position_absent : {X : Type 0} (same : X → X → Bool) → ((a b : X) → Decides (same a b) (a ≡ b)) → (x : X) (xs : List X) → (In x xs → ⊥) → position_or_len (same x) xs ≡ length xs
position_absent same decides x [] never = refl
position_absent same decides x (y ∷ ys) never =
    elim (cases_Bool (same x y)) [
      | inl e ↦ absurd (never (inl ((decides x y).0 e)))
      | inr e ↦ rw (e, position_absent same decides x ys (λ i. never (inr i))) (omega arith)
    ]

pub position_of_spot : {X : Type 0} (same : X → X → Bool) → ((a b : X) → Decides (same a b) (a ≡ b)) → (x : X) (xs : List X) (o : Option ℕ) → Once xs → Spot x xs o → position_or_len (same x) xs ≡ unwrap_or o (length xs)
position_of_spot same decides x xs (Some k) once s = position_once same decides xs once k x s
position_of_spot same decides x xs None once s = position_absent same decides x xs s

-- a search that has found a place keeps it
found_stays : (xs : List Atom) (a : Atom) (n k : ℕ) → (searched (record { atom = a; count = n; place = Some k }) xs).place ≡ Some k
found_stays [] a n k = refl
found_stays (x ∷ xs) a n k = found_stays xs a (n + 1) k

-- a search's place among what is left
abbrev Here : Atom → List Atom → ℕ → Option ℕ → Type 0
Here a xs n (Some k) = (j : ℕ) × (k ≡ n + j) × (slice_get xs j ≡ Some a)
Here a xs n None = In a xs → ⊥

here_next : (a x : Atom) (xs : List Atom) (n : ℕ) (o : Option ℕ) → (a ≡ x → ⊥) → Here a xs (n + 1) o → Here a (x ∷ xs) n o
here_next a x xs n (Some k) apart h = (suc h.0, omega (arith, h.1), h.2)
here_next a x xs n None apart h = λ i. elim i [ inl e ↦ apart e | inr j ↦ h j ]

here_now : (a x : Atom) (xs : List Atom) (n : ℕ) (o : Option ℕ) → a ≡ x → o ≡ Some n → Here a (x ∷ xs) n o
here_now a x xs n (Some k) e f = (0, omega (arith, same_Some k n f), ap Some (sym e))
here_now a x xs n None e f = absurd (none-some n f)

search_here : (a : Atom) (xs : List Atom) (n : ℕ) → Here a xs n (searched (record { atom = a; count = n; place = None }) xs).place
search_here a [] n = λ i. i
search_here a (x ∷ xs) n =
    let next : (b : Bool) → same_atom a x ≡ b → Here a (x ∷ xs) n (searched (record { atom = a; count = n + 1; place = first_place None b n }) xs).place = λ b. elim b as (λ b. same_atom a x ≡ b → Here a (x ∷ xs) n (searched (record { atom = a; count = n + 1; place = first_place None b n }) xs).place) [
      | true ↦ λ e. here_now a x xs n _ ((same_atom_decides a x).0 e) (found_stays xs a (n + 1) n)
      | false ↦ λ e. here_next a x xs n _ (λ f. false≢true (sym e ∙ (same_atom_decides a x).1 f)) (search_here a xs (n + 1))
    ] in
    next (same_atom a x) refl

here_spot : (a : Atom) (xs : List Atom) (o : Option ℕ) → Here a xs 0 o → Spot a xs o
here_spot a xs (Some k) h = ap (slice_get xs) (omega (arith, h.1)) ∙ h.2
here_spot a xs None h = h

-- a search from the start ends with the place of its atom
pub search_spot : (a : Atom) (xs : List Atom) → Spot a xs (searched (started a) xs).place
search_spot a xs = here_spot a xs _ (search_here a xs 0)

-- the places of a pair's and of a triple's elements
in_pairs_places : {X : Type 0} (p : X × X) (xs : List X) → In p (pairs xs) → (i : ℕ) × (j : ℕ) × (i < j) × (slice_get xs i ≡ Some p.0) × (slice_get xs j ≡ Some p.1)
in_pairs_places p [] here = absurd here
in_pairs_places {X} p (x ∷ xs) here =
    let with_x : X → X × X = λ y. (x, y) in
    elim (in_append p (map with_x xs) (pairs xs) here) [
      | inl a ↦
          let h = in_map with_x p xs a in
          let at = at_in h.0 xs h.1 in
          (0, suc at.0, omega arith, ap Some (sym (ap (λ q. q.0) h.2)), at.1 ∙ ap Some (sym (ap (λ q. q.1) h.2)))
      | inr b ↦ let h = in_pairs_places p xs b in (suc h.0, suc h.1, omega (arith, h.2), h.3, h.4)
    ]

in_triples_places : {X : Type 0} (t : X × X × X) (xs : List X) → In t (triples xs) → (i : ℕ) × (j : ℕ) × (k : ℕ) × (i < j) × (j < k) × (slice_get xs i ≡ Some t.0) × (slice_get xs j ≡ Some t.1) × (slice_get xs k ≡ Some t.2)
in_triples_places t [] here = absurd here
in_triples_places {X} t (x ∷ xs) here =
    let with_x : X × X → X × X × X = λ p. (x, p.0, p.1) in
    elim (in_append t (map with_x (pairs xs)) (triples xs) here) [
      | inl a ↦
          let h = in_map with_x t (pairs xs) a in
          let at = in_pairs_places h.0 xs h.1 in
          (0, suc at.0, suc at.1, omega arith, omega (arith, at.2), ap Some (sym (ap (λ q. q.0) h.2)), at.3 ∙ ap Some (sym (ap (λ q. q.1) h.2)), at.4 ∙ ap Some (sym (ap (λ q. q.2) h.2)))
      | inr b ↦ let h = in_triples_places t xs b in (suc h.0, suc h.1, suc h.2, omega (arith, h.3), omega (arith, h.4), h.5, h.6, h.7)
    ]

-- what stands at two places stands as a pair at theirs
less_one : (j : ℕ) → suc j - 1 ≡ j
less_one j = omega arith

pair_stands : {X : Type 0} (xs : List X) (i j : ℕ) (a b : X) → i < j → slice_get xs i ≡ Some a → slice_get xs j ≡ Some b → slice_get (pairs xs) (pair_place (length xs) i j) ≡ Some (a, b)
pair_stands [] i j a b less ea eb = absurd (none-some a ea)
pair_stands (x ∷ xs) zero zero a b less ea eb = absurd (omega arith)
pair_stands {X} (x ∷ xs) zero (suc j) a b less ea eb =
    let with_x : X → X × X = λ y. (x, y) in
    let first : (x, b) ≡ (a, b) = ap (λ y. (y, b)) (same_Some x a ea) in
    let here : slice_get (map with_x xs) j ≡ Some (a, b) = slice_get-map with_x xs j ∙ (ap (option_map with_x) eb ∙ ap Some first) in
    ap (slice_get (map with_x xs ++ pairs xs)) (less_one j) ∙ spot_front (a, b) (map with_x xs) (pairs xs) j here
pair_stands (x ∷ xs) (suc i) zero a b less ea eb = absurd (omega arith)
pair_stands {X} (x ∷ xs) (suc i) (suc j) a b less ea eb =
    let with_x : X → X × X = λ y. (x, y) in
    let later = pair_stands xs i (suc j - 1) a b (omega arith) ea (ap (slice_get xs) (less_one j) ∙ eb) in
    let k = pair_place (length xs) i (suc j - 1) in
    get_back (map with_x xs) (pairs xs) k (length xs + k) (ap (λ n. n + k) (sym (length-map xs with_x))) ∙ later

triple_stands : {X : Type 0} (xs : List X) (i j k : ℕ) (a b c : X) → i < j → j < k → slice_get xs i ≡ Some a → slice_get xs j ≡ Some b → slice_get xs k ≡ Some c → slice_get (triples xs) (triple_place (length xs) i j k) ≡ Some (a, b, c)
triple_stands [] i j k a b c less more ea eb ec = absurd (none-some a ea)
triple_stands (x ∷ xs) i zero k a b c less more ea eb ec = absurd (omega arith)
triple_stands (x ∷ xs) i (suc j) zero a b c less more ea eb ec = absurd (omega arith)
triple_stands {X} (x ∷ xs) zero (suc j) (suc k) a b c less more ea eb ec =
    let with_x : X × X → X × X × X = λ p. (x, p.0, p.1) in
    let first : ◌≡◌ {A = X × X × X} (x, b, c) (a, b, c) = ap (λ y. (y, b, c)) (same_Some x a ea) in
    let n = pair_place (length xs) (suc j - 1) (suc k - 1) in
    let pair = pair_stands xs (suc j - 1) (suc k - 1) b c (omega arith) (ap (slice_get xs) (less_one j) ∙ eb) (ap (slice_get xs) (less_one k) ∙ ec) in
    let here : slice_get (map with_x (pairs xs)) n ≡ Some (a, b, c) = slice_get-map with_x (pairs xs) n ∙ (ap (option_map with_x) pair ∙ ap Some first) in
    spot_front (a, b, c) (map with_x (pairs xs)) (triples xs) n here
triple_stands {X} (x ∷ xs) (suc i) (suc j) (suc k) a b c less more ea eb ec =
    let with_x : X × X → X × X × X = λ p. (x, p.0, p.1) in
    let later = triple_stands xs i (suc j - 1) (suc k - 1) a b c (omega arith) (omega arith) ea (ap (slice_get xs) (less_one j) ∙ eb) (ap (slice_get xs) (less_one k) ∙ ec) in
    let m = triple_place (length xs) i (suc j - 1) (suc k - 1) in
    let long : length (map with_x (pairs xs)) ≡ pair_count (length xs) = length-map (pairs xs) with_x ∙ length-pairs xs in
    get_back (map with_x (pairs xs)) (triples xs) m (pair_count (length xs) + m) (ap (λ n. n + m) (sym long)) ∙ later

-- a pair's place, from the places of its elements
pair_if : {X : Type 0} (xs : List X) (i j : ℕ) (a b : X) (less : Bool) → Decides less (i < j) → Once xs → slice_get xs i ≡ Some a → slice_get xs j ≡ Some b → Spot (a, b) (pairs xs) (if less then Some (pair_place (length xs) i j) else None)
pair_if xs i j a b true decides once ea eb = pair_stands xs i j a b (decides.0 refl) ea eb
pair_if xs i j a b false decides once ea eb = λ here.
    let h = in_pairs_places (a, b) xs here in
    let ei : h.0 ≡ i = each_once xs once h.0 i a h.3 ea in
    let ej : h.1 ≡ j = each_once xs once h.1 j b h.4 eb in
    false≢true (decides.1 (omega (arith, ei, ej, h.2)))

pub spot_pairs : {X : Type 0} (xs : List X) (a b : X) (i j : Option ℕ) → Once xs → Spot a xs i → Spot b xs j → Spot (a, b) (pairs xs) (pair_spot (length xs) i j)
spot_pairs xs a b None j once sa sb = λ here. sa (in_pairs (a, b) xs here).0
spot_pairs xs a b (Some i) None once sa sb = λ here. sb (in_pairs (a, b) xs here).1
spot_pairs xs a b (Some i) (Some j) once sa sb = pair_if xs i j a b (nat_lt i j) (Decides-ltb i j) once sa sb

-- a triple's place, from the places of its elements
triple_if : {X : Type 0} (xs : List X) (i j k : ℕ) (a b c : X) (less : Bool) → Decides less ((i < j) × (j < k)) → Once xs → slice_get xs i ≡ Some a → slice_get xs j ≡ Some b → slice_get xs k ≡ Some c → Spot (a, b, c) (triples xs) (if less then Some (triple_place (length xs) i j k) else None)
triple_if xs i j k a b c true decides once ea eb ec = let l = decides.0 refl in triple_stands xs i j k a b c l.0 l.1 ea eb ec
triple_if xs i j k a b c false decides once ea eb ec = λ here.
    let h = in_triples_places (a, b, c) xs here in
    let ei : h.0 ≡ i = each_once xs once h.0 i a h.5 ea in
    let ej : h.1 ≡ j = each_once xs once h.1 j b h.6 eb in
    let ek : h.2 ≡ k = each_once xs once h.2 k c h.7 ec in
    false≢true (decides.1 (omega (arith, ei, ej, h.3), omega (arith, ej, ek, h.4)))

pub spot_triples : {X : Type 0} (xs : List X) (a b c : X) (i j k : Option ℕ) → Once xs → Spot a xs i → Spot b xs j → Spot c xs k → Spot (a, b, c) (triples xs) (triple_spot (length xs) i j k)
spot_triples xs a b c None j k once sa sb sc = λ here. let h = in_triples_places (a, b, c) xs here in sa (in_at xs h.0 a h.5)
spot_triples xs a b c (Some i) None k once sa sb sc = λ here. let h = in_triples_places (a, b, c) xs here in sb (in_at xs h.1 b h.6)
spot_triples xs a b c (Some i) (Some j) None once sa sb sc = λ here. let h = in_triples_places (a, b, c) xs here in sc (in_at xs h.2 c h.7)
spot_triples xs a b c (Some i) (Some j) (Some k) once sa sb sc = triple_if xs i j k a b c (nat_lt i j && nat_lt j k) (Decides-and _ _ (Decides-ltb i j) (Decides-ltb j k)) once sa sb sc

-- a pair's place by counts of pairs
pub pair_closed : (n i j : ℕ) → i < j → j < n → pair_place n i j + (pair_count (n - i) + i + 1) ≡ pair_count n + j
pair_closed zero i j less within = absurd (omega arith)
pair_closed (suc n) i zero less within = absurd (omega arith)
pair_closed (suc n) zero (suc j) less within = let e : suc n - 0 ≡ suc n = omega arith in rw e (omega arith)
pair_closed (suc n) (suc i) (suc j) less within =
    let e : suc n - suc i ≡ n - i = omega arith in
    let h = pair_closed n i (suc j - 1) (omega arith) (omega arith) in
    rw e (omega (arith, h))

-- a triple's place by counts of triples and the place of a pair
pub triple_closed : (n i j k : ℕ) → i < j → j < k → k < n → triple_place n i j k + triple_count (n - i) ≡ triple_count n + pair_place (n - i - 1) (j - i - 1) (k - i - 1)
triple_closed zero i j k less more within = absurd (omega arith)
triple_closed (suc n) zero j k less more within =
    let e : suc n - 0 ≡ suc n = omega arith in
    let a : suc n - 0 - 1 ≡ n = omega arith in
    let b : j - 0 - 1 ≡ j - 1 = omega arith in
    let c : k - 0 - 1 ≡ k - 1 = omega arith in
    rw (a, b, c) (rw e (omega arith))
triple_closed (suc n) (suc i) j k less more within =
    let e : suc n - suc i ≡ n - i = omega arith in
    let a : suc n - suc i - 1 ≡ n - i - 1 = omega arith in
    let b : j - suc i - 1 ≡ j - 1 - i - 1 = omega arith in
    let c : k - suc i - 1 ≡ k - 1 - i - 1 = omega arith in
    let h = triple_closed n i (j - 1) (k - 1) (omega arith) (omega arith) (omega arith) in
    rw (a, b, c) (rw e (omega (arith, h)))

-- a place is below the length
at_below : {X : Type 0} (x : X) (xs : List X) (k : ℕ) → slice_get xs k ≡ Some x → k < length xs
at_below x [] k e = absurd (none-some x e)
at_below x (y ∷ xs) zero e = omega arith
at_below x (y ∷ xs) (suc k) e = let h = at_below x xs k e in omega (arith, h)

spot_below : {X : Type 0} (x : X) (xs : List X) (o : Option ℕ) → Spot x xs o → IfSome o (λ k. k < length xs)
spot_below x xs (Some k) s = at_below x xs k s
spot_below x xs None s = tt

pub spot_is : {X : Type 0} (x : X) (xs : List X) (o p : Option ℕ) → p ≡ o → Spot x xs o → Spot x xs p
spot_is x xs o p e s = let P : Option ℕ → Type 0 = λ q. Spot x xs q in subst P (sym e) s

-- what searches of one list come to
pub search_count : (s : Search) (a : Atom) (xs : List Atom) → s ≡ searched (started a) xs → s.count ≡ length xs
search_count s a xs e = ap (λ x. x.count) e ∙ (searched_count (started a) xs ∙ omega arith)

pub search_place : (s : Search) (a : Atom) (xs : List Atom) → s ≡ searched (started a) xs → Spot a xs s.place
search_place s a xs e = spot_is a xs (searched (started a) xs).place s.place (ap (λ x. x.place) e) (search_spot a xs)

pub search_below : (s t : Search) (a b : Atom) (xs : List Atom) → s ≡ searched (started a) xs → t ≡ searched (started b) xs → IfSome t.place (λ k. k < s.count)
search_below s t a b xs e f = rw (search_count s a xs e) (spot_below b xs t.place (search_place t b xs f))

pub pair_found : (s t : Search) (a b : Atom) (xs : List Atom) (o : Option ℕ) → Once xs → s ≡ searched (started a) xs → t ≡ searched (started b) xs → o ≡ pair_spot s.count s.place t.place → IsPlace (a, b) (pairs xs) o
pair_found s t a b xs o once e f is =
    let spot = spot_pairs xs a b s.place t.place once (search_place s a xs e) (search_place t b xs f) in
    let same : o ≡ pair_spot (length xs) s.place t.place = is ∙ ap (λ n. pair_spot n s.place t.place) (search_count s a xs e) in
    place_of_spot (a, b) (pairs xs) o (spot_is (a, b) (pairs xs) _ o same spot)

pub triple_found_at : (s t u : Search) (a b c : Atom) (xs : List Atom) (o : Option ℕ) → Once xs → s ≡ searched (started a) xs → t ≡ searched (started b) xs → u ≡ searched (started c) xs → o ≡ triple_spot s.count s.place t.place u.place → IsPlace (a, b, c) (triples xs) o
triple_found_at s t u a b c xs o once e f g is =
    let spot = spot_triples xs a b c s.place t.place u.place once (search_place s a xs e) (search_place t b xs f) (search_place u c xs g) in
    let same : o ≡ triple_spot (length xs) s.place t.place u.place = is ∙ ap (λ n. triple_spot n s.place t.place u.place) (search_count s a xs e) in
    place_of_spot (a, b, c) (triples xs) o (spot_is (a, b, c) (triples xs) _ o same spot)

spot_small : {X : Type 0} (x : X) (xs : List X) (o : Option ℕ) → length xs ≤ 100000 → Spot x xs o → IfSome o (λ k. k ≤ 10000000000000000)
spot_small x xs (Some k) few s = let h = at_below x xs k s in omega (arith, h)
spot_small x xs None few s = tt

pub search_small : (s : Search) (a : Atom) (xs : List Atom) → s ≡ searched (started a) xs → length xs ≤ 100000 → IfSome s.place (λ k. k ≤ 10000000000000000)
search_small s a xs e few = spot_small a xs s.place few (search_place s a xs e)

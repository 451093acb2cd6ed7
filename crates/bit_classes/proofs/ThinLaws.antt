-- Lists of which some elements are told, and the pairs and triples of them: what isn't told is known, or stands before.
use Rattle.std.proofs.Common.{◌≡◌, refl, sym, ap, ◌∙◌, subst, suc, ◌⊎◌, inl, inr, Option, Some, None, List, [], ◌∷◌, ◌++◌, length, map, arith}
use Rattle.std.proofs.lemmas.List.{map-append}
use Rattle.predicate_core.specs.Atoms.{pairs}
use Rattle.predicate_core.proofs.OnceLists.{In, in_same}
use Rattle.bit_classes.proofs.SplitLaws.{map-map}

-- ---- elements of a list

pub in_front : {X : Type 0} (x : X) (xs ys : List X) → In x xs → In x (xs ++ ys)
in_front x [] ys i = absurd i
in_front x (z ∷ xs) ys (inl e) = inl e
in_front x (z ∷ xs) ys (inr i) = inr (in_front x xs ys i)

pub in_back : {X : Type 0} (x : X) (xs ys : List X) → In x ys → In x (xs ++ ys)
in_back x [] ys i = i
in_back x (z ∷ xs) ys i = inr (in_back x xs ys i)

pub in_mapped : {X Y : Type 0} (f : X → Y) (x : X) (xs : List X) → In x xs → In (f x) (map f xs)
in_mapped f x [] i = absurd i
in_mapped f x (z ∷ xs) (inl e) = inl (ap f e)
in_mapped f x (z ∷ xs) (inr i) = inr (in_mapped f x xs i)

-- two elements of a list are the same, or a pair of it in one order
pub two_in : {X : Type 0} (y z : X) (xs : List X) → In y xs → In z xs → (y ≡ z) ⊎ (In (y, z) (pairs xs) ⊎ In (z, y) (pairs xs))
two_in y z [] i j = absurd i
two_in y z (x ∷ xs) (inl e) (inl f) = inl (e ∙ sym f)
two_in {X} y z (x ∷ xs) (inl e) (inr j) =
    let with_x : X → X × X = λ w. (x, w) in
    inr (inl (in_front (y, z) (map with_x xs) (pairs xs) (in_same (y, z) (x, z) (map with_x xs) (ap (λ w. (w, z)) e) (in_mapped with_x z xs j))))
two_in {X} y z (x ∷ xs) (inr i) (inl f) =
    let with_x : X → X × X = λ w. (x, w) in
    inr (inr (in_front (z, y) (map with_x xs) (pairs xs) (in_same (z, y) (x, y) (map with_x xs) (ap (λ w. (w, y)) f) (in_mapped with_x y xs i))))
two_in {X} y z (x ∷ xs) (inr i) (inr j) =
    let with_x : X → X × X = λ w. (x, w) in
    elim (two_in y z xs i j) [
      | inl e ↦ inl e
      | inr k ↦ elim k [ inl a ↦ inr (inl (in_back (y, z) (map with_x xs) (pairs xs) a)) | inr b ↦ inr (inr (in_back (z, y) (map with_x xs) (pairs xs) b)) ]
    ]

-- ---- what is told of a list

-- each element of a list is told, or it isn't and is known, or stands before
abbrev pub Thin : {V : Type 0} → (V → Type 0) → List (Option V) → List V → Type 0
Thin K [] [] = Unit {0}
Thin K [] (v ∷ vs) = ⊥
Thin K (u ∷ us) [] = ⊥
Thin K (u ∷ us) (v ∷ vs) = ((u ≡ Some v) ⊎ ((u ≡ None) × K v)) × Thin (λ w. K w ⊎ (w ≡ v)) us vs

wider_more : {V : Type 0} (K L : V → Type 0) (v : V) → ((w : V) → K w → L w) → (w : V) → K w ⊎ (w ≡ v) → L w ⊎ (w ≡ v)
wider_more K L v wider w (inl k) = inl (wider w k)
wider_more K L v wider w (inr e) = inr e

pub thin_wider : {V : Type 0} (K L : V → Type 0) → ((w : V) → K w → L w) → (us : List (Option V)) (vs : List V) → Thin K us vs → Thin L us vs
thin_wider K L wider [] [] t = tt
thin_wider K L wider [] (v ∷ vs) t = absurd t
thin_wider K L wider (u ∷ us) [] t = absurd t
thin_wider {V} K L wider (u ∷ us) (v ∷ vs) t =
    let rest = thin_wider (λ w. K w ⊎ (w ≡ v)) (λ w. L w ⊎ (w ≡ v)) (wider_more K L v wider) us vs t.1 in
    elim t.0 [ inl e ↦ (inl e, rest) | inr k ↦ (inr (k.0, wider v k.1), rest) ]

pub thin_same : {V : Type 0} (K : V → Type 0) (us us' : List (Option V)) (vs vs' : List V) → us ≡ us' → vs ≡ vs' → Thin K us' vs' → Thin K us vs
thin_same {V} K us us' vs vs' e f t =
    let P : List (Option V) → Type 0 = λ a. Thin K a vs in
    let Q : List V → Type 0 = λ b. Thin K us' b in
    subst P (sym e) (subst Q (sym f) t)

pub thin_length : {V : Type 0} (K : V → Type 0) (us : List (Option V)) (vs : List V) → Thin K us vs → length us ≡ length vs
thin_length K [] [] t = refl
thin_length K [] (v ∷ vs) t = absurd t
thin_length K (u ∷ us) [] t = absurd t
thin_length K (u ∷ us) (v ∷ vs) t = ap suc (thin_length (λ w. K w ⊎ (w ≡ v)) us vs t.1)

-- what is told stays told under a map, or it is known
pub thin_mapped : {V : Type 0} (f : Option V → Option V) → (f None ≡ None) → (K : V → Type 0) (us : List (Option V)) (vs : List V) → ((v : V) → In v vs → (f (Some v) ≡ Some v) ⊎ ((f (Some v) ≡ None) × K v)) → Thin K us vs → Thin K (map f us) vs
thin_mapped f none K [] [] each t = tt
thin_mapped f none K [] (v ∷ vs) each t = absurd t
thin_mapped f none K (u ∷ us) [] each t = absurd t
thin_mapped f none K (u ∷ us) (v ∷ vs) each t =
    let known : (w : _) → In w vs → (f (Some w) ≡ Some w) ⊎ ((f (Some w) ≡ None) × (K w ⊎ (w ≡ v))) = λ w i. elim (each w (inr i)) [ inl e ↦ inl e | inr k ↦ inr (k.0, inl k.1) ] in
    let rest = thin_mapped f none (λ w. K w ⊎ (w ≡ v)) us vs known t.1 in
    elim t.0 [
      | inl e ↦ elim (each v (inl refl)) [ inl kept ↦ (inl (ap f e ∙ kept), rest) | inr lost ↦ (inr (ap f e ∙ lost.0, lost.1), rest) ]
      | inr k ↦ (inr (ap f k.0 ∙ none, k.1), rest)
    ]

no_more : {V : Type 0} (K : V → Type 0) (w : V) → K w ⊎ In w [] → K w
no_more K w (inl k) = k
no_more K w (inr i) = absurd i

regroup : {V : Type 0} (K : V → Type 0) (v : V) (vs : List V) (w : V) → K w ⊎ In w (v ∷ vs) → (K w ⊎ (w ≡ v)) ⊎ In w vs
regroup K v vs w (inl k) = inl (inl k)
regroup K v vs w (inr (inl e)) = inl (inr e)
regroup K v vs w (inr (inr i)) = inr i

pub thin_append : {V : Type 0} (K : V → Type 0) (us : List (Option V)) (vs : List V) (us' : List (Option V)) (vs' : List V) → Thin K us vs → Thin (λ w. K w ⊎ In w vs) us' vs' → Thin K (us ++ us') (vs ++ vs')
thin_append K [] [] us' vs' t more = thin_wider (λ w. K w ⊎ In w []) K (no_more K) us' vs' more
thin_append K [] (v ∷ vs) us' vs' t more = absurd t
thin_append K (u ∷ us) [] us' vs' t more = absurd t
thin_append K (u ∷ us) (v ∷ vs) us' vs' t more =
    (t.0, thin_append (λ w. K w ⊎ (w ≡ v)) us vs us' vs' t.1 (thin_wider (λ w. K w ⊎ In w (v ∷ vs)) (λ w. (K w ⊎ (w ≡ v)) ⊎ In w vs) (regroup K v vs) us' vs' more))

-- nothing is told of what is all known
pub thin_none : {A C V : Type 0} (f : A → Option V) (g : C → V) → ((a : A) → f a ≡ None) → (K : V → Type 0) (as' : List A) (cs : List C) → length as' ≡ length cs → ((c : C) → In c cs → K (g c)) → Thin K (map f as') (map g cs)
thin_none f g none K [] [] same known = tt
thin_none f g none K [] (c ∷ cs) same known = absurd (omega (arith, same))
thin_none f g none K (a ∷ as') [] same known = absurd (omega (arith, same))
thin_none f g none K (a ∷ as') (c ∷ cs) same known =
    (inr (none a, known c (inl refl)), thin_none f g none (λ w. K w ⊎ (w ≡ g c)) as' cs (omega (arith, same)) (λ d i. inl (known d (inr i))))

-- ---- pairs

-- the pairs of the first element come first, and then those of the rest
pub pairs_first : {X V : Type 0} (g : X → X → V) (x : X) (xs : List X) → map (λ p. g p.0 p.1) (pairs (x ∷ xs)) ≡ map (g x) xs ++ map (λ p. g p.0 p.1) (pairs xs)
pairs_first {X} {V} g x xs =
    let join : X × X → V = λ p. g p.0 p.1 in
    let with_x : X → X × X = λ y. (x, y) in
    map-append join (map with_x xs) (pairs xs) ∙ ap (λ t. t ++ map join (pairs xs)) (map-map join with_x xs)

module _ {X V : Type 0} (g : X → X → V) (h : Option X → Option X → Option V)
    (told : (x y : X) → h (Some x) (Some y) ≡ Some (g x y)) (none_left : (y : Option X) → h None y ≡ None) (none_right : (x : X) → h (Some x) None ≡ None) where
  row_more : (x z : X) (B : X → Type 0) (K : V → Type 0) → ((w : X) → B w → K (g x w)) → (w : X) → B w ⊎ (w ≡ z) → K (g x w) ⊎ (g x w ≡ g x z)
  row_more x z B K known w (inl b) = inl (known w b)
  row_more x z B K known w (inr e) = inr (ap (g x) e)

  -- one element with each of some others
  pub thin_row : (x : X) (B : X → Type 0) (K : V → Type 0) → ((w : X) → B w → K (g x w)) → (ms : List (Option X)) (xs : List X) → Thin B ms xs → Thin K (map (h (Some x)) ms) (map (g x) xs)
  thin_row x B K known [] [] t = tt
  thin_row x B K known [] (z ∷ zs) t = absurd t
  thin_row x B K known (m ∷ ms) [] t = absurd t
  thin_row x B K known (m ∷ ms) (z ∷ zs) t =
      let rest = thin_row x (λ w. B w ⊎ (w ≡ z)) (λ v. K v ⊎ (v ≡ g x z)) (row_more x z B K known) ms zs t.1 in
      elim t.0 [
        | inl e ↦ (inl (ap (h (Some x)) e ∙ told x z), rest)
        | inr b ↦ (inr (ap (h (Some x)) b.0 ∙ none_right x, known z b.1), rest)
      ]

  pub shift : (B : X → Type 0) (x z : X) (xs : List X) → (B z ⊎ (z ≡ x)) ⊎ In z xs → B z ⊎ In z (x ∷ xs)
  shift B x z xs (inl (inl b)) = inl b
  shift B x z xs (inl (inr e)) = inr (inl e)
  shift B x z xs (inr i) = inr (inr i)

  module _ (turned : (y z : X) → g y z ≡ g z y) where
    first_row : (B : X → Type 0) (K : V → Type 0) (x : X) (xs : List X) → ((z : X) → B z ⊎ In z (x ∷ xs) → K (g z z)) → ((y z : X) → B y → B z ⊎ In z (x ∷ xs) → K (g y z))
        → (w : X) → B w ⊎ (w ≡ x) → K (g x w)
    first_row B K x xs own before w (inl b) = subst K (turned w x) (before w x b (inr (inl refl)))
    first_row B K x xs own before w (inr e) = subst (λ z. K (g x z)) (sym e) (own x (inr (inl refl)))

    before_more : (B : X → Type 0) (K : V → Type 0) (x : X) (xs : List X) → ((z : X) → B z ⊎ In z (x ∷ xs) → K (g z z)) → ((y z : X) → B y → B z ⊎ In z (x ∷ xs) → K (g y z))
        → (y z : X) → B y ⊎ (y ≡ x) → (B z ⊎ (z ≡ x)) ⊎ In z xs → K (g y z) ⊎ In (g y z) (map (g x) xs)
    before_more B K x xs own before y z (inl b) among = inl (before y z b (shift B x z xs among))
    before_more B K x xs own before y z (inr e) (inl (inl b)) = inl (subst K (turned z y) (before z y b (inr (inl e))))
    before_more B K x xs own before y z (inr e) (inl (inr f)) = inl (subst (λ w. K (g y w)) (e ∙ sym f) (own y (inr (inl e))))
    before_more B K x xs own before y z (inr e) (inr i) = inr (in_same (g y z) (g x z) (map (g x) xs) (ap (λ w. g w z) e) (in_mapped (g x) z xs i))

    -- the pairs of a list, where what is known has its own pair, and its pairs with all
    pub thin_pairs : (B : X → Type 0) (K : V → Type 0) (ms : List (Option X)) (xs : List X) → Thin B ms xs → ((z : X) → B z ⊎ In z xs → K (g z z)) → ((y z : X) → B y → B z ⊎ In z xs → K (g y z))
        → Thin K (map (λ p. h p.0 p.1) (pairs ms)) (map (λ p. g p.0 p.1) (pairs xs))
    thin_pairs B K [] [] t own before = tt
    thin_pairs B K [] (x ∷ xs) t own before = absurd t
    thin_pairs B K (m ∷ ms) [] t own before = absurd t
    thin_pairs B K (m ∷ ms) (x ∷ xs) t own before =
        let B' : X → Type 0 = λ w. B w ⊎ (w ≡ x) in
        let K' : V → Type 0 = λ v. K v ⊎ In v (map (g x) xs) in
        let rest = thin_pairs B' K' ms xs t.1 (λ z a. inl (own z (shift B x z xs a))) (before_more B K x xs own before) in
        let same = thin_length B' ms xs t.1 in
        let first : Thin K (map (h m) ms) (map (g x) xs) = elim t.0 [
          | inl e ↦ thin_same K (map (h m) ms) (map (h (Some x)) ms) (map (g x) xs) (map (g x) xs) (ap (λ u. map (h u) ms) e) refl (thin_row x B' K (first_row B K x xs own before) ms xs t.1)
          | inr b ↦ thin_none (h m) (g x) (λ a. ap (λ u. h u a) b.0 ∙ none_left a) K ms xs same (λ z i. before x z b.1 (inr (inr i)))
        ] in
        thin_same K _ _ _ _ (pairs_first h m ms) (pairs_first g x xs) (thin_append K (map (h m) ms) (map (g x) xs) (map (λ p. h p.0 p.1) (pairs ms)) (map (λ p. g p.0 p.1) (pairs xs)) first rest)

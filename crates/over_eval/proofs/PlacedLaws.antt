-- Laws of elements that are placed in a list.
use Rattle.std.proofs.Common.{◌≡◌, refl, sym, ap, ◌∙◌, subst, suc, ◌≤◌, Bool, true, false, ◌⊎◌, inl, inr, List, [], ◌∷◌, ◌++◌, map, length, arith}
use Rattle.std.specs.Prelude.{filter, flat_map}
use Rattle.std.specs.List.{list_all}
use Rattle.std.proofs.lemmas.Bool.{cases_Bool, and_parts, and_from}
use Rattle.predicate_core.proofs.OnceLists.{In, Once, in_same}
use Rattle.over_eval.specs.Placed.{Takes, here, later, Placed}

-- Elements taken out of lists.

-- two elements are taken out in either order
takes_swap : {X : Type 0} {a b : X} {xs ys zs : List X} → Takes a xs ys → Takes b ys zs → (mid : List X) × Takes b xs mid × Takes a mid zs
takes_swap here s = (_, later s, here)
takes_swap (later t) here = (_, here, t)
takes_swap (later t) (later s) = let h = takes_swap t s in (_, later h.1, later h.2)

takes_length : {X : Type 0} {x : X} {xs rest : List X} → Takes x xs rest → length xs ≡ suc (length rest)
takes_length here = refl
takes_length (later t) = ap suc (takes_length t)

takes_front : {X : Type 0} (more : List X) {x : X} {xs rest : List X} → Takes x xs rest → Takes x (xs ++ more) (rest ++ more)
takes_front more here = here
takes_front more (later t) = later (takes_front more t)

-- what stands between two lists is taken out
pub takes_middle : {X : Type 0} (x : X) (xs ys : List X) → Takes x (xs ++ x ∷ ys) (xs ++ ys)
takes_middle x [] ys = here
takes_middle x (z ∷ xs) ys = later (takes_middle x xs ys)

pub takes_map : {X Y : Type 0} (f : X → Y) {x : X} {xs rest : List X} → Takes x xs rest → Takes (f x) (map f xs) (map f rest)
takes_map f here = here
takes_map f (later t) = later (takes_map f t)

takes_in : {X : Type 0} {x : X} {xs rest : List X} → Takes x xs rest → In x xs
takes_in here = inl refl
takes_in (later t) = inr (takes_in t)

rest_in : {X : Type 0} (z : X) {x : X} {xs rest : List X} → Takes x xs rest → In z rest → In z xs
rest_in z here i = inr i
rest_in z (later t) (inl e) = inl e
rest_in z (later t) (inr i) = inr (rest_in z t i)

in_rest : {X : Type 0} (z : X) {x : X} {xs rest : List X} → Takes x xs rest → In z xs → (z ≡ x) ⊎ In z rest
in_rest z here i = i
in_rest z (later t) (inl e) = inr (inl e)
in_rest z (later t) (inr i) = elim (in_rest z t i) [ inl e ↦ inl e | inr j ↦ inr (inr j) ]

-- what stands in a list can be taken out
in_takes : {X : Type 0} (x : X) (xs : List X) → In x xs → (rest : List X) × Takes x xs rest
in_takes x [] i = absurd i
in_takes {X} x (y ∷ ys) (inl e) = (ys, subst (λ (z : X). Takes z (y ∷ ys) ys) (sym e) here)
in_takes x (y ∷ ys) (inr i) = let h = in_takes x ys i in (y ∷ h.0, later h.1)

-- what is taken out of a filtered list
takes_kept : {X : Type 0} (p : X → Bool) {x : X} {xs rest : List X} → Takes x xs rest → p x ≡ true → Takes x (filter p xs) (filter p rest)
takes_kept p here kept = rw kept here
takes_kept p (later {y = w} t) kept =
    let next = takes_kept p t kept in
    elim (cases_Bool (p w)) [ inl is ↦ rw is (later next) | inr is ↦ rw is next ]

takes_dropped : {X : Type 0} (p : X → Bool) {x : X} {xs rest : List X} → Takes x xs rest → p x ≡ false → filter p xs ≡ filter p rest
takes_dropped p here dropped = rw dropped refl
takes_dropped p (later t) dropped = let next = takes_dropped p t dropped in rw next refl

takes_all : {X : Type 0} (p : X → Bool) {x : X} {xs rest : List X} → Takes x xs rest → list_all p xs ≡ true → (p x ≡ true) × (list_all p rest ≡ true)
takes_all p (here {x = w} {xs = ws}) all = and_parts (p w) (list_all p ws) all
takes_all p (later {y = w} {xs = ws} {rest = others} t) all =
    let both = and_parts (p w) (list_all p ws) all in
    let more = takes_all p t both.1 in
    (more.0, and_from (p w) (list_all p others) both.0 more.1)

-- Placed elements, and their composition.

-- one element taken out of a list that is placed: its own element of the other list, and the rest placed in what is left there
pub through_one : {Y Z : Type 0} (S : Y → Z → Type 0) {y : Y} {ys rest : List Y} → Takes y ys rest → (zs : List Z) → Placed S ys zs
    → (z : Z) × (more : List Z) × Takes z zs more × S y z × Placed S rest more
through_one S here zs h = h
through_one S (later t) zs h =
    let one = through_one S t h.1 h.4 in
    let swap = takes_swap h.2 one.2 in
    (one.0, swap.0, swap.1, one.3, (h.0, one.1, swap.2, h.3, one.4))

-- what is placed in a list that is placed in a third is placed there
pub placed_through : {X Y Z : Type 0} (R : X → Y → Type 0) (S : Y → Z → Type 0) (T : X → Z → Type 0) → ((x : X) (y : Y) (z : Z) → R x y → S y z → T x z)
    → (xs : List X) (ys : List Y) (zs : List Z) → Placed R xs ys → Placed S ys zs → Placed T xs zs
placed_through R S T both [] ys zs h k = tt
placed_through R S T both (x ∷ xs) ys zs h k =
    let one = through_one S h.2 zs k in
    (one.0, one.1, one.2, both x h.0 one.0 h.3 one.3, placed_through R S T both xs h.1 one.1 h.4 one.4)

pub placed_weaker : {X Y : Type 0} (R S : X → Y → Type 0) → ((x : X) (y : Y) → R x y → S x y) → (xs : List X) (ys : List Y) → Placed R xs ys → Placed S xs ys
placed_weaker R S each [] ys h = tt
placed_weaker R S each (x ∷ xs) ys h = (h.0, h.1, h.2, each x h.0 h.3, placed_weaker R S each xs h.1 h.4)

-- what is placed in the rest is placed in the whole
placed_more : {X Y : Type 0} (R : X → Y → Type 0) (xs : List X) {y : Y} {ys rest : List Y} → Takes y ys rest → Placed R xs rest → Placed R xs ys
placed_more R [] t h = tt
placed_more R (x ∷ xs) t h = let swap = takes_swap t h.2 in (h.0, swap.0, swap.1, h.3, placed_more R xs swap.2 h.4)

pub placed_length : {X Y : Type 0} (R : X → Y → Type 0) (xs : List X) (ys : List Y) → Placed R xs ys → length xs ≤ length ys
placed_length R [] ys h = omega arith
placed_length R (x ∷ xs) ys h = omega (arith, takes_length h.2, placed_length R xs h.1 h.4)

-- each element of a list stands in another, in any order
abbrev pub PartOf : {X : Type 0} → List X → List X → Type 0
PartOf xs ys = Placed (λ x y. x ≡ y) xs ys

pub part_whole : {X : Type 0} (xs : List X) → PartOf xs xs
part_whole [] = tt
part_whole (x ∷ xs) = (x, xs, here, refl, part_whole xs)

pub part_places : {X Y : Type 0} (R : X → Y → Type 0) (part xs : List X) (ys : List Y) → PartOf part xs → Placed R xs ys → Placed R part ys
part_places {X} {Y} R part xs ys h k = placed_through (λ (x y : X). x ≡ y) R R (λ x y z e r. subst (λ (w : X). R w z) (sym e) r) part xs ys h k

pub places_part : {X Y : Type 0} (R : X → Y → Type 0) (xs : List X) (ys zs : List Y) → Placed R xs ys → PartOf ys zs → Placed R xs zs
places_part {X} {Y} R xs ys zs h k = placed_through R (λ (x y : Y). x ≡ y) R (λ x y z r e. subst (λ (w : Y). R x w) e r) xs ys zs h k

pub part_part : {X : Type 0} (xs ys zs : List X) → PartOf xs ys → PartOf ys zs → PartOf xs zs
part_part {X} xs ys zs h k = placed_through (λ (x y : X). x ≡ y) (λ (x y : X). x ≡ y) (λ (x y : X). x ≡ y) (λ x y z e f. e ∙ f) xs ys zs h k

pub in_whole : {X : Type 0} (z : X) (xs ys : List X) → PartOf xs ys → In z xs → In z ys
in_whole z [] ys h i = absurd i
in_whole z (x ∷ xs) ys h (inl e) = in_same z h.0 ys (e ∙ h.3) (takes_in h.2)
in_whole z (x ∷ xs) ys h (inr i) = rest_in z h.2 (in_whole z xs h.1 h.4 i)

-- elements that each stand once are a part of a list in which they all stand
pub once_part : {X : Type 0} (xs ys : List X) → Once xs → ((x : X) → In x xs → In x ys) → PartOf xs ys
once_part [] ys once each = tt
once_part (x ∷ xs) ys once each =
    let h = in_takes x ys (each x (inl refl)) in (
      x,
      h.0,
      h.1,
      refl,
      once_part xs h.0 once.1 (λ z i. elim (in_rest z h.1 (each z (inr i))) [
        | inl e ↦ absurd (once.0 (in_same x z xs (sym e) i))
        | inr j ↦ j
      ]),
    )

-- Joined lists.

pub placed_front : {X Y : Type 0} (R : X → Y → Type 0) (xs : List X) (ys more : List Y) → Placed R xs ys → Placed R xs (ys ++ more)
placed_front R [] ys more h = tt
placed_front R (x ∷ xs) ys more h = (h.0, h.1 ++ more, takes_front more h.2, h.3, placed_front R xs h.1 more h.4)

placed_back : {X Y : Type 0} (R : X → Y → Type 0) (xs : List X) (ys more : List Y) → Placed R xs more → Placed R xs (ys ++ more)
placed_back R xs [] more h = h
placed_back R xs (y ∷ ys) more h = placed_more R xs here (placed_back R xs ys more h)

pub placed_append : {X Y : Type 0} (R : X → Y → Type 0) (xs us : List X) (ys vs : List Y) → Placed R xs ys → Placed R us vs → Placed R (xs ++ us) (ys ++ vs)
placed_append R [] us ys vs h k = placed_back R us ys vs k
placed_append R (x ∷ xs) us ys vs h k = (h.0, h.1 ++ vs, takes_front vs h.2, h.3, placed_append R xs us h.1 vs h.4 k)

-- of three lists joined, the first two may stand in either order
part_swap : {X : Type 0} (xs ys zs : List X) → PartOf (xs ++ (ys ++ zs)) (ys ++ (xs ++ zs))
part_swap [] ys zs = part_whole (ys ++ zs)
part_swap (x ∷ xs) ys zs = (x, ys ++ (xs ++ zs), takes_middle x ys (xs ++ zs), refl, part_swap xs ys zs)

-- of four lists joined, the middle two may
part_middle : {X : Type 0} (ts us vs ws : List X) → PartOf ((ts ++ us) ++ (vs ++ ws)) ((ts ++ vs) ++ (us ++ ws))
part_middle [] us vs ws = part_swap us vs ws
part_middle (t ∷ ts) us vs ws = (t, (ts ++ vs) ++ (us ++ ws), here, refl, part_middle ts us vs ws)

-- Mapped lists.

pub placed_map : {X Y U V : Type 0} (R : X → Y → Type 0) (S : U → V → Type 0) (f : X → U) (g : Y → V) → ((x : X) (y : Y) → R x y → S (f x) (g y))
    → (xs : List X) (ys : List Y) → Placed R xs ys → Placed S (map f xs) (map g ys)
placed_map R S f g each [] ys h = tt
placed_map R S f g each (x ∷ xs) ys h = (g h.0, map g h.1, takes_map g h.2, each x h.0 h.3, placed_map R S f g each xs h.1 h.4)

pub placed_onto : {X Y V : Type 0} (R : X → Y → Type 0) (S : X → V → Type 0) (g : Y → V) → ((x : X) (y : Y) → R x y → S x (g y))
    → (xs : List X) (ys : List Y) → Placed R xs ys → Placed S xs (map g ys)
placed_onto R S g each [] ys h = tt
placed_onto R S g each (x ∷ xs) ys h = (g h.0, map g h.1, takes_map g h.2, each x h.0 h.3, placed_onto R S g each xs h.1 h.4)

pub placed_from : {X Y U : Type 0} (R : X → Y → Type 0) (S : U → Y → Type 0) (f : X → U) → ((x : X) (y : Y) → R x y → S (f x) y)
    → (xs : List X) (ys : List Y) → Placed R xs ys → Placed S (map f xs) ys
placed_from R S f each [] ys h = tt
placed_from R S f each (x ∷ xs) ys h = (h.0, h.1, h.2, each x h.0 h.3, placed_from R S f each xs h.1 h.4)

-- what a function gives of an element that is taken out, and of the rest
taken_flat_map : {Y V : Type 0} (g : Y → List V) {y : Y} {ys rest : List Y} → Takes y ys rest → PartOf (g y ++ flat_map g rest) (flat_map g ys)
taken_flat_map g (here {x = y} {xs = ys}) = part_whole (g y ++ flat_map g ys)
taken_flat_map {Y} {V} g (later {x = y} {y = w} {xs = ys} {rest = rest} t) =
    part_part (g y ++ (g w ++ flat_map g rest)) (g w ++ (g y ++ flat_map g rest)) (g w ++ flat_map g ys)
    (part_swap (g y) (g w) (flat_map g rest))
    (placed_append (λ (a b : V). a ≡ b) (g w) (g y ++ flat_map g rest) (g w) (flat_map g ys) (part_whole (g w)) (taken_flat_map g t))

pub placed_flat_map : {X Y U V : Type 0} (R : X → Y → Type 0) (S : U → V → Type 0) (f : X → List U) (g : Y → List V) → ((x : X) (y : Y) → R x y → Placed S (f x) (g y))
    → (xs : List X) (ys : List Y) → Placed R xs ys → Placed S (flat_map f xs) (flat_map g ys)
placed_flat_map R S f g each [] ys h = tt
placed_flat_map R S f g each (x ∷ xs) ys h =
    places_part S (f x ++ flat_map f xs) (g h.0 ++ flat_map g h.1) (flat_map g ys)
    (placed_append S (f x) (flat_map f xs) (g h.0) (flat_map g h.1) (each x h.0 h.3) (placed_flat_map R S f g each xs h.1 h.4))
    (taken_flat_map g h.2)

-- what a function gives of each element, each time with one element more behind it: those elements may stand behind all
pub part_last : {Y V : Type 0} (g : Y → List V) (last : Y → V) (ys : List Y) → PartOf (flat_map (λ y. g y ++ last y ∷ []) ys) (flat_map g ys ++ map last ys)
part_last g last [] = tt
part_last {Y} {V} g last (y ∷ ys) =
    let with_last : Y → List V = λ z. g z ++ last z ∷ [] in
    let each = flat_map with_last ys in
    let rest = flat_map g ys ++ map last ys in
    part_part ((g y ++ last y ∷ []) ++ each) ((g y ++ last y ∷ []) ++ rest) ((g y ++ flat_map g ys) ++ (last y ∷ map last ys))
    (placed_append (λ (a b : V). a ≡ b) (g y ++ last y ∷ []) each (g y ++ last y ∷ []) rest (part_whole (g y ++ last y ∷ [])) (part_last g last ys))
    (part_middle (g y) (last y ∷ []) (flat_map g ys) (map last ys))

-- Filtered lists.

-- what is kept is placed in what is kept, where the element of each kept one is kept
pub placed_filter : {X Y : Type 0} (R : X → Y → Type 0) (p : X → Bool) (q : Y → Bool) → ((x : X) (y : Y) → R x y → p x ≡ true → q y ≡ true)
    → (xs : List X) (ys : List Y) → Placed R xs ys → Placed R (filter p xs) (filter q ys)
placed_filter R p q each [] ys h = tt
placed_filter R p q each (x ∷ xs) ys h =
    let rest = placed_filter R p q each xs h.1 h.4 in
    elim (cases_Bool (p x)) [
      | inl kept ↦ rw kept (h.0, filter q h.1, takes_kept q h.2 (each x h.0 h.3 kept), h.3, rest)
      | inr left ↦ rw left (elim (cases_Bool (q h.0)) [
        | inl some ↦ placed_more R (filter p xs) (takes_kept q h.2 some) rest
        | inr none ↦ let same = takes_dropped q h.2 none in rw same rest
      ])
    ]

-- what holds of all elements of the second list holds of those in which the first is placed
pub placed_all : {X Y : Type 0} (R : X → Y → Type 0) (q : Y → Bool) (xs : List X) (ys : List Y) → list_all q ys ≡ true → Placed R xs ys → Placed (λ x y. R x y × (q y ≡ true)) xs ys
placed_all R q [] ys all h = tt
placed_all R q (x ∷ xs) ys all h = let one = takes_all q h.2 all in (h.0, h.1, h.2, (h.3, one.0), placed_all R q xs h.1 one.1 h.4)

pub part_filtered : {X : Type 0} (p : X → Bool) (xs : List X) → PartOf (filter p xs) xs
part_filtered p [] = tt
part_filtered {X} p (x ∷ xs) =
    elim (cases_Bool (p x)) [
      | inl kept ↦ rw kept (x, xs, here, refl, part_filtered p xs)
      | inr left ↦ rw left (placed_more (λ (a b : X). a ≡ b) (filter p xs) here (part_filtered p xs))
    ]

-- What stands in a list to which another is related.

pub placed_in : {X Y : Type 0} (R : X → Y → Type 0) (x : X) (xs : List X) (ys : List Y) → Placed R xs ys → In x xs → (y : Y) × In y ys × R x y
placed_in R x [] ys h i = absurd i
placed_in {X} R x (z ∷ xs) ys h (inl e) = (h.0, takes_in h.2, subst (λ (w : X). R w h.0) (sym e) h.3)
placed_in R x (z ∷ xs) ys h (inr i) = let one = placed_in R x xs h.1 h.4 i in (one.0, rest_in one.0 h.2 one.1, one.2)

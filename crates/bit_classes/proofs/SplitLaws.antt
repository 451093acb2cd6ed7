-- The first of what is left to see, and the rest.
use Rattle.std.proofs.Common.{◌≡◌, refl, sym, ap, ◌∙◌, subst, ℕ, suc, ◌+◌, ◌<◌, ◌≤◌, Bool, ◌&&◌, ◌||◌, true, false, if◌then◌else◌, Option, Some, None, List, [], ◌∷◌, ◌++◌, length, get_or, map, drop, arith, length-append}
use Rattle.std.specs.List.{All, enumerate_from}
use Rattle.std.specs.Option.{IfSome}
use Rattle.std.proofs.lemmas.List.{drop_more, drop_all, length-map}
use Rattle.std.proofs.lemmas.List.Elements.{All-map, All-weaker, All-nil, All-cons, All-head, All-tail}
use Rattle.std.proofs.lemmas.Simd.{length-zip2}
use Rattle.predicate_core.specs.Counts.{pair_count}
use Rattle.bit_classes.specs.declared.join.Join.{Join}
use Rattle.bit_classes.specs.declared.join.Join.TheVariants.{And, Or}
use Rattle.bit_classes.specs.declared.class.Class.{Class}
use Rattle.bit_classes.specs.Vectors.{combined}
use Rattle.bit_classes.specs.Walk.{HasWidth, SameWidth, combined_told, combined_passing, if_passing, sifted, is_known, with_vector, numbered, new_vectors, if_new, with_told, told_later, new_pairs, told_under, classes_under, told_triples}

pub add_more : (n i : ℕ) → n + i + 1 ≡ n + (i + 1)
add_more n i = omega arith

-- numbered elements
pub numbered_split : {X : Type 0} (xs : List X) (n i : ℕ) (x : X) → i < length xs → x ≡ get_or xs i x → enumerate_from (n + i) (drop i xs) ≡ ((n + i, x) ∷ []) ++ enumerate_from (n + (i + 1)) (drop (i + 1) xs)
numbered_split xs n i x below is =
    ap (enumerate_from (n + i)) (drop_more xs i x below)
    ∙ ap (λ y. (n + i, y) ∷ enumerate_from (n + i + 1) (drop (i + 1) xs)) (sym is)
    ∙ ap (λ m. (n + i, x) ∷ enumerate_from m (drop (i + 1) xs)) (add_more n i)

pub numbered_end : {X : Type 0} (xs : List X) (n i : ℕ) → length xs ≤ i → enumerate_from n (drop i xs) ≡ []
numbered_end xs n i past = ap (enumerate_from n) (drop_all i xs past)

-- the first of the vectors that may be new
pub new_split : (classes after : List Class) (rows : List (List Bool)) (n i : ℕ) (row : List Bool) → i < length rows → row ≡ get_or rows i row → after ≡ with_vector classes (n + i, row)
    → new_vectors classes (n + i) (drop i rows) ≡ (if is_known classes row then None else Some row) ∷ new_vectors after (n + (i + 1)) (drop (i + 1) rows)
new_split classes after rows n i row below is seen =
    ap (new_vectors classes (n + i)) (drop_more rows i row below ∙ ap (λ y. y ∷ drop (i + 1) rows) (sym is))
    ∙ (λ k. (if is_known classes row then None else Some row) ∷ new_vectors (sym seen k) (add_more n i k) (drop (i + 1) rows))

pub new_end : (classes : List Class) (rows : List (List Bool)) (n i : ℕ) → length rows ≤ i → new_vectors classes n (drop i rows) ≡ []
new_end classes rows n i past = ap (new_vectors classes n) (drop_all i rows past)

-- vectors of one length keep it
pub joined_length : (join : Join) (xs ys : List Bool) → length xs ≡ length ys → length (combined join xs ys) ≡ length xs
joined_length And xs ys same = length-zip2 (λ x y. x && y) xs ys same
joined_length Or xs ys same = length-zip2 (λ x y. x || y) xs ys same

-- vectors that are told, in two parts
one_more : (n m k : ℕ) → m ≡ n + (k + 1) → m ≡ n + 1 + k
one_more n m k e = omega (arith, e)

pub numbered_parts : (n m : ℕ) (xs ys : List (Option (List Bool))) → m ≡ n + length xs → numbered n (xs ++ ys) ≡ numbered n xs ++ numbered m ys
numbered_parts n m [] ys long = ap (λ k. numbered k ys) (omega (arith, long))
numbered_parts n m (None ∷ xs) ys long = numbered_parts (n + 1) m xs ys (omega (arith, long))
numbered_parts n m (Some v ∷ xs) ys long = ap (λ es. (n, v) ∷ es) (numbered_parts (n + 1) m xs ys (omega (arith, long)))

parted : (n m : ℕ) (ys part rest : List (Option (List Bool))) → ys ≡ part ++ rest → m ≡ n + length part → numbered n ys ≡ numbered n part ++ numbered m rest
parted n m ys part rest split long = ap (numbered n) split ∙ numbered_parts n m part rest long

pub map-map : {X Y Z : Type 0} (g : Y → Z) (f : X → Y) (xs : List X) → map g (map f xs) ≡ map (λ x. g (f x)) xs
map-map g f [] = refl
map-map g f (x ∷ xs) = ap (λ t. g (f x) ∷ t) (map-map g f xs)

-- told elements under a function
pub mapped_split : {X : Type 0} (f : X → Option (List Bool)) (xs : List X) (n m i : ℕ) (x : X) → i < length xs → x ≡ get_or xs i x → m ≡ n + 1
    → numbered n (map f (drop i xs)) ≡ numbered n (f x ∷ []) ++ numbered m (map f (drop (i + 1) xs))
mapped_split f xs n m i x below is next =
    parted n m (map f (drop i xs)) (f x ∷ []) (map f (drop (i + 1) xs)) (ap (map f) (drop_more xs i x below ∙ ap (λ y. y ∷ drop (i + 1) xs) (sym is))) next

pub mapped_end : {X : Type 0} (f : X → Option (List Bool)) (xs : List X) (n i : ℕ) → length xs ≤ i → numbered n (map f (drop i xs)) ≡ []
mapped_end f xs n i past = ap (λ ys. numbered n (map f ys)) (drop_all i xs past)

-- the vectors of the first of what is left come first, and then those of the rest
pub later_split : (join : Join) (firsts xs : List (Option (List Bool))) (n m i : ℕ) (b : Option (List Bool)) → i < length firsts → i < length xs → b ≡ get_or firsts i b → m ≡ n + length (drop (i + 1) xs)
    → numbered n (told_later join (drop i firsts) (drop i xs)) ≡ numbered n (map (combined_told join b) (drop (i + 1) xs)) ++ numbered m (told_later join (drop (i + 1) firsts) (drop (i + 1) xs))
later_split join firsts xs n m i b beside below is next =
    let rest = drop (i + 1) xs in
    let left = drop (i + 1) firsts in
    let f : Option (List Bool) → Option (List Bool) = combined_told join b in
    let here : drop i firsts ≡ b ∷ left = drop_more firsts i b beside ∙ ap (λ y. y ∷ left) (sym is) in
    let split : told_later join (drop i firsts) (drop i xs) ≡ map f rest ++ told_later join left rest = ap (λ bs. told_later join bs (drop i xs)) here ∙ ap (told_later join (b ∷ left)) (drop_more xs i b below) in
    parted n m (told_later join (drop i firsts) (drop i xs)) (map f rest) (told_later join left rest) split (next ∙ ap (λ k. n + k) (sym (length-map rest f)))

later_none : (join : Join) (firsts : List (Option (List Bool))) → told_later join firsts [] ≡ []
later_none join [] = refl
later_none join (b ∷ bs) = refl

pub later_end : (join : Join) (firsts xs : List (Option (List Bool))) (n i : ℕ) → length xs ≤ i → numbered n (told_later join (drop i firsts) (drop i xs)) ≡ []
later_end join firsts xs n i past = ap (λ ys. numbered n (told_later join (drop i firsts) ys)) (drop_all i xs past) ∙ ap (numbered n) (later_none join (drop i firsts))

pub length-told_later : (join : Join) (firsts xs : List (Option (List Bool))) → length firsts ≡ length xs → length (told_later join firsts xs) ≡ pair_count (length xs)
length-told_later join [] [] same = refl
length-told_later join [] (x ∷ xs) same = absurd (omega (arith, same))
length-told_later join (b ∷ bs) [] same = absurd (omega (arith, same))
length-told_later join (b ∷ bs) (x ∷ xs) same =
    let f : Option (List Bool) → Option (List Bool) = combined_told join b in
    length-append (map f xs) (told_later join bs xs) ∙ rw (length-map xs f, length-told_later join bs xs (omega (arith, same))) refl

-- a first vector combined with each of what is left: with the first of these, and then the rest
pub new_pairs_split : (test : List Bool → Bool) (join : Join) (classes after : List Class) (first : Option (List Bool)) (xs : List (Option (List Bool))) (i : ℕ) (x : Option (List Bool)) → i < length xs → x ≡ get_or xs i x → after ≡ with_told classes (combined_passing test join first x)
    → new_pairs test join classes first (drop i xs) ≡ if_new classes (combined_passing test join first x) ∷ new_pairs test join after first (drop (i + 1) xs)
new_pairs_split test join classes after first xs i x below is seen =
    let rest = drop (i + 1) xs in
    ap (new_pairs test join classes first) (drop_more xs i x below ∙ ap (λ y. y ∷ rest) (sym is)) ∙ ap (λ cs. if_new classes (combined_passing test join first x) ∷ new_pairs test join cs first rest) (sym seen)

pub new_pairs_end : (test : List Bool → Bool) (join : Join) (classes : List Class) (first : Option (List Bool)) (xs : List (Option (List Bool))) (i : ℕ) → length xs ≤ i → new_pairs test join classes first (drop i xs) ≡ []
new_pairs_end test join classes first xs i past = ap (new_pairs test join classes first) (drop_all i xs past)

pub classes_split : (test : List Bool → Bool) (join : Join) (classes after : List Class) (first : Option (List Bool)) (xs : List (Option (List Bool))) (i : ℕ) (x : Option (List Bool)) → i < length xs → x ≡ get_or xs i x → after ≡ with_told classes (combined_passing test join first x)
    → classes_under test join classes first (drop i xs) ≡ classes_under test join after first (drop (i + 1) xs)
classes_split test join classes after first xs i x below is seen =
    let rest = drop (i + 1) xs in
    ap (classes_under test join classes first) (drop_more xs i x below ∙ ap (λ y. y ∷ rest) (sym is)) ∙ ap (λ cs. classes_under test join cs first rest) (sym seen)

pub classes_end : (test : List Bool → Bool) (join : Join) (classes : List Class) (first : Option (List Bool)) (xs : List (Option (List Bool))) (i : ℕ) → length xs ≤ i → classes_under test join classes first (drop i xs) ≡ classes
classes_end test join classes first xs i past = ap (classes_under test join classes first) (drop_all i xs past)

pub length-new_pairs : (test : List Bool → Bool) (join : Join) (classes : List Class) (first : Option (List Bool)) (xs : List (Option (List Bool))) → length (new_pairs test join classes first xs) ≡ length xs
length-new_pairs test join classes first [] = refl
length-new_pairs test join classes first (x ∷ xs) = ap suc (length-new_pairs test join (with_told classes (combined_passing test join first x)) first xs)

pub length-told_under : (test : List Bool → Bool) (join : Join) (classes : List Class) (first : Option (List Bool)) (xs : List (Option (List Bool))) → length (told_under test join classes first xs) ≡ pair_count (length xs)
length-told_under test join classes first xs = length-told_later join (new_pairs test join classes first xs) xs (length-new_pairs test join classes first xs)

-- the triples of the first of what is left come first, and then those of the rest
pub triples_split : (test : List Bool → Bool) (join : Join) (classes after : List Class) (xs : List (Option (List Bool))) (n m i : ℕ) (x : Option (List Bool)) → i < length xs → x ≡ get_or xs i x → m ≡ n + pair_count (length (drop (i + 1) xs))
    → after ≡ classes_under test join classes x (drop (i + 1) xs)
    → numbered n (told_triples test join classes (drop i xs)) ≡ numbered n (told_under test join classes x (drop (i + 1) xs)) ++ numbered m (told_triples test join after (drop (i + 1) xs))
triples_split test join classes after xs n m i x below is next seen =
    let rest = drop (i + 1) xs in
    let here : drop i xs ≡ x ∷ rest = drop_more xs i x below ∙ ap (λ y. y ∷ rest) (sym is) in
    let split = ap (told_triples test join classes) here ∙ ap (λ cs. told_under test join classes x rest ++ told_triples test join cs rest) (sym seen) in
    parted n m (told_triples test join classes (drop i xs)) (told_under test join classes x rest) (told_triples test join after rest) split (next ∙ ap (λ k. n + k) (sym (length-told_under test join classes x rest)))

pub triples_end : (test : List Bool → Bool) (join : Join) (classes : List Class) (xs : List (Option (List Bool))) (n i : ℕ) → length xs ≤ i → numbered n (told_triples test join classes (drop i xs)) ≡ []
triples_end test join classes xs n i past = ap (λ ys. numbered n (told_triples test join classes ys)) (drop_all i xs past)

-- widths of what is told
pub same_width : (width : ℕ) (row : List Bool) (told : Option (List Bool)) → length row ≡ width → HasWidth width told → IfSome told (λ v. length row ≡ length v)
same_width width row None is has = tt
same_width width row (Some v) is has = is ∙ sym has

pub HasWidth-read : (width : ℕ) (tolds : List (Option (List Bool))) (i : ℕ) (told : Option (List Bool)) → told ≡ get_or tolds i told → i < length tolds → All (HasWidth width) tolds → HasWidth width told
HasWidth-read width tolds i told is below all = subst (HasWidth width) (sym is) (all i told below)

pub HasWidth-join : (join : Join) (width : ℕ) (a b : Option (List Bool)) → HasWidth width a → HasWidth width b → HasWidth width (combined_told join a b)
HasWidth-join join width None b is has = tt
HasWidth-join join width (Some row) None is has = tt
HasWidth-join join width (Some row) (Some v) is has = joined_length join row v (is ∙ sym has) ∙ is

-- a vector that is told has a width still where one of two tests keeps it
kept_width : (width : ℕ) (v : List Bool) (b c : Bool) → length v ≡ width → HasWidth width (if b then (if c then None else Some v) else None)
kept_width width v true true has = tt
kept_width width v true false has = has
kept_width width v false c has = tt

pub HasWidth-passing : (width : ℕ) (test : List Bool → Bool) (told : Option (List Bool)) → HasWidth width told → HasWidth width (if_passing test told)
HasWidth-passing width test None has = tt
HasWidth-passing width test (Some v) has = kept_width width v (test v) false has

pub HasWidth-new : (width : ℕ) (classes : List Class) (told : Option (List Bool)) → HasWidth width told → HasWidth width (if_new classes told)
HasWidth-new width classes None has = tt
HasWidth-new width classes (Some v) has = kept_width width v true (is_known classes v) has

pub sifted_widths : (width : ℕ) (test : List Bool → Bool) (rows : List (Option (List Bool))) → All (HasWidth width) rows → All (HasWidth width) (sifted test rows)
sifted_widths width test rows wide = All-map (HasWidth width) (if_passing test) rows (All-weaker (HasWidth width) (λ u. HasWidth width (if_passing test u)) (HasWidth-passing width test) rows wide)

pub new_pairs_widths : (test : List Bool → Bool) (join : Join) (width : ℕ) (classes : List Class) (first : Option (List Bool)) (rows : List (Option (List Bool))) → HasWidth width first → All (HasWidth width) rows
    → All (HasWidth width) (new_pairs test join classes first rows)
new_pairs_widths test join width classes first [] is wide = All-nil (HasWidth width)
new_pairs_widths test join width classes first (m ∷ ms) is wide =
    let both = combined_passing test join first m in
    let has = HasWidth-new width classes both (HasWidth-passing width test (combined_told join first m) (HasWidth-join join width first m is (All-head (HasWidth width) m ms wide))) in
    let after = with_told classes both in
    All-cons (HasWidth width) (if_new classes both) (new_pairs test join after first ms) has (new_pairs_widths test join width after first ms is (All-tail (HasWidth width) m ms wide))

one_width : (width : ℕ) (first other : Option (List Bool)) → HasWidth width first → HasWidth width other → SameWidth first other
one_width width None other is has = tt
one_width width (Some v) other is has = same_width width v other is has

pub same_widths : (width : ℕ) (first : Option (List Bool)) (rows : List (Option (List Bool))) → HasWidth width first → All (HasWidth width) rows → All (SameWidth first) rows
same_widths width first rows is wide = All-weaker (HasWidth width) (SameWidth first) (λ u has. one_width width first u is has) rows wide

-- where nothing is told, nothing is seen
pub none_numbered : {X : Type 0} (f : X → Option (List Bool)) → ((x : X) → f x ≡ None) → (n : ℕ) (xs : List X) → numbered n (map f xs) ≡ []
none_numbered f none n [] = refl
none_numbered f none n (x ∷ xs) = ap (λ u. numbered n (u ∷ map f xs)) (none x) ∙ none_numbered f none (n + 1) xs

pub none_joined : (join : Join) (told : Option (List Bool)) (other : Option (List Bool)) → told ≡ None → combined_told join told other ≡ None
none_joined join told other is = ap (λ u. combined_told join u other) is

-- numbered elements, in two parts
pub enumerated_parts : {X : Type 0} (n m : ℕ) (xs ys : List X) → m ≡ n + length xs → enumerate_from n (xs ++ ys) ≡ enumerate_from n xs ++ enumerate_from m ys
enumerated_parts n m [] ys long = ap (λ k. enumerate_from k ys) (omega (arith, long))
enumerated_parts n m (x ∷ xs) ys long = ap (λ es. (n, x) ∷ es) (enumerated_parts (n + 1) m xs ys (omega (arith, long)))

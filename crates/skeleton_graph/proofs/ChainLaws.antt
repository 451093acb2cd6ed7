-- The chains of linked nodes have the uses of each node.
use Rattle.std.proofs.Common.{◌≡◌, ◌≢◌, ℕ, zero, suc, ◌+◌, ◌*◌, ◌/◌, ◌%◌, ◌<◌, ◌≤◌, true, false, ◌==◌, ◌⊎◌, inl, inr, List, [], ◌∷◌, ◌++◌, map, length, Option, Some, None, option_map, refl, sym, ap, ◌∙◌, arith, append_assoc, length-append, if◌then◌else◌}
use Rattle.std.specs.Prelude.{slice_get, slice_set, option_and_then}
use Rattle.std.proofs.lemmas.Bool.Decides.{eqb_tells}
use Rattle.std.proofs.lemmas.Option.{slice_get-map, slice_get-get_or, slice_get_past}
use Rattle.std.proofs.lemmas.List.{length-map, map-append, append-nil, get_or-set_same, get_or-set_other, length-set}
use Rattle.skeleton_graph.specs.declared.node.Kind.{Kind}
use Rattle.skeleton_graph.specs.declared.node.SkelNode.{SkelNode}
use Rattle.skeleton_graph.specs.declared.part.Part.{Part}
use Rattle.skeleton_graph.specs.Nodes.{first_use_of, next_use, follow, chain_from, use_as, uses_from, uses_of}
use Rattle.skeleton_graph.specs.Links.{with_use_at, newest_use, with_use, left_used, linked, linked_all}
use Rattle.skeleton_graph.specs.GraphData.{Descends}
use Rattle.skeleton_graph.proofs.BoundLaws.{Below, PartBelow, PartsFirst}
use Rattle.skeleton_graph.proofs.LinkLaws.{with_use_keeps, shape, part_shape, shape_keeps, shape_linked}

-- a chain of uses, where each tells of the next older one
abbrev pub Chain : (ℕ → Option ℕ) → Option ℕ → List ℕ → Type 0
Chain older None [] = Unit {0}
Chain older None (u ∷ us) = ⊥
Chain older (Some n) [] = ⊥
Chain older (Some n) (u ∷ us) = (n ≡ u) × Chain older (older u) us

-- a chain stays one where what its uses tell of stays the same
chain_kept : (older newer : ℕ → Option ℕ) (bound : ℕ) → ((v : ℕ) → Below v (older v)) → ((v : ℕ) → v < bound → newer v ≡ older v)
    → (from : Option ℕ) (us : List ℕ) → Below bound from → Chain older from us → Chain newer from us
chain_kept older newer bound lower same None [] b ch = tt
chain_kept older newer bound lower same None (u ∷ us) b ch = absurd ch
chain_kept older newer bound lower same (Some n) [] b ch = absurd ch
chain_kept older newer bound lower same (Some n) (u ∷ us) b ch =
    let under : u < bound = omega (arith, b, ch.0) in
    (ch.0, rw (same u under) (chain_kept older newer bound lower same (older u) us (within (older u) (lower u) under) ch.1))
  where
    within : {u : ℕ} (o : Option ℕ) → Below u o → u < bound → Below bound o
    within None p q = tt
    within (Some m) p q = omega (arith, p, q)

-- the newest use of a node, where a child is used
abbrev taken : Option ℕ → ℕ → Option ℕ → ℕ → Option ℕ
taken None use_number before k = before
taken (Some child) use_number before k = if child == k then Some use_number else before

-- the newest use of a child
abbrev newest : (ℕ → Option ℕ) → Option ℕ → Option ℕ
newest firsts None = None
newest firsts (Some child) = firsts child

-- a new use begins the chain of its child
chain_taken : (older : ℕ → Option ℕ) (firsts : ℕ → Option ℕ) (child : Option ℕ) (use_number k : ℕ) (us : List ℕ)
    → older use_number ≡ newest firsts child → Chain older (firsts k) us → Chain older (taken child use_number (firsts k) k) (use_as use_number child k ++ us)
chain_taken older firsts None use_number k us is ch = ch
chain_taken older firsts (Some child) use_number k us is ch = by_test (eqb_tells child k)
  where
    by_test : (((child == k) ≡ true) × (child ≡ k)) ⊎ (((child == k) ≡ false) × (child ≢ k)) → Chain older (taken (Some child) use_number (firsts k) k) (use_as use_number (Some child) k ++ us)
    by_test (inl p) = let next : older use_number ≡ firsts k = is ∙ ap firsts p.1 in rw p.0 (refl, rw next ch)
    by_test (inr p) = rw p.0 ch

taken_below : (child : Option ℕ) (use_number k : ℕ) (before : Option ℕ) → Below use_number before → Below (use_number + 1) (taken child use_number before k)
taken_below None use_number k None b = tt
taken_below None use_number k (Some m) b = omega (arith, b)
taken_below (Some child) use_number k before b = by_test (eqb_tells child k) before b
  where
    by_test : (((child == k) ≡ true) × (child ≡ k)) ⊎ (((child == k) ≡ false) × (child ≢ k)) → (o : Option ℕ) → Below use_number o → Below (use_number + 1) (taken (Some child) use_number o k)
    by_test (inl p) o q = rw p.0 (omega arith)
    by_test (inr p) None q = rw p.0 tt
    by_test (inr p) (Some m) q = rw p.0 (omega (arith, q))

-- elements of lists
pub get_left : {A : Type 0} (xs ys : List A) (i : ℕ) → i < length xs → slice_get (xs ++ ys) i ≡ slice_get xs i
get_left [] ys i below = absurd (let no : ⊥ = omega (arith, below) in no)
get_left (x ∷ xs) ys zero below = refl
get_left (x ∷ xs) ys (suc i) below = get_left xs ys i (omega (arith, below))

get_some : {A : Type 0} (xs : List A) (i : ℕ) → i < length xs → slice_get xs i ≡ None → ⊥
get_some [] i below is = omega (arith, below)
get_some {A} (x ∷ xs) zero below is = let same : ◌≡◌ {A = Option A} (Some x) None = is in cc
get_some (x ∷ xs) (suc i) below is = get_some xs i (omega (arith, below)) is

get_seam : {A : Type 0} (xs : List A) (y : A) → slice_get (xs ++ y ∷ []) (length xs) ≡ Some y
get_seam [] y = refl
get_seam (x ∷ xs) y = get_seam xs y

get_set_same : {A : Type 0} (xs : List A) (i : ℕ) (y : A) → i < length xs → slice_get (slice_set xs i y) i ≡ Some y
get_set_same xs i y below =
    let size : length (slice_set xs i y) ≡ length xs = length-set xs i y in
    slice_get-get_or (slice_set xs i y) i y (omega (arith, size, below)) ∙ ap Some (get_or-set_same xs i y y below)

get_set_other : {A : Type 0} (xs : List A) (i j : ℕ) (y : A) → j ≢ i → slice_get (slice_set xs i y) j ≡ slice_get xs j
get_set_other xs i j y apart = by_size (at_or_past j (length xs))
  where
    at_or_past : (a b : ℕ) → (a < b) ⊎ (b ≤ a)
    at_or_past a b = grind arith

    size : length (slice_set xs i y) ≡ length xs
    size = length-set xs i y

    by_size : (j < length xs) ⊎ (length xs ≤ j) → slice_get (slice_set xs i y) j ≡ slice_get xs j
    by_size (inl p) = slice_get-get_or (slice_set xs i y) j y (omega (arith, size, p)) ∙ ap Some (get_or-set_other xs i j y y apart) ∙ sym (slice_get-get_or xs j y p)
    by_size (inr p) = slice_get_past (slice_set xs i y) j (omega (arith, size, p)) ∙ sym (slice_get_past xs j p)

-- the newest uses after a child is used
first_taken : (nodes : List SkelNode) (child : Option ℕ) (use_number k : ℕ) → Below (length nodes) child → first_use_of (with_use nodes child use_number) k ≡ taken child use_number (first_use_of nodes k) k
first_taken nodes None use_number k below = refl
first_taken nodes (Some child) use_number k below = found (slice_get nodes child) refl
  where
    found : (o : Option SkelNode) → slice_get nodes child ≡ o → first_use_of (with_use_at nodes child use_number o) k ≡ taken (Some child) use_number (first_use_of nodes k) k
    found None is = absurd (get_some nodes child below is)
    found (Some node) is = by_test (eqb_tells child k)
      where
        by_test : (((child == k) ≡ true) × (child ≡ k)) ⊎ (((child == k) ≡ false) × (child ≢ k)) → first_use_of (slice_set nodes child (record node { first_use = Some use_number })) k ≡ taken (Some child) use_number (first_use_of nodes k) k
        by_test (inl p) =
            rw p.0 (ap (λ j. first_use_of (slice_set nodes child (record node { first_use = Some use_number })) j) (sym p.1)
            ∙ ap (option_and_then (λ n. n.first_use)) (get_set_same nodes child (record node { first_use = Some use_number }) below))
        by_test (inr p) = rw p.0 (ap (option_and_then (λ n. n.first_use)) (get_set_other nodes child k (record node { first_use = Some use_number }) (λ e. p.1 (sym e))))

-- what a node tells of older uses
abbrev Links : Type 0
Links = Option ℕ × Option ℕ

abbrev links : SkelNode → Links
links node = (node.next_left, node.next_right)

links_keep : (node : SkelNode) (use_number : ℕ) → links (record node { first_use = Some use_number }) ≡ links node
links_keep node use_number = refl

abbrev pick : ℕ → Links → Option ℕ
pick use_number l = if use_number % 2 == 0 then l.0 else l.1

abbrev link_at : List Links → ℕ → Option ℕ
link_at ls use_number = option_and_then (pick use_number) (slice_get ls (use_number / 2))

picked : (use_number : ℕ) (o : Option SkelNode) → option_and_then (λ node. if use_number % 2 == 0 then node.next_left else node.next_right) o ≡ option_and_then (pick use_number) (option_map links o)
picked use_number None = refl
picked use_number (Some node) = refl

next_is_link : (nodes : List SkelNode) (use_number : ℕ) → next_use nodes use_number ≡ link_at (map links nodes) use_number
next_is_link nodes use_number = picked use_number (slice_get nodes (use_number / 2)) ∙ ap (option_and_then (pick use_number)) (sym (slice_get-map links nodes (use_number / 2)))

-- the links of linked nodes
linked_links : (nodes : List SkelNode) (part : Part) → map links (linked nodes part) ≡ map links nodes ++ (newest_use nodes part.left, newest_use (left_used nodes part) part.right) ∷ []
linked_links nodes part =
    map-append links (with_use (left_used nodes part) part.right (2 * length nodes + 1)) _
    ∙ ap (λ l. l ++ (newest_use nodes part.left, newest_use (left_used nodes part) part.right) ∷ [])
    (with_use_keeps links links_keep (left_used nodes part) part.right (2 * length nodes + 1) ∙ with_use_keeps links links_keep nodes part.left (2 * length nodes))

link_before : (ls : List Links) (l : Links) (use_number : ℕ) → use_number < 2 * length ls → link_at (ls ++ l ∷ []) use_number ≡ link_at ls use_number
link_before ls l use_number below = ap (option_and_then (pick use_number)) (get_left ls (l ∷ []) (use_number / 2) (omega (arith, below)))

link_left : (ls : List Links) (l : Links) (n : ℕ) → n ≡ length ls → link_at (ls ++ l ∷ []) (2 * n) ≡ l.0
link_left ls l n is =
    let half : (2 * n) / 2 ≡ length ls = omega (arith, is) in
    let side : (2 * n) % 2 ≡ 0 = omega arith in
    ap (λ i. option_and_then (pick (2 * n)) (slice_get (ls ++ l ∷ []) i)) half ∙ ap (option_and_then (pick (2 * n))) (get_seam ls l) ∙ ap (λ s. if s == 0 then l.0 else l.1) side

link_right : (ls : List Links) (l : Links) (n : ℕ) → n ≡ length ls → link_at (ls ++ l ∷ []) (2 * n + 1) ≡ l.1
link_right ls l n is =
    let half : (2 * n + 1) / 2 ≡ length ls = omega (arith, is) in
    let side : (2 * n + 1) % 2 ≡ 1 = omega arith in
    ap (λ i. option_and_then (pick (2 * n + 1)) (slice_get (ls ++ l ∷ []) i)) half ∙ ap (option_and_then (pick (2 * n + 1))) (get_seam ls l) ∙ ap (λ s. if s == 0 then l.0 else l.1) side

link_past : (ls : List Links) (l : Links) (use_number : ℕ) → 2 * length ls + 2 ≤ use_number → link_at (ls ++ l ∷ []) use_number ≡ None
link_past ls l use_number past =
    let size : length (ls ++ l ∷ []) ≡ length ls + 1 = length-append ls (l ∷ []) in
    ap (option_and_then (pick use_number)) (slice_get_past (ls ++ l ∷ []) (use_number / 2) (omega (arith, size, past)))

-- the uses by a list of shapes
abbrev Shape : Type 0
Shape = Kind × Option ℕ × Option ℕ

shape_uses : ℕ → List Shape → ℕ → List ℕ
shape_uses user [] k = []
shape_uses user (s ∷ shapes) k = shape_uses (user + 1) shapes k ++ (use_as (2 * user + 1) s.2 k ++ use_as (2 * user) s.1 k)

uses_by_shape : (user : ℕ) (nodes : List SkelNode) (k : ℕ) → uses_from user nodes k ≡ shape_uses user (map shape nodes) k
unfolding shape_uses
uses_by_shape user [] k = refl
uses_by_shape user (n ∷ nodes) k = ap (λ l. l ++ (use_as (2 * user + 1) n.right k ++ use_as (2 * user) n.left k)) (uses_by_shape (user + 1) nodes k)

shape_uses-append : (user n : ℕ) (shapes : List Shape) (s : Shape) (k : ℕ) → n ≡ user + length shapes → shape_uses user (shapes ++ s ∷ []) k ≡ (use_as (2 * n + 1) s.2 k ++ use_as (2 * n) s.1 k) ++ shape_uses user shapes k
unfolding shape_uses
shape_uses-append user n [] s k is = let same : n ≡ user = omega (arith, is) in rw same (sym (append-nil _))
shape_uses-append user n (h ∷ shapes) s k is =
    let here = use_as (2 * user + 1) h.2 k ++ use_as (2 * user) h.1 k in
    ap (λ l. l ++ here) (shape_uses-append (user + 1) n shapes s k (omega (arith, is)))
    ∙ append_assoc (use_as (2 * n + 1) s.2 k ++ use_as (2 * n) s.1 k) (shape_uses (user + 1) shapes k) here

linked_uses : (nodes : List SkelNode) (part : Part) (k : ℕ)
    → uses_of (linked nodes part) k ≡ use_as (2 * length nodes + 1) part.right k ++ (use_as (2 * length nodes) part.left k ++ uses_of nodes k)
linked_uses nodes part k =
    let n = length nodes in
    uses_by_shape 0 (linked nodes part) k
    ∙ ap (λ l. shape_uses 0 l k) (shape_linked nodes part)
    ∙ shape_uses-append 0 n (map shape nodes) (part_shape part) k (let size = length-map nodes shape in omega (arith, size))
    ∙ ap (λ l. (use_as (2 * n + 1) part.right k ++ use_as (2 * n) part.left k) ++ l) (sym (uses_by_shape 0 nodes k))
    ∙ append_assoc (use_as (2 * n + 1) part.right k) (use_as (2 * n) part.left k) (uses_of nodes k)

-- what holds of linked nodes
pub record Exact (nodes : List SkelNode) : Type 0 where
  pub lower : (v : ℕ) → Below v (next_use nodes v)
  pub firsts : (k : ℕ) → Below (2 * length nodes) (first_use_of nodes k)
  pub chains : (k : ℕ) → Chain (next_use nodes) (first_use_of nodes k) (uses_of nodes k)

first_of_new : (nodes : List SkelNode) (new : SkelNode) (k : ℕ) → new.first_use ≡ None → first_use_of (nodes ++ new ∷ []) k ≡ first_use_of nodes k
first_of_new [] new zero none = none
first_of_new [] new (suc k) none = refl
first_of_new (n ∷ nodes) new zero none = refl
first_of_new (n ∷ nodes) new (suc k) none = first_of_new nodes new k none

size_used : (nodes : List SkelNode) (child : Option ℕ) (use_number : ℕ) → length (with_use nodes child use_number) ≡ length nodes
size_used nodes child use_number =
    sym (length-map (with_use nodes child use_number) shape) ∙ ap length (with_use_keeps shape shape_keeps nodes child use_number) ∙ length-map nodes shape

size_linked : (nodes : List SkelNode) (part : Part) → length (linked nodes part) ≡ length nodes + 1
size_linked nodes part =
    length-append (with_use (left_used nodes part) part.right (2 * length nodes + 1)) _
    ∙ ap (λ n. n + 1) (size_used (left_used nodes part) part.right (2 * length nodes + 1) ∙ size_used nodes part.left (2 * length nodes))

newest_is : (nodes : List SkelNode) (child : Option ℕ) → newest_use nodes child ≡ newest (first_use_of nodes) child
newest_is nodes None = refl
newest_is nodes (Some k) = refl

newest_below : (nodes : List SkelNode) (bound : ℕ) (child : Option ℕ) → ((k : ℕ) → Below bound (first_use_of nodes k)) → Below bound (newest_use nodes child)
newest_below nodes bound None low = tt
newest_below nodes bound (Some k) low = low k

below_up : (n m : ℕ) (o : Option ℕ) → n ≤ m → Below n o → Below m o
below_up n m None le b = tt
below_up n m (Some k) le b = omega (arith, le, b)

exact_linked : (nodes : List SkelNode) (part : Part) → PartBelow (length nodes) part → Exact nodes → Exact (linked nodes part)
exact_linked nodes part below e = record { lower = lower; firsts = firsts; chains = chains }
  where
    used : List SkelNode
    used = left_used nodes part

    right_below : Below (length used) part.right
    right_below = rw (size_used nodes part.left (2 * length nodes)) below.1

    first_used : (k : ℕ) → first_use_of used k ≡ taken part.left (2 * length nodes) (first_use_of nodes k) k
    first_used k = first_taken nodes part.left (2 * length nodes) k below.0

    first_now : (k : ℕ) → first_use_of (linked nodes part) k ≡ taken part.right (2 * length nodes + 1) (first_use_of used k) k
    first_now k = first_of_new (with_use used part.right (2 * length nodes + 1)) _ k refl ∙ first_taken used part.right (2 * length nodes + 1) k right_below

    used_low : (k : ℕ) → Below (2 * length nodes + 1) (first_use_of used k)
    used_low k = rw (first_used k) (taken_below part.left (2 * length nodes) k (first_use_of nodes k) (e.firsts k))

    size : length (map links nodes) ≡ length nodes
    size = length-map nodes links

    next_now : (v : ℕ) → next_use (linked nodes part) v ≡ link_at (map links nodes ++ (newest_use nodes part.left, newest_use used part.right) ∷ []) v
    next_now v = next_is_link (linked nodes part) v ∙ ap (λ l. link_at l v) (linked_links nodes part)

    next_before : (v : ℕ) → v < 2 * length nodes → next_use (linked nodes part) v ≡ next_use nodes v
    next_before v under = next_now v ∙ link_before (map links nodes) (newest_use nodes part.left, newest_use used part.right) v (omega (arith, size, under)) ∙ sym (next_is_link nodes v)

    next_left : next_use (linked nodes part) (2 * length nodes) ≡ newest_use nodes part.left
    next_left = next_now (2 * length nodes) ∙ link_left (map links nodes) (newest_use nodes part.left, newest_use used part.right) (length nodes) (sym size)

    next_right : next_use (linked nodes part) (2 * length nodes + 1) ≡ newest_use used part.right
    next_right = next_now (2 * length nodes + 1) ∙ link_right (map links nodes) (newest_use nodes part.left, newest_use used part.right) (length nodes) (sym size)

    lower : (v : ℕ) → Below v (next_use (linked nodes part) v)
    lower v = by_place (places v)
      where
        places : (v : ℕ) → (v < 2 * length nodes) ⊎ ((v ≡ 2 * length nodes) ⊎ ((v ≡ 2 * length nodes + 1) ⊎ (2 * length nodes + 2 ≤ v)))
        places v = grind arith

        by_place : (v < 2 * length nodes) ⊎ ((v ≡ 2 * length nodes) ⊎ ((v ≡ 2 * length nodes + 1) ⊎ (2 * length nodes + 2 ≤ v))) → Below v (next_use (linked nodes part) v)
        by_place (inl p) = rw (next_before v p) (e.lower v)
        by_place (inr (inl p)) = rw (p, next_left) (newest_below nodes (2 * length nodes) part.left e.firsts)
        by_place (inr (inr (inl p))) = rw (p, next_right) (newest_below used (2 * length nodes + 1) part.right used_low)
        by_place (inr (inr (inr p))) = rw (next_now v ∙ link_past (map links nodes) (newest_use nodes part.left, newest_use used part.right) v (omega (arith, size, p))) tt

    firsts : (k : ℕ) → Below (2 * length (linked nodes part)) (first_use_of (linked nodes part) k)
    firsts k =
        let low : Below (2 * length nodes + 1 + 1) (first_use_of (linked nodes part) k) = rw (first_now k) (taken_below part.right (2 * length nodes + 1) k (first_use_of used k) (used_low k)) in
        let bound : 2 * length nodes + 1 + 1 ≤ 2 * length (linked nodes part) = let more = size_linked nodes part in omega (arith, more) in
        below_up (2 * length nodes + 1 + 1) (2 * length (linked nodes part)) (first_use_of (linked nodes part) k) bound low

    chains : (k : ℕ) → Chain (next_use (linked nodes part)) (first_use_of (linked nodes part) k) (uses_of (linked nodes part) k)
    chains k =
        let older = next_use (linked nodes part) in
        let kept : Chain older (first_use_of nodes k) (uses_of nodes k) = chain_kept (next_use nodes) older (2 * length nodes) e.lower next_before (first_use_of nodes k) (uses_of nodes k) (e.firsts k) (e.chains k) in
        let one = chain_taken older (first_use_of nodes) part.left (2 * length nodes) k (uses_of nodes k) (next_left ∙ newest_is nodes part.left) kept in
        let again : Chain older (first_use_of used k) (use_as (2 * length nodes) part.left k ++ uses_of nodes k) = rw (first_used k) one in
        let two = chain_taken older (first_use_of used) part.right (2 * length nodes + 1) k (use_as (2 * length nodes) part.left k ++ uses_of nodes k) (next_right ∙ newest_is used part.right) again in
        rw (first_now k, linked_uses nodes part k) two

exact_none : Exact []
exact_none = record { lower = λ v. tt; firsts = λ k. tt; chains = λ k. tt }

exact_all : (nodes : List SkelNode) (parts : List Part) → PartsFirst (length nodes) parts → Exact nodes → Exact (linked_all nodes parts)
exact_all nodes [] f e = e
exact_all nodes (p ∷ parts) f e =
    let size = size_linked nodes p in
    exact_all (linked nodes p) parts (rw size f.1) (exact_linked nodes p f.0 e)

-- the chains of linked nodes are exact
pub exact_is : (parts : List Part) → PartsFirst 0 parts → Exact (linked_all [] parts)
exact_is parts f = exact_all [] parts f exact_none

-- how many uses are asked for makes no difference, where these are enough
follow_enough : (nodes : List SkelNode) → ((v : ℕ) → Below v (next_use nodes v)) → (most more : ℕ) (from : Option ℕ) → Below most from → Below more from → follow most nodes from ≡ follow more nodes from
follow_enough nodes lower zero zero from b c = refl
follow_enough nodes lower zero (suc more) None b c = refl
follow_enough nodes lower zero (suc more) (Some u) b c = absurd (let no : ⊥ = omega (arith, b) in no)
follow_enough nodes lower (suc most) zero None b c = refl
follow_enough nodes lower (suc most) zero (Some u) b c = absurd (let no : ⊥ = omega (arith, c) in no)
follow_enough nodes lower (suc most) (suc more) None b c = refl
follow_enough nodes lower (suc most) (suc more) (Some u) b c =
    ap (λ l. u ∷ l) (follow_enough nodes lower most more (next_use nodes u) (below_up u most (next_use nodes u) (omega (arith, b)) (lower u)) (below_up u more (next_use nodes u) (omega (arith, c)) (lower u)))

chain_is_follow : (nodes : List SkelNode) → ((v : ℕ) → Below v (next_use nodes v)) → (most : ℕ) (from : Option ℕ) → Below most from → chain_from nodes from ≡ follow most nodes from
chain_is_follow nodes lower zero None b = refl
chain_is_follow nodes lower (suc most) None b = refl
chain_is_follow nodes lower most (Some u) b = follow_enough nodes lower (suc u) most (Some u) (omega arith) b

-- the uses from one on are this one and those from the next one on
pub chain_next : (nodes : List SkelNode) → ((v : ℕ) → Below v (next_use nodes v)) → (u : ℕ) → chain_from nodes (Some u) ≡ u ∷ chain_from nodes (next_use nodes u)
chain_next nodes lower u = ap (λ l. u ∷ l) (sym (chain_is_follow nodes lower u (next_use nodes u) (lower u)))

chain_followed : (nodes : List SkelNode) → ((v : ℕ) → Below v (next_use nodes v)) → (from : Option ℕ) (us : List ℕ) → Chain (next_use nodes) from us → chain_from nodes from ≡ us
chain_followed nodes lower None [] ch = refl
chain_followed nodes lower None (u ∷ us) ch = absurd ch
chain_followed nodes lower (Some n) [] ch = absurd ch
chain_followed nodes lower (Some n) (u ∷ us) ch =
    ap (λ m. chain_from nodes (Some m)) ch.0 ∙ chain_next nodes lower u ∙ ap (λ l. u ∷ l) (chain_followed nodes lower (next_use nodes u) us ch.1)

-- the chains of nodes whose chains are exact
pub chains_are : (nodes : List SkelNode) → Exact nodes → (k : ℕ) → chain_from nodes (first_use_of nodes k) ≡ uses_of nodes k
chains_are nodes e k = chain_followed nodes e.lower (first_use_of nodes k) (uses_of nodes k) (e.chains k)

below_of : (n m : ℕ) (o : Option ℕ) → Below n o → o ≡ Some m → m < n
below_of n m None b is = let same : ◌≡◌ {A = Option ℕ} None (Some m) = is in cc
below_of n m (Some k) b is = let same : ◌≡◌ {A = Option ℕ} (Some k) (Some m) = is in let e : k ≡ m = cc in omega (arith, b, e)

pub older_are : (nodes : List SkelNode) → Exact nodes → Descends (next_use nodes)
older_are nodes e = λ number lower is. below_of number lower (next_use nodes number) (e.lower number) is

-- that each tells of a lower one, in the other form
pub below_is : (f : ℕ → Option ℕ) → Descends f → (v : ℕ) → Below v (f v)
below_is f down v = of (f v) refl
  where
    of : (o : Option ℕ) → f v ≡ o → Below v o
    of None is = tt
    of (Some m) is = down v m is

-- The children of a listed skeleton stand before it.
use Rattle.std.proofs.Common.{◌≡◌, ℕ, zero, suc, ◌+◌, ◌-◌, ◌<◌, ◌≤◌, Bool, true, false, List, [], ◌∷◌, ◌++◌, map, length, Option, Some, None, refl, arith, length-append, if◌then◌else◌}
use Rattle.std.specs.Prelude.{slice_get, unwrap_or}
use Rattle.std.specs.List.{flat_map, range_with_len}
use Rattle.table_core.specs.declared.task.TaskParts.{TaskParts}
use Rattle.query_core.specs.Tree.{Tree}
use Rattle.query_core.specs.Grammar.{levels, agg_list, key_lists}
use Rattle.query_core.specs.declared.kinds.Pairing.TheVariants.{Join, Left}
use Rattle.query_core.specs.declared.kinds.Uniting.TheVariants.{All, Firsts}
use Rattle.skeleton_graph.specs.declared.meeting.Meeting.{Meeting}
use Rattle.skeleton_graph.specs.declared.meeting.Meeting.TheVariants.{Pair, Union}
use Rattle.skeleton_graph.specs.declared.part.Part.{Part}
use Rattle.skeleton_graph.specs.declared.levels.Levels.{Levels}
use Rattle.skeleton_graph.specs.Seen.{Seen, all_of, base_part, base_parts, filter_part, filter_on, may_meet, met, pair_on, seen_at, pairs_at, pairs_on, group_on, keyed_on, groups_on, last_seen, next_parts}
use Rattle.skeleton_graph.specs.View.{see_levels, parts_of}
use Rattle.skeleton_graph.specs.Listing.{with_level, no_levels, placed_levels}
use Rattle.skeleton_graph.proofs.LevelLaws.{seen_of, seen_levels}
use Rattle.skeleton_graph.proofs.SimLaws.{same_levels, numbers_from, parts_with}

-- whether a number, where there is one, is below another
abbrev pub Below : ℕ → Option ℕ → Type 0
Below n None = Unit {0}
Below n (Some m) = m < n

-- whether a fact holds of each element
abbrev pub Each : {A : Type 0} → (A → Type 0) → List A → Type 0
Each P [] = Unit {0}
Each P (x ∷ xs) = P x × Each P xs

pub each-append : {A : Type 0} (P : A → Type 0) (xs ys : List A) → Each P xs → Each P ys → Each P (xs ++ ys)
each-append P [] ys a b = b
each-append P (x ∷ xs) ys a b = (a.0, each-append P xs ys a.1 b)

each_flat : {A B : Type 0} (P : B → Type 0) (Q : A → Type 0) (f : A → List B) → ((x : A) → Q x → Each P (f x)) → (xs : List A) → Each Q xs → Each P (flat_map f xs)
each_flat P Q f give [] q = tt
each_flat P Q f give (x ∷ xs) q = each-append P (f x) (flat_map f xs) (give x q.0) (each_flat P Q f give xs q.1)

pub each_flat_all : {A B : Type 0} (P : B → Type 0) (f : A → List B) → ((x : A) → Each P (f x)) → (xs : List A) → Each P (flat_map f xs)
each_flat_all P f give [] = tt
each_flat_all P f give (x ∷ xs) = each-append P (f x) (flat_map f xs) (give x) (each_flat_all P f give xs)

pub each_map : {A B : Type 0} (P : B → Type 0) (f : A → B) → ((x : A) → P (f x)) → (xs : List A) → Each P (map f xs)
each_map P f give [] = tt
each_map P f give (x ∷ xs) = (give x, each_map P f give xs)

pub each_single : {A : Type 0} (P : A → Type 0) (b : Bool) (x : A) → P x → Each P (if b then x ∷ [] else [])
each_single P true x p = (p, tt)
each_single P false x p = tt

each_at : {A : Type 0} (Q : A → Type 0) (ls : List (List A)) (i : ℕ) → Each (Each Q) ls → Each Q (unwrap_or (slice_get ls i) [])
each_at Q [] i q = tt
each_at Q (l ∷ ls) zero q = q.0
each_at Q (l ∷ ls) (suc i) q = each_at Q ls i q.1

-- whether a skeleton's children are below a number, and whether it is itself
abbrev pub PartBelow : ℕ → Part → Type 0
PartBelow n part = Below n part.left × Below n part.right

abbrev SeenBelow : ℕ → Seen → Type 0
SeenBelow n s = s.number < n

on_below : (task : TaskParts) (how : Meeting) (n : ℕ) (a b : Seen) → SeenBelow n a → SeenBelow n b → Each (PartBelow n) (pair_on task how a b)
on_below task how n a b p q = each_single (PartBelow n) (may_meet task how a b) (met how a b) (p, q)

pairs_below : (task : TaskParts) (how : Meeting) (n : ℕ) (ls : List (List Seen)) → Each (Each (SeenBelow n)) ls → Each (PartBelow n) (pairs_on task how ls)
pairs_below task how n ls q =
    each_flat_all (PartBelow n) (pairs_at task how ls)
    (λ i. each_flat (PartBelow n) (SeenBelow n) (λ a. flat_map (pair_on task how a) (seen_at ls (length ls - 1 - i)))
    (λ a p. each_flat (PartBelow n) (SeenBelow n) (pair_on task how a) (λ b r. on_below task how n a b p r) (seen_at ls (length ls - 1 - i)) (each_at (SeenBelow n) ls (length ls - 1 - i) q))
    (seen_at ls i) (each_at (SeenBelow n) ls i q))
    (range_with_len 0 (length ls))

groups_below : (task : TaskParts) (n : ℕ) (c : Seen) → SeenBelow n c → Each (PartBelow n) (groups_on task c)
groups_below task n c p =
    each_flat_all (PartBelow n) (keyed_on task c) (λ keys. each_map (PartBelow n) (group_on c keys) (λ agg. (p, tt)) (agg_list task.aggregates c.types keys)) (key_lists (length c.types))

parts_below : (task : TaskParts) (n : ℕ) (ls : List (List Seen)) → Each (Each (SeenBelow n)) ls → Each (PartBelow n) (next_parts task ls)
parts_below task n ls q =
    let last = last_seen ls in
    let under = each_at (SeenBelow n) ls (length ls - 1) q in
    let filters = each_flat (PartBelow n) (SeenBelow n) filter_on (λ c p. each_single (PartBelow n) c.takes_filter (filter_part c) (p, tt)) last under in
    let groups = each_flat (PartBelow n) (SeenBelow n) (groups_on task) (λ c p. groups_below task n c p) last under in
    each-append (PartBelow n) _ _
    (each-append (PartBelow n) _ _ filters (each-append (PartBelow n) _ _ (pairs_below task (Pair Join) n ls q) (pairs_below task (Pair Left) n ls q)))
    (each-append (PartBelow n) _ _ groups (each-append (PartBelow n) _ _ (pairs_below task (Union All) n ls q) (pairs_below task (Union Firsts) n ls q)))

range_below : (task : TaskParts) (trees : List Tree) (n start len : ℕ) → start + len ≤ n → Each (SeenBelow n) (map (seen_of task trees) (range_with_len start len))
range_below task trees n start zero within = tt
range_below task trees n start (suc len) within = (omega (arith, within), range_below task trees n (start + 1) len (omega (arith, within)))

levels_below : (task : TaskParts) (trees : List Tree) (n m : ℕ) (gl : List (List Tree)) → m + length (all_of gl) ≤ n → Each (Each (SeenBelow n)) (seen_levels task trees (numbers_from m gl))
levels_below task trees n m [] within = tt
levels_below task trees n m (l ∷ gl) within =
    let size : length (l ++ all_of gl) ≡ length l + length (all_of gl) = length-append l (all_of gl) in
    (range_below task trees n m (length l) (omega (arith, within, size)), levels_below task trees n (m + length l) gl (omega (arith, within, size)))

-- whether the children of each skeleton, numbered from a number on, stand before it
abbrev pub PartsFirst : ℕ → List Part → Type 0
PartsFirst n [] = Unit {0}
PartsFirst n (part ∷ parts) = PartBelow n part × PartsFirst (n + 1) parts

below_more : (n m : ℕ) (o : Option ℕ) → n ≤ m → Below n o → Below m o
below_more n m None le b = tt
below_more n m (Some k) le b = omega (arith, le, b)

first_of_below : (n m : ℕ) (parts : List Part) → n ≤ m → Each (PartBelow n) parts → PartsFirst m parts
first_of_below n m [] le e = tt
first_of_below n m (p ∷ parts) le e = ((below_more n m p.left le e.0.0, below_more n m p.right le e.0.1), first_of_below n (m + 1) parts (omega (arith, le)) e.1)

first-append : (n m : ℕ) (a b : List Part) → m ≡ n + length a → PartsFirst n a → Each (PartBelow m) b → PartsFirst n (a ++ b)
first-append n m [] b is f e = first_of_below m n b (omega (arith, is)) e
first-append n m (p ∷ a) b is f e = (f.0, first-append (n + 1) m a b (omega (arith, is)) f.1 e)

base_below : (task : TaskParts) → Each (PartBelow 0) (base_parts task)
base_below task = each_map (PartBelow 0) (base_part task) (λ i. (tt, tt)) (range_with_len 0 (length task.inputs))

first_with : (l : Levels) (parts : List Part) → l.count ≡ length (parts_of (all_of l.levels)) → PartsFirst 0 (parts_of (all_of l.levels)) → Each (PartBelow l.count) parts → PartsFirst 0 (parts_of (all_of (with_level l parts).levels))
first_with l parts size f e = rw (parts_with l parts) (first-append 0 l.count (parts_of (all_of l.levels)) parts (omega (arith, size)) f e)

-- the children of each listed skeleton stand before it
pub children_first : (task : TaskParts) (ops : ℕ) → ((n : ℕ) → (placed_levels task n).count ≡ length (parts_of (all_of (placed_levels task n).levels))) → PartsFirst 0 (parts_of (all_of (placed_levels task ops).levels))
children_first task zero size = first_with no_levels (base_parts task) refl tt (base_below task)
children_first task (suc ops) size =
    let below = placed_levels task ops in
    let s = same_levels task ops in
    let seen : see_levels below.levels ≡ seen_levels task (all_of (levels task ops) ++ []) (numbers_from 0 (levels task ops)) = s.seen [] in
    let q : Each (Each (SeenBelow below.count)) (see_levels below.levels) =
    rw seen (levels_below task (all_of (levels task ops) ++ []) below.count 0 (levels task ops) (omega (arith, s.count))) in
    first_with below (next_parts task (see_levels below.levels)) (size ops) (children_first task ops size) (parts_below task below.count (see_levels below.levels) q)

-- Laws of functions that list skeletons.
use Rattle.std.proofs.Common.{◌≡◌, ℕ, ◌+◌, ◌-◌, ◌<◌, List, [], ◌∷◌, ◌++◌, length, Err, refl, ap, sym, ◌∙◌, arith, map, drop, get_or, length-append, append_assoc}
use Rattle.std.specs.List.{flat_map, range_with_len}
use Rattle.std.proofs.lemmas.List.{drop_more}
use Rattle.skeleton_graph.proofs.RangeLaws.{range_next}
use Rattle.table_core.specs.declared.task.TaskParts.{TaskParts}
use Rattle.skeleton_graph.specs.declared.meeting.Meeting.{Meeting}
use Rattle.skeleton_graph.specs.Seen.{Seen, Lists, seen_at, pairs_between, pairs_at}
use Rattle.skeleton_graph.specs.declared.part.Part.{Part}
use Rattle.skeleton_graph.specs.declared.fault.ListFault.{ListFault}
use Rattle.skeleton_graph.specs.declared.fault.ListFault.TheVariants.{TooMany, OutOfMemory}

-- where there is no room for the first part of a list, there is none for the list
pub stops : (room : ℕ) (base whole out new part rest : List Part) (fault : ListFault)
    → out ++ (part ++ rest) ≡ base ++ whole → Lists room out new part (Err fault) → Lists room base new whole (Err fault)
stops room base whole out new part rest TooMany same lists =
    let sizes : length (out ++ (part ++ rest)) ≡ length (base ++ whole) = ap length same in
    let left : length (out ++ (part ++ rest)) ≡ length out + (length part + length rest) = length-append out (part ++ rest) ∙ ap (λ n. length out + n) (length-append part rest) in
    let right : length (base ++ whole) ≡ length base + length whole = length-append base whole in
    omega (arith, sizes, left, right, lists)
stops room base whole out new part rest OutOfMemory same lists = tt

-- what a loop has still to list: what its turn lists, and then the rest
pub loop_part : {A : Type 0} (f : Seen → List Part) (view : A → Seen) (out whole : List Part) (xs : List A) (i : ℕ) (x d : A) → i < length xs → x ≡ get_or xs i d
    → out ++ flat_map f (map view (drop i xs)) ≡ whole → out ++ (f (view x) ++ flat_map f (map view (drop (i + 1) xs))) ≡ whole
loop_part f view out whole xs i x d below is inv =
    let next : drop i xs ≡ x ∷ drop (i + 1) xs = drop_more xs i d below ∙ ap (λ y. y ∷ drop (i + 1) xs) (sym is) in
    rw next at inv

-- the same for a list of other things
pub plain_loop_part : {A : Type 0} (f : A → List Part) (out whole : List Part) (xs : List A) (i : ℕ) (x d : A) → i < length xs → x ≡ get_or xs i d
    → out ++ flat_map f (drop i xs) ≡ whole → out ++ (f x ++ flat_map f (drop (i + 1) xs)) ≡ whole
plain_loop_part f out whole xs i x d below is inv =
    let next : drop i xs ≡ x ∷ drop (i + 1) xs = drop_more xs i d below ∙ ap (λ y. y ∷ drop (i + 1) xs) (sym is) in
    rw next at inv

-- the same where each thing lists one
pub map_loop_part : {A : Type 0} (f : A → Part) (out whole : List Part) (xs : List A) (i : ℕ) (x d : A) → i < length xs → x ≡ get_or xs i d
    → out ++ map f (drop i xs) ≡ whole → out ++ ((f x ∷ []) ++ map f (drop (i + 1) xs)) ≡ whole
map_loop_part f out whole xs i x d below is inv =
    let next : drop i xs ≡ x ∷ drop (i + 1) xs = drop_more xs i d below ∙ ap (λ y. y ∷ drop (i + 1) xs) (sym is) in
    rw next at inv

-- the same for a range
pub range_loop_part : (f : ℕ → List Part) (out whole : List Part) (i n : ℕ) → i < n
    → out ++ flat_map f (range_with_len i (n - i)) ≡ whole → out ++ (f i ++ flat_map f (range_with_len (i + 1) (n - (i + 1)))) ≡ whole
range_loop_part f out whole i n below is = rw (range_next i n below) at is

pub range_loop_more : (f : ℕ → List Part) (out more whole : List Part) (i n : ℕ) → i < n → more ≡ out ++ f i
    → out ++ flat_map f (range_with_len i (n - i)) ≡ whole → more ++ flat_map f (range_with_len (i + 1) (n - (i + 1))) ≡ whole
range_loop_more f out more whole i n below next is = rw (next, append_assoc) (range_loop_part f out whole i n below is)

-- one more of what a range gives
pub range_more_of : {A : Type 0} (f : ℕ → A) (out more whole : List A) (i n : ℕ) → i < n → more ≡ out ++ f i ∷ []
    → out ++ map f (range_with_len i (n - i)) ≡ whole → more ++ map f (range_with_len (i + 1) (n - (i + 1))) ≡ whole
range_more_of f out more whole i n below is inv = rw (is, append_assoc) (rw (range_next i n below) at inv)

-- the skeletons of a level's parts, by what they are
pub pairs_at_is : (task : TaskParts) (how : Meeting) (levels : List (List Seen)) (i n : ℕ) (lefts rights : List Seen) → n ≡ length levels → lefts ≡ seen_at levels i → rights ≡ seen_at levels (n - 1 - i)
    → pairs_between task how lefts rights ≡ pairs_at task how levels i
pairs_at_is task how levels i n lefts rights size left right = rw (left, right, size) refl

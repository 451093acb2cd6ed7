-- What rows of bits keep of lists, by parts and by tests.
use Rattle.std.proofs.Common.{◌≡◌, ℕ, zero, suc, ◌+◌, ◌-◌, ◌*◌, append_assoc, Bool, true, false, not, ◌&&◌, Some, List, [], ◌∷◌, ◌++◌, map, take, drop, replicate, refl, sym, ap, ◌∙◌, arith, length, ◌≤◌, ◌<◌, if◌then◌else◌}
use Rattle.std.specs.Prelude.{filter, slice_get, unwrap_or}
use Rattle.std.specs.List.{list_any}
use Rattle.std.proofs.lemmas.List.{map-append, length-map, length-append, length-take-le, length-drop, append-nil, take_at, drop_at, drop-drop, drop_all}
use Rattle.std.proofs.lemmas.List.Elements.{filter-append}
use Rattle.value_core.specs.declared.value.Value.{Value}
use Rattle.value_core.specs.declared.value.Value.TheVariants.{Null}
use Rattle.predicate_core.specs.Truth.{keeps}
use Rattle.predicate_core.specs.declared.pred.Pred.{Pred}
use Rattle.table_core.specs.Rows.{Row}
use Rattle.bit_rows.specs.Masked.{masked}
use Rattle.bit_classes.specs.Laws.{kept_vector}
use Rattle.query_core.specs.Joins.{pairs_with, crossed, pairs_and_padded, crossed_and_padded, kept_pairs, joined, or_padded, left_joined}
use Rattle.fill_core.specs.Choices.{with_alone}

-- the bits of a test keep the elements that pass it
pub masked_filter : {A : Type 0} (test : A → Bool) (xs : List A) → masked (map test xs) xs ≡ filter test xs
masked_filter test [] = refl
masked_filter test (x ∷ xs) = ap (λ t. if test x then x ∷ t else t) (masked_filter test xs)

-- full bits keep all
pub masked_full : {A : Type 0} (xs : List A) → masked (replicate (length xs) true) xs ≡ xs
masked_full [] = refl
masked_full (x ∷ xs) = ap (λ t. x ∷ t) (masked_full xs)

put_back : {A : Type 0} (b : Bool) (x : A) (t u v : List A) → t ≡ u ++ v → (if b then x ∷ t else t) ≡ (if b then x ∷ u else u) ++ v
put_back true x t u v e = ap (λ r. x ∷ r) e
put_back false x t u v e = e

-- bits of two parts keep what each keeps of its part
pub masked_append : {A : Type 0} (bits more : List Bool) (xs ys : List A) → length bits ≡ length xs → masked (bits ++ more) (xs ++ ys) ≡ masked bits xs ++ masked more ys
masked_append [] more [] ys same = refl
masked_append [] more (x ∷ xs) ys same = absurd (omega (arith, same))
masked_append (b ∷ bits) more [] ys same = absurd (omega (arith, same))
masked_append (b ∷ bits) more (x ∷ xs) ys same = put_back b x _ _ _ (masked_append bits more xs ys (omega (arith, same)))

-- a join keeps those of all pairs that pass
pub joined_is : (constants : List Value) (p : Pred) (lefts rights : List Row) → masked (kept_vector constants (crossed lefts rights) p) (crossed lefts rights) ≡ joined constants p lefts rights
joined_is constants p lefts rights = masked_filter (keeps constants p) (crossed lefts rights) ∙ by_left lefts
  where
    by_left : (ls : List Row) → filter (keeps constants p) (crossed ls rights) ≡ joined constants p ls rights
    by_left [] = refl
    by_left (l ∷ ls) = filter-append (keeps constants p) (pairs_with rights l) (crossed ls rights) ∙ ap (λ t. kept_pairs constants p rights l ++ t) (by_left ls)

-- a left row's kept pairs, and behind them the padded row where none is kept
or_alone : (width : ℕ) (l : Row) (test : Row → Bool) (pairs : List Row)
    → filter test pairs ++ masked (not (list_any (λ b. b) (map test pairs)) ∷ []) ((l ++ replicate width Null) ∷ []) ≡ or_padded width l (filter test pairs)
or_alone width l test [] = refl
or_alone width l test (x ∷ pairs) = by_first (test x) refl (or_alone width l test pairs)
  where
    by_first : (b : Bool) → test x ≡ b → filter test pairs ++ masked (not (list_any (λ b. b) (map test pairs)) ∷ []) ((l ++ replicate width Null) ∷ []) ≡ or_padded width l (filter test pairs)
        → filter test (x ∷ pairs) ++ masked (not (list_any (λ b. b) (map test (x ∷ pairs))) ∷ []) ((l ++ replicate width Null) ∷ []) ≡ or_padded width l (filter test (x ∷ pairs))
    by_first true is rest = rw is (append-nil (x ∷ filter test pairs))
    by_first false is rest = rw is rest

-- the bits of one left row more
with_more : (n rights : ℕ) (bits : List Bool) → with_alone (suc n) rights bits ≡ (take rights bits ++ not (list_any (λ b. b) (take rights bits)) ∷ []) ++ with_alone n rights (drop rights bits)
with_more n rights bits = refl

one_longer : {A B : Type 0} (xs : List A) (ys : List B) (a : A) (b : B) → length xs ≡ length ys → length (xs ++ a ∷ []) ≡ length (ys ++ b ∷ [])
one_longer xs ys a b same = omega (arith, same, length-append xs (a ∷ []), length-append ys (b ∷ []))

-- a left join keeps those of all pairs that pass, and the padded left rows that are alone
pub left_joined_is : (constants : List Value) (p : Pred) (width : ℕ) (lefts rights : List Row)
    → masked (with_alone (length lefts) (length rights) (kept_vector constants (crossed lefts rights) p)) (crossed_and_padded width lefts rights) ≡ left_joined constants p width lefts rights
left_joined_is constants p width [] rights = refl
left_joined_is constants p width (l ∷ ls) rights =
    let test : Row → Bool = keeps constants p in
    let pairs = pairs_with rights l in
    let bits : List Bool = map test pairs in
    let later : List Bool = kept_vector constants (crossed ls rights) p in
    let alone : List Bool = not (list_any (λ b. b) bits) ∷ [] in
    let padded : List Row = (l ++ replicate width Null) ∷ [] in
    let wide : length bits ≡ length rights = length-map pairs test ∙ length-map rights (λ r. l ++ r) in
    let split : kept_vector constants (crossed (l ∷ ls) rights) p ≡ bits ++ later = map-append test pairs (crossed ls rights) in
    let taken : take (length rights) (bits ++ later) ≡ bits = take_at bits later (length rights) wide in
    let dropped : drop (length rights) (bits ++ later) ≡ later = drop_at bits later (length rights) wide in
    let all : with_alone (length (l ∷ ls)) (length rights) (bits ++ later) ≡ (bits ++ alone) ++ with_alone (length ls) (length rights) later =
    with_more (length ls) (length rights) (bits ++ later) ∙ rw (taken, dropped) refl in
    let same : length bits ≡ length pairs = length-map pairs test in
    let first : masked (bits ++ alone) (pairs ++ padded) ≡ or_padded width l (kept_pairs constants p rights l) =
    masked_append bits alone pairs padded same ∙ ap (λ t. t ++ masked alone padded) (masked_filter test pairs) ∙ or_alone width l test pairs in
    ap (λ bs. masked (with_alone (length (l ∷ ls)) (length rights) bs) (crossed_and_padded width (l ∷ ls) rights)) split
    ∙ ap (λ bs. masked bs (crossed_and_padded width (l ∷ ls) rights)) all
    ∙ masked_append (bits ++ alone) (with_alone (length ls) (length rights) later) (pairs ++ padded) (crossed_and_padded width ls rights) (one_longer bits pairs _ _ same)
    ∙ ap (λ t. t ++ masked (with_alone (length ls) (length rights) later) (crossed_and_padded width ls rights)) first
    ∙ ap (λ t. or_padded width l (kept_pairs constants p rights l) ++ t) (left_joined_is constants p width ls rights)

no_times : (m : ℕ) → 0 * m ≡ 0
no_times m = search arith

times_more : (n m : ℕ) → suc n * m ≡ m + n * m
times_more n m = search arith

-- all pairs are as many as the product
pub length_crossed : (lefts rights : List Row) → length (crossed lefts rights) ≡ length lefts * length rights
length_crossed [] rights = sym (no_times (length rights))
length_crossed (l ∷ ls) rights =
    omega (arith, length-append (pairs_with rights l) (crossed ls rights), length-map rights (λ r. l ++ r), length_crossed ls rights, times_more (length ls) (length rights))

-- so many, and one more for each left row
pub length_with_alone : (lefts rights : ℕ) (bits : List Bool) → length bits ≡ lefts * rights → length (with_alone lefts rights bits) ≡ lefts * rights + lefts
length_with_alone zero rights bits same = omega (arith, no_times rights)
length_with_alone (suc n) rights bits same =
    let product = times_more n rights in
    let enough : rights ≤ length bits = omega (arith, same, product) in
    let rest : length (drop rights bits) ≡ n * rights = omega (arith, same, product, length-drop rights bits) in
    omega (
      arith,
      product,
      length_with_alone n rights (drop rights bits) rest,
      length-take-le rights bits enough,
      length-append (take rights bits ++ not (list_any (λ b. b) (take rights bits)) ∷ []) (with_alone n rights (drop rights bits)),
      length-append (take rights bits) (not (list_any (λ b. b) (take rights bits)) ∷ []),
    )

pub length_padded : (width : ℕ) (lefts rights : List Row) → length (crossed_and_padded width lefts rights) ≡ length lefts * length rights + length lefts
length_padded width [] rights = omega (arith, no_times (length rights))
length_padded width (l ∷ ls) rights =
    omega (arith, times_more (length ls) (length rights), length_padded width ls rights, length-map rights (λ r. l ++ r), length-append (pairs_with rights l) ((l ++ replicate width Null) ∷ []), length-append (pairs_and_padded width rights l) (crossed_and_padded width ls rights))

-- what is kept from a place on: the element there, if its bit is set, and what is kept behind it
pub masked_next : {A : Type 0} (bits : List Bool) (xs : List A) (i : ℕ) (x : A) → slice_get xs i ≡ Some x
    → masked (drop i bits) (drop i xs) ≡ (if unwrap_or (slice_get bits i) false then x ∷ [] else []) ++ masked (drop (i + 1) bits) (drop (i + 1) xs)
masked_next {A = A} bits xs i x there = let e : i + 1 ≡ suc i = omega arith in rw e (by_place bits xs i there)
  where
    by_place : (bs : List Bool) (ys : List A) (k : ℕ) → slice_get ys k ≡ Some x → masked (drop k bs) (drop k ys) ≡ (if unwrap_or (slice_get bs k) false then x ∷ [] else []) ++ masked (drop (suc k) bs) (drop (suc k) ys)
    by_place bs [] k at = cc
    by_place [] (y ∷ ys) zero at = refl
    by_place [] (y ∷ ys) (suc k) at = refl
    by_place (true ∷ bs) (y ∷ ys) zero at = cc
    by_place (false ∷ bs) (y ∷ ys) zero at = refl
    by_place (b ∷ bs) (y ∷ ys) (suc k) at = by_place bs ys k at

-- a bit more of some
pub take_bit : (bits : List Bool) (from k : ℕ) → from + k < length bits → take (k + 1) (drop from bits) ≡ take k (drop from bits) ++ unwrap_or (slice_get bits (from + k)) false ∷ []
take_bit bits zero k within = let e : k + 1 ≡ suc k = omega arith in let z : 0 + k ≡ k = omega arith in rw (e, z) (by_place bits k (omega (arith, within)))
  where
    by_place : (bs : List Bool) (n : ℕ) → n < length bs → take (suc n) bs ≡ take n bs ++ unwrap_or (slice_get bs n) false ∷ []
    by_place [] n below = absurd (omega (arith, below))
    by_place (b ∷ bs) zero below = refl
    by_place (b ∷ bs) (suc n) below = ap (λ t. b ∷ t) (by_place bs n (omega (arith, below)))
take_bit [] (suc from) k within = absurd (omega (arith, within))
take_bit (b ∷ bits) (suc from) k within = let e : suc from + k ≡ suc (from + k) = omega arith in rw e (take_bit bits from k (omega (arith, within)))

any_more : (xs : List Bool) (b : Bool) → not (list_any (λ x. x) (xs ++ b ∷ [])) ≡ (not (list_any (λ x. x) xs) && not b)
any_more [] true = refl
any_more [] false = refl
any_more (true ∷ xs) b = refl
any_more (false ∷ xs) b = any_more xs b

-- whether none of some bits is set, by a bit more
pub none_more : (bits : List Bool) (from k : ℕ) → from + k < length bits
    → not (list_any (λ x. x) (take (k + 1) (drop from bits))) ≡ (not (list_any (λ x. x) (take k (drop from bits))) && not (unwrap_or (slice_get bits (from + k)) false))
none_more bits from k within = ap (λ bs. not (list_any (λ x. x) bs)) (take_bit bits from k within) ∙ any_more (take k (drop from bits)) (unwrap_or (slice_get bits (from + k)) false)

-- a step of a loop that keeps the masked elements
pub masked_loop : {A : Type 0} (out more whole : List A) (bits : List Bool) (xs : List A) (i : ℕ) (x : A) (b : Bool) → slice_get xs i ≡ Some x → b ≡ unwrap_or (slice_get bits i) false
    → more ≡ out ++ (if b then x ∷ [] else []) → out ++ masked (drop i bits) (drop i xs) ≡ whole → more ++ masked (drop (i + 1) bits) (drop (i + 1) xs) ≡ whole
masked_loop out more whole bits xs i x b there is pushed so_far =
    let rest = masked (drop (i + 1) bits) (drop (i + 1) xs) in
    ap (λ t. t ++ rest) pushed
    ∙ append_assoc out (if b then x ∷ [] else []) rest
    ∙ ap (λ c. out ++ ((if c then x ∷ [] else []) ++ rest)) is
    ∙ ap (λ t. out ++ t) (sym (masked_next bits xs i x there))
    ∙ so_far

pub and_then : (a x b next : Bool) → a ≡ x → a ≡ true → next ≡ b → next ≡ (x && b)
and_then a x b next same holds is = rw (sym same ∙ holds) is

pub and_else : (a x b next : Bool) → a ≡ x → a ≡ false → next ≡ false → next ≡ (x && b)
and_else a x b next same fails is = rw (sym same ∙ fails) is

-- a part of a product lies within it
pub part_within : (i n r : ℕ) → i < n → i * r + r ≤ n * r
part_within i n r below =
    let d = n - (i + 1) in
    let e : n ≡ (i + 1) + d = omega (arith, below) in
    let m : ((i + 1) + d) * r ≡ (i * r + r) + d * r = search arith in
    omega (arith, m, ap (λ k. k * r) e)

pub next_part : (i r from next : ℕ) → from ≡ i * r → next ≡ from + r → next ≡ (i + 1) * r
next_part i r from next is more = let m : (i + 1) * r ≡ i * r + r = search arith in omega (arith, is, more, m)

-- a left row more in a loop
pub alone_loop : (out more whole bits : List Bool) (left lefts rights from : ℕ) → left < lefts
    → more ≡ out ++ (take rights (drop from bits) ++ not (list_any (λ b. b) (take rights (drop from bits))) ∷ [])
    → out ++ with_alone (lefts - left) rights (drop from bits) ≡ whole → more ++ with_alone (lefts - (left + 1)) rights (drop (from + rights) bits) ≡ whole
alone_loop out more whole bits left lefts rights from below pushed so_far =
    let n = lefts - (left + 1) in
    let e : lefts - left ≡ suc n = omega (arith, below) in
    let front = take rights (drop from bits) ++ not (list_any (λ b. b) (take rights (drop from bits))) ∷ [] in
    let rest = with_alone n rights (drop (from + rights) bits) in
    let step : with_alone (suc n) rights (drop from bits) ≡ front ++ rest = ap (λ bs. front ++ with_alone n rights bs) (drop-drop rights from bits) in
    ap (λ t. t ++ rest) pushed
    ∙ append_assoc out front rest
    ∙ ap (λ t. out ++ t) (sym step)
    ∙ ap (λ k. out ++ with_alone k rights (drop from bits)) (sym e)
    ∙ so_far

pub alone_end : (out whole bits : List Bool) (left lefts rights from : ℕ) → lefts ≤ left → out ++ with_alone (lefts - left) rights (drop from bits) ≡ whole → out ≡ whole
alone_end out whole bits left lefts rights from past so_far =
    let e : lefts - left ≡ 0 = omega (arith, past) in
    sym (append-nil out) ∙ ap (λ k. out ++ with_alone k rights (drop from bits)) (sym e) ∙ so_far

masked_none : {A : Type 0} (bits : List Bool) → masked {A = A} bits [] ≡ []
masked_none [] = refl
masked_none (b ∷ bits) = refl

pub masked_end : {A : Type 0} (out whole : List A) (bits : List Bool) (xs : List A) (i : ℕ) → length xs ≤ i → out ++ masked (drop i bits) (drop i xs) ≡ whole → out ≡ whole
masked_end {A} out whole bits xs i past so_far =
    sym (append-nil out) ∙ ap (λ (t : List A). out ++ t) (sym (masked_none (drop i bits))) ∙ ap (λ (ys : List A). out ++ masked (drop i bits) ys) (sym (drop_all i xs past)) ∙ so_far

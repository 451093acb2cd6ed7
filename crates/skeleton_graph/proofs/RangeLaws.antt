-- Laws of ranges and of pairs of columns.
use Rattle.std.proofs.Common.{◌≡◌, ℕ, suc, ◌+◌, ◌-◌, ◌<◌, List, [], ◌∷◌, ◌++◌, length, get_or, drop, map, refl, ap, ◌∙◌, arith, append_assoc}
use Rattle.std.specs.List.{range_with_len}
use Rattle.std.proofs.lemmas.List.{drop_more, map-append}
use Rattle.predicate_core.specs.Atoms.{pairs}

-- the first number of a range that isn't empty
pub range_next : (i width : ℕ) → i < width → range_with_len i (width - i) ≡ i ∷ range_with_len (i + 1) (width - (i + 1))
range_next i width below = let e : width - i ≡ suc (width - (i + 1)) = omega arith in rw e refl

-- two keys as a list
abbrev two : ℕ × ℕ → List ℕ
two p = p.0 ∷ p.1 ∷ []

with_first : (x : ℕ) (ys : List ℕ) → map two (map (λ y. (x, y)) ys) ≡ map (λ j. x ∷ j ∷ []) ys
with_first x [] = refl
with_first x (y ∷ ys) = ap (λ t. (x ∷ y ∷ []) ∷ t) (with_first x ys)

-- the pairs of the first column come first
pub pairs_first : (x : ℕ) (rest : List ℕ) → map (λ p. p.0 ∷ p.1 ∷ []) (pairs (x ∷ rest)) ≡ map (λ j. x ∷ j ∷ []) rest ++ map (λ p. p.0 ∷ p.1 ∷ []) (pairs rest)
pairs_first x rest = map-append two (map (λ y. (x, y)) rest) (pairs rest) ∙ ap (λ t. t ++ map two (pairs rest)) (with_first x rest)

-- one number more of a range
pub range_more : (out more whole : List ℕ) (i width : ℕ) → i < width → more ≡ out ++ i ∷ [] → out ++ range_with_len i (width - i) ≡ whole → more ++ range_with_len (i + 1) (width - (i + 1)) ≡ whole
range_more out more whole i width below is inv = rw (is, append_assoc) (rw (range_next i width below) at inv)

-- the pairs of what is left, where it begins at a place
pairs_at : (columns : List ℕ) (i : ℕ) → i < length columns
    → map (λ p. p.0 ∷ p.1 ∷ []) (pairs (drop i columns)) ≡ map (λ j. get_or columns i 0 ∷ j ∷ []) (drop (i + 1) columns) ++ map (λ p. p.0 ∷ p.1 ∷ []) (pairs (drop (i + 1) columns))
pairs_at columns i below = rw (drop_more columns i 0 below) (pairs_first (get_or columns i 0) (drop (i + 1) columns))

-- the pairs of one column more
pub pairs_more : (out more whole : List (List ℕ)) (columns : List ℕ) (i : ℕ) → i < length columns
    → more ≡ out ++ map (λ j. get_or columns i 0 ∷ j ∷ []) (drop (i + 1) columns)
    → out ++ map (λ p. p.0 ∷ p.1 ∷ []) (pairs (drop i columns)) ≡ whole → more ++ map (λ p. p.0 ∷ p.1 ∷ []) (pairs (drop (i + 1) columns)) ≡ whole
pairs_more out more whole columns i below is inv = rw (is, append_assoc) (rw (pairs_at columns i below) at inv)

-- Targets of which fewer candidates are left, one more at a time.
use Rattle.std.proofs.Common.{◌≡◌, sym, ap, ◌∙◌, ℕ, zero, suc, ◌+◌, ◌<◌, Bool, ◌&&◌, List, [], ◌∷◌, ◌++◌, length, map, take, drop, arith}
use Rattle.std.specs.Prelude.{nat_le}
use Rattle.std.specs.List.{slice_index_or}
use Rattle.std.proofs.lemmas.List.{drop_more, append_assoc, map-append, take_more}
use Rattle.map_walk.specs.declared.target.Target.{Target}
use Rattle.map_walk.specs.Narrow.{Fitting, narrow, narrowed}
use Rattle.map_walk.specs.Targets.{ones, are_enough}

pub fitting_at : (ts : List Target) (ms : List (List Bool)) (i : ℕ) (t : Target) (m : List Bool) → Fitting ts ms → i < length ts → t ≡ slice_index_or ts i t → m ≡ slice_index_or ms i m → length t.mask ≡ length m
fitting_at [] ms i t m fit below is_t is_m = absurd (omega arith)
fitting_at (x ∷ xs) [] i t m fit below is_t is_m = absurd fit
fitting_at (x ∷ xs) (y ∷ ys) zero t m fit below is_t is_m = ap (λ s. length s.mask) is_t ∙ fit.0 ∙ ap length (sym is_m)
fitting_at (x ∷ xs) (y ∷ ys) (suc i) t m fit below is_t is_m = fitting_at xs ys i t m fit.1 (omega arith) is_t is_m

pub fitting_below : (ts : List Target) (ms : List (List Bool)) (i : ℕ) → Fitting ts ms → i < length ts → i < length ms
fitting_below [] ms i fit below = absurd (omega arith)
fitting_below (x ∷ xs) [] i fit below = absurd fit
fitting_below (x ∷ xs) (y ∷ ys) zero fit below = omega arith
fitting_below (x ∷ xs) (y ∷ ys) (suc i) fit below = let rest = fitting_below xs ys i fit.1 (omega arith) in omega (arith, rest)

-- one more is mapped
pub mapped_more : {X Y : Type 0} (f : X → Y) (xs : List X) (i : ℕ) (x : X) (out new : List Y) (made : Y) → i < length xs → x ≡ slice_index_or xs i x → out ≡ map f (take i xs) → made ≡ f x → new ≡ out ++ made ∷ []
    → new ≡ map f (take (i + 1) xs)
mapped_more f xs i x out new made below is_x before is pushed =
    pushed
    ∙ ap (λ ys. ys ++ made ∷ []) before
    ∙ ap (λ y. map f (take i xs) ++ y ∷ []) (is ∙ ap f is_x)
    ∙ sym (map-append f (take i xs) (slice_index_or xs i x ∷ []))
    ∙ ap (map f) (sym (take_more xs i x below))

-- a target and its mask, and those behind them
pub narrowed_more : (ts : List Target) (ms : List (List Bool)) (i : ℕ) (t : Target) (m : List Bool) → i < length ts → i < length ms → t ≡ slice_index_or ts i t → m ≡ slice_index_or ms i m
    → narrowed (drop i ts) (drop i ms) ≡ narrow t m ∷ narrowed (drop (i + 1) ts) (drop (i + 1) ms)
narrowed_more ts ms i t m below_t below_m is_t is_m =
    ap (λ xs. narrowed xs (drop i ms)) (drop_more ts i t below_t)
    ∙ ap (narrowed (slice_index_or ts i t ∷ drop (i + 1) ts)) (drop_more ms i m below_m)
    ∙ ap (λ x. narrow x (slice_index_or ms i m) ∷ narrowed (drop (i + 1) ts) (drop (i + 1) ms)) (sym is_t)
    ∙ ap (λ y. narrow t y ∷ narrowed (drop (i + 1) ts) (drop (i + 1) ms)) (sym is_m)

-- whether each target has enough candidates left, told of those from a place on
pub enough_more : (ts : List Target) (ms : List (List Bool)) (i : ℕ) (t : Target) (m : List Bool) (whole b : Bool) → Fitting ts ms → i < length ts → t ≡ slice_index_or ts i t → m ≡ slice_index_or ms i m
    → whole ≡ are_enough (narrowed (drop i ts) (drop i ms)) → nat_le (narrow t m).copies (ones (narrow t m).mask) ≡ b → whole ≡ (b && are_enough (narrowed (drop (i + 1) ts) (drop (i + 1) ms)))
enough_more ts ms i t m whole b fit below is_t is_m before is =
    before
    ∙ ap are_enough (narrowed_more ts ms i t m below (fitting_below ts ms i fit below) is_t is_m)
    ∙ ap (λ c. c && are_enough (narrowed (drop (i + 1) ts) (drop (i + 1) ms))) is

-- one more is narrowed
pub push_more : (ts : List Target) (ms : List (List Bool)) (i : ℕ) (t : Target) (m : List Bool) (out new whole : List Target) (made : Target) → Fitting ts ms → i < length ts → t ≡ slice_index_or ts i t → m ≡ slice_index_or ms i m
    → out ++ narrowed (drop i ts) (drop i ms) ≡ whole → made ≡ narrow t m → new ≡ out ++ made ∷ [] → new ++ narrowed (drop (i + 1) ts) (drop (i + 1) ms) ≡ whole
push_more ts ms i t m out new whole made fit below is_t is_m before is pushed =
    ap (λ xs. xs ++ narrowed (drop (i + 1) ts) (drop (i + 1) ms)) pushed
    ∙ append_assoc out (made ∷ []) (narrowed (drop (i + 1) ts) (drop (i + 1) ms))
    ∙ ap (λ x. out ++ (x ∷ narrowed (drop (i + 1) ts) (drop (i + 1) ms))) is
    ∙ ap (λ xs. out ++ xs) (sym (narrowed_more ts ms i t m below (fitting_below ts ms i fit below) is_t is_m))
    ∙ before

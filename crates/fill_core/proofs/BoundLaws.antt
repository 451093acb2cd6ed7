-- Bounds that are passed, and what is left of them.
use Rattle.std.proofs.Common.{◌≡◌, sym, ap, subst, ◌∙◌, ℕ, ◌+◌, ◌<◌, ◌≤◌, arith, append_assoc, drop, get_or, length, List, ◌++◌, Option, Some, None}
use Rattle.std.specs.List.{flat_map, sum_by}
use Rattle.std.proofs.lemmas.List.{at_drop_more}
use Rattle.std.proofs.lemmas.Grind.{flat_map-append}
use Rattle.std.proofs.lemmas.List.Sums.{sum_by-append}
use Rattle.query_core.specs.Filled.{Filled}
use Rattle.fill_core.specs.Bounds.{Passes, IsWithin, Leaves}
use Rattle.fill_core.specs.Offers.{TooMuch}

-- what passes a bound does so with more
pub passes_more : (bound : Option ℕ) (m n : ℕ) → m ≤ n → Passes bound m → Passes bound n
passes_more None m n more passes = passes
passes_more (Some bound) m n more passes = omega (arith, more, passes)

-- what is left of a bound, after a number more
pub leaves_after : (bound left after : Option ℕ) (n more whole : ℕ) → Leaves bound left n → Leaves left after more → n + more ≡ whole → Leaves bound after whole
leaves_after None None None n more whole leaves so sum = tt
leaves_after None None (Some after) n more whole leaves so sum = absurd so
leaves_after None (Some left) after n more whole leaves so sum = absurd leaves
leaves_after (Some bound) None after n more whole leaves so sum = absurd leaves
leaves_after (Some bound) (Some left) None n more whole leaves so sum = absurd so
leaves_after (Some bound) (Some left) (Some after) n more whole leaves so sum = omega (arith, leaves, so, sum)

-- what passes what is left passes the bound, with what was there
pub passes_left : (bound left : Option ℕ) (n more : ℕ) → Leaves bound left n → Passes left more → Passes bound (n + more)
passes_left None None n more leaves passes = passes
passes_left None (Some left) n more leaves passes = absurd leaves
passes_left (Some bound) None n more leaves passes = absurd leaves
passes_left (Some bound) (Some left) n more leaves passes = omega (arith, leaves, passes)

-- where something is left of a bound, it isn't passed
pub is_within : (bound left : Option ℕ) (n : ℕ) → Leaves bound left n → IsWithin bound n
is_within None None n leaves = tt
is_within None (Some left) n leaves = absurd leaves
is_within (Some bound) None n leaves = absurd leaves
is_within (Some bound) (Some left) n leaves = omega (arith, leaves)

-- a bound of which nothing is taken is left whole
pub leaves_whole : (bound : Option ℕ) → Leaves bound bound 0
leaves_whole None = tt
leaves_whole (Some bound) = omega arith

module _ {Item : Type 0} (bound : Option ℕ) (weighs : Item → ℕ) (gives : Filled → List Item) where
  -- what is too much is so of equal fillings
  pub too_much_same : (held : List Item) (given wanted : List Filled) → given ≡ wanted → TooMuch bound weighs gives held given → TooMuch bound weighs gives held wanted
  too_much_same held given wanted same much = subst (λ fs. TooMuch bound weighs gives held fs) same much

  -- and with more fillings behind them
  pub too_much_more : (held : List Item) (front back : List Filled) → TooMuch bound weighs gives held front → TooMuch bound weighs gives held (front ++ back)
  too_much_more held front back much =
      let whole = ap (λ items. sum_by weighs (held ++ items)) (flat_map-append gives front back) ∙ ap (sum_by weighs) (sym (append_assoc held (flat_map gives front) (flat_map gives back))) ∙ sum_by-append weighs (held ++ flat_map gives front) (flat_map gives back) in
      passes_more bound (sum_by weighs (held ++ flat_map gives front)) (sum_by weighs (held ++ flat_map gives (front ++ back))) (omega (arith, whole)) much

  -- what is too much of one element's fillings is so of those of all
  pub too_much_at : {X : Type 0} (f : X → List Filled) (held before : List Item) (xs : List X) (i : ℕ) (x : X)
      → i < length xs → x ≡ get_or xs i x → held ++ flat_map gives (flat_map f (drop i xs)) ≡ before ++ flat_map gives (flat_map f xs)
      → TooMuch bound weighs gives held (f x) → TooMuch bound weighs gives before (flat_map f xs)
  too_much_at f held before xs i x within is so_far much =
      let here : f x ++ flat_map f (drop (i + 1) xs) ≡ flat_map f (drop i xs) = ap (λ y. f y ++ flat_map f (drop (i + 1) xs)) is ∙ sym (at_drop_more (flat_map f) xs i x within) in
      let all = too_much_same held _ _ here (too_much_more held (f x) (flat_map f (drop (i + 1) xs)) much) in
      subst (λ items. Passes bound (sum_by weighs items)) so_far all

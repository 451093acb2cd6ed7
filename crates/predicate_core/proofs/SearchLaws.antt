-- Laws of a search for an atom: what it has passed, and the place that it found.
use Rattle.std.proofs.Common.{◌≡◌, refl, sym, ap, ◌∙◌, ◌+◌, ◌≤◌, List, [], ◌∷◌, ◌++◌, length, arith, length-append}
use Rattle.predicate_core.specs.declared.atom.Atom.{Atom}
use Rattle.predicate_core.specs.declared.search.Search.{Search}
use Rattle.predicate_core.specs.Search.{passed, searched}

-- to pass atoms and then others is to pass them all
pub searched_append : (s : Search) (xs ys : List Atom) → searched s (xs ++ ys) ≡ searched (searched s xs) ys
searched_append s [] ys = refl
searched_append s (x ∷ xs) ys = searched_append (passed s x) xs ys

-- how many atoms a search has passed
pub searched_count : (s : Search) (xs : List Atom) → (searched s xs).count ≡ s.count + length xs
searched_count s [] = omega arith
searched_count s (x ∷ xs) = omega (arith, searched_count (passed s x) xs)

-- a turn of a loop passes the first part of what is left
pub turn : (s r end : Search) (all part rest : List Atom) → all ≡ part ++ rest → r ≡ searched s part → searched s all ≡ end → s.count + length all ≤ 100000 → (searched r rest ≡ end) × (r.count + length rest ≤ 100000)
turn s r end all part rest split is whole few =
    let joined : searched s all ≡ searched (searched s part) rest = ap (searched s) split ∙ searched_append s part rest in
    let counted : r.count ≡ s.count + length part = ap (λ x. x.count) is ∙ searched_count s part in
    let long : length all ≡ length part + length rest = ap length split ∙ length-append part rest in
    (ap (λ x. searched x rest) is ∙ sym joined ∙ whole, omega (arith, counted, long))

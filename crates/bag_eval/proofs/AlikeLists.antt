-- The first alike of joined atoms, a first atom at a time.
use Rattle.std.proofs.Common.{◌≡◌, refl, sym, ap, ◌∙◌, ℕ, ◌+◌, ◌<◌, Bool, List, [], ◌∷◌, ◌++◌, Option, map, length, drop, get_or}
use Rattle.std.specs.Prelude.{find}
use Rattle.std.specs.Option.{option_or}
use Rattle.std.proofs.lemmas.List.{at_drop_more}
use Rattle.std.proofs.lemmas.List.Folds.{find-append}
use Rattle.predicate_core.specs.declared.atom.Atom.{Atom}
use Rattle.predicate_core.specs.declared.pred.Pred.{Pred}
use Rattle.predicate_core.specs.Atoms.{pairs, triples}
use Rattle.bag_eval.specs.Alike.{two_joined, three_joined, pairs_joined, pairs_under, triples_joined}
use Rattle.bag_eval.specs.declared.alike.Joining.{Joining}

mapped_twice : {A B C : Type 0} (f : B → C) (g : A → B) (xs : List A) → map f (map g xs) ≡ map (λ x. f (g x)) xs
mapped_twice f g [] = refl
mapped_twice f g (x ∷ xs) = ap (λ rest. f (g x) ∷ rest) (mapped_twice f g xs)

mapped_parts : {A B : Type 0} (f : A → B) (xs ys : List A) → map f (xs ++ ys) ≡ map f xs ++ map f ys
mapped_parts f [] ys = refl
mapped_parts f (x ∷ xs) ys = ap (λ rest. f x ∷ rest) (mapped_parts f xs ys)

-- what a test finds among the images of two lists, of which the first is itself of images
found_parts : {A B : Type 0} (test : Pred → Bool) (f : B → Pred) (g : A → B) (xs : List A) (ys : List B) → find test (map f (map g xs ++ ys)) ≡ option_or (find test (map (λ x. f (g x)) xs)) (find test (map f ys))
found_parts test f g xs ys =
    ap (find test) (mapped_parts f (map g xs) ys)
    ∙ find-append test (map f (map g xs)) (map f ys)
    ∙ ap (λ zs. option_or (find test zs) (find test (map f ys))) (mapped_twice f g xs)

pairs_found : (test : Pred → Bool) (joining : Joining) (a : Atom) (rest : List Atom) → find test (pairs_joined joining (a ∷ rest)) ≡ option_or (find test (map (two_joined joining a) rest)) (find test (pairs_joined joining rest))
pairs_found test joining a rest = found_parts test (λ p. two_joined joining p.0 p.1) (λ b. (a, b)) rest (pairs rest)

under_found : (test : Pred → Bool) (joining : Joining) (a b : Atom) (rest : List Atom) → find test (pairs_under joining a (b ∷ rest)) ≡ option_or (find test (map (three_joined joining a b) rest)) (find test (pairs_under joining a rest))
under_found test joining a b rest = found_parts test (λ p. three_joined joining a p.0 p.1) (λ c. (b, c)) rest (pairs rest)

triples_found : (test : Pred → Bool) (joining : Joining) (a : Atom) (rest : List Atom) → find test (triples_joined joining (a ∷ rest)) ≡ option_or (find test (pairs_under joining a rest)) (find test (triples_joined joining rest))
triples_found test joining a rest = found_parts test (λ p. three_joined joining p.0 p.1 p.2) (λ p. (a, p.0, p.1)) (pairs rest) (triples rest)

-- what is found from a place on: what is found with the atom there as the first, or what is found from the next place on
pub pairs_turn : (test : Pred → Bool) (joining : Joining) (atoms : List Atom) (i : ℕ) (d : Atom) (o : Option Pred) → i < length atoms → o ≡ find test (map (two_joined joining (get_or atoms i d)) (drop (i + 1) atoms)) → find test (pairs_joined joining (drop i atoms)) ≡ option_or o (find test (pairs_joined joining (drop (i + 1) atoms)))
pairs_turn test joining atoms i d o within is =
    at_drop_more (λ rest. find test (pairs_joined joining rest)) atoms i d within
    ∙ pairs_found test joining (get_or atoms i d) (drop (i + 1) atoms)
    ∙ ap (λ found. option_or found (find test (pairs_joined joining (drop (i + 1) atoms)))) (sym is)

-- what is found from a place on: what is found with the atom there as the first, or what is found from the next place on
pub under_turn : (test : Pred → Bool) (joining : Joining) (a : Atom) (atoms : List Atom) (i : ℕ) (d : Atom) (o : Option Pred) → i < length atoms → o ≡ find test (map (three_joined joining a (get_or atoms i d)) (drop (i + 1) atoms)) → find test (pairs_under joining a (drop i atoms)) ≡ option_or o (find test (pairs_under joining a (drop (i + 1) atoms)))
under_turn test joining a atoms i d o within is =
    at_drop_more (λ rest. find test (pairs_under joining a rest)) atoms i d within
    ∙ under_found test joining a (get_or atoms i d) (drop (i + 1) atoms)
    ∙ ap (λ found. option_or found (find test (pairs_under joining a (drop (i + 1) atoms)))) (sym is)

-- what is found from a place on: what is found with the atom there as the first, or what is found from the next place on
pub triples_turn : (test : Pred → Bool) (joining : Joining) (atoms : List Atom) (i : ℕ) (d : Atom) (o : Option Pred) → i < length atoms → o ≡ find test (pairs_under joining (get_or atoms i d) (drop (i + 1) atoms)) → find test (triples_joined joining (drop i atoms)) ≡ option_or o (find test (triples_joined joining (drop (i + 1) atoms)))
triples_turn test joining atoms i d o within is =
    at_drop_more (λ rest. find test (triples_joined joining rest)) atoms i d within
    ∙ triples_found test joining (get_or atoms i d) (drop (i + 1) atoms)
    ∙ ap (λ found. option_or found (find test (triples_joined joining (drop (i + 1) atoms)))) (sym is)

-- what is found in two lists: what is found in the first, or else in the second
pub found_append : (test : Pred → Bool) (xs ys : List Pred) → find test (xs ++ ys) ≡ option_or (find test xs) (find test ys)
found_append test xs ys = find-append test xs ys

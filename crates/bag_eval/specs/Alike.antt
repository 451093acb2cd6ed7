-- The first alike, predicate by predicate.
use Rattle.std.specs.Prelude.{List, Option, find, map}
use Rattle.value_core.specs.declared.value.Value.{Value}
use Rattle.predicate_core.specs.declared.atom.Atom.{Atom}
use Rattle.predicate_core.specs.declared.pred.Pred.{Pred}
use Rattle.predicate_core.specs.declared.pred.Pred.TheVariants.{And2, Or2, And3, Or3}
use Rattle.predicate_core.specs.Atoms.{pairs, triples}
use Rattle.table_core.specs.Rows.{Row}
use Rattle.query_core.specs.Standard.{alike}
use Rattle.bag_eval.specs.declared.alike.Joining.{Joining}
use Rattle.bag_eval.specs.declared.alike.Joining.TheVariants.{And, Or}

-- the first of these predicates that keeps the same of some rows as p, if there is one
abbrev pub found_alike : List Value → List Row → Pred → List Pred → Option Pred
found_alike constants candidates p preds = find (alike constants candidates p) preds

-- two atoms joined
abbrev pub two_joined : Joining → Atom → Atom → Pred
two_joined And a b = And2 a b
two_joined Or a b = Or2 a b

-- three atoms joined
abbrev pub three_joined : Joining → Atom → Atom → Atom → Pred
three_joined And a b c = And3 a b c
three_joined Or a b c = Or3 a b c

-- each two of some atoms joined
abbrev pub pairs_joined : Joining → List Atom → List Pred
pairs_joined joining atoms = map (λ p. two_joined joining p.0 p.1) (pairs atoms)

-- an atom joined with each two of some others
abbrev pub pairs_under : Joining → Atom → List Atom → List Pred
pairs_under joining a atoms = map (λ p. three_joined joining a p.0 p.1) (pairs atoms)

-- each three of some atoms joined
abbrev pub triples_joined : Joining → List Atom → List Pred
triples_joined joining atoms = map (λ p. three_joined joining p.0 p.1 p.2) (triples atoms)

use Rattle.std.proofs.Common.{◌≡◌, ◌∷◌, [], ◌++◌, map, drop}
use Rattle.predicate_core.specs.Atoms.{pairs}
use Rattle.skeleton_graph.proofs.keys.push_key_pairs.Given as goal

abbrev pub invariant-loop-place : goal.invariant-loop-place
invariant-loop-place l = l.out ++ map (λ p. p.0 ∷ p.1 ∷ []) (pairs (drop l.place l.columns)) ≡ l.initial.out ++ map (λ p. p.0 ∷ p.1 ∷ []) (pairs l.columns)

use Rattle.std.proofs.Common.{◌≡◌, ◌∷◌, [], ◌++◌, ◌+◌, map, drop}
use Rattle.skeleton_graph.proofs.keys.push_pairs_from.Given as goal

abbrev pub invariant-loop-i : goal.invariant-loop-i
invariant-loop-i l = l.out ++ map (λ j. l.first ∷ j ∷ []) (drop l.i l.columns) ≡ l.initial.out ++ map (λ j. l.first ∷ j ∷ []) (drop (l.place + 1) l.columns)

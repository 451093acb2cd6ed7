-- `same_tree` is equality, and a proper part of a tree has fewer operators.
use Rattle.std.proofs.Common.{◌≡◌, refl, ap, ◌<◌, ◌≤◌, true, false, ◌==◌, ◌||◌, inl, inr, Decides, arith}
use Rattle.std.specs.Cmp.Lexicographic.{pointwise}
use Rattle.std.proofs.lemmas.Bool.{false≢true, or_cases}
use Rattle.std.proofs.lemmas.Bool.Decides.{Decides-eqb, Decides-and, Decides-like}
use Rattle.std.proofs.lemmas.Slice.Eq.{slice_eq-Decides}
use Rattle.predicate_core.proofs.SameLaws.{same_pred_decides}
use Rattle.query_core.specs.Tree.{Tree}
use Rattle.query_core.specs.Tree as t
use Rattle.query_core.specs.Skeleton.{operators}
use Rattle.query_core.specs.declared.agg.Agg.{Agg}
use Rattle.query_core.specs.declared.agg.Agg.TheVariants.{CountAll, Count, CountDistinct, Sum, Min, Max}
use Rattle.query_core.specs.declared.kinds.Pairing.{Pairing}
use Rattle.query_core.specs.declared.kinds.Pairing.TheVariants.{Join, Left}
use Rattle.query_core.specs.declared.kinds.Uniting.{Uniting}
use Rattle.query_core.specs.declared.kinds.Uniting.TheVariants.{All, Firsts}
use Rattle.skeleton_graph.specs.Below.{same_pairing, same_uniting, same_agg, same_tree, has_below}

-- a test that says no of what can't be
apart : {P : Type 0} → (P → ⊥) → Decides false P
apart never = (λ e. absurd (false≢true e), λ p. absurd (never p))

same_pairing_decides : (a b : Pairing) → Decides (same_pairing a b) (a ≡ b)
same_pairing_decides Join Join = (λ e. refl, λ e. refl)
same_pairing_decides Left Left = (λ e. refl, λ e. refl)
same_pairing_decides _ _ = apart (λ e. cc)

same_uniting_decides : (a b : Uniting) → Decides (same_uniting a b) (a ≡ b)
same_uniting_decides All All = (λ e. refl, λ e. refl)
same_uniting_decides Firsts Firsts = (λ e. refl, λ e. refl)
same_uniting_decides _ _ = apart (λ e. cc)

same_agg_decides : (a b : Agg) → Decides (same_agg a b) (a ≡ b)
same_agg_decides CountAll CountAll = (λ e. refl, λ e. refl)
same_agg_decides (Count i) (Count j) = Decides-like _ (λ e. ap Count e) (λ e. cc) (Decides-eqb i j)
same_agg_decides (CountDistinct i) (CountDistinct j) = Decides-like _ (λ e. ap CountDistinct e) (λ e. cc) (Decides-eqb i j)
same_agg_decides (Sum i) (Sum j) = Decides-like _ (λ e. ap Sum e) (λ e. cc) (Decides-eqb i j)
same_agg_decides (Min i) (Min j) = Decides-like _ (λ e. ap Min e) (λ e. cc) (Decides-eqb i j)
same_agg_decides (Max i) (Max j) = Decides-like _ (λ e. ap Max e) (λ e. cc) (Decides-eqb i j)
same_agg_decides _ _ = apart (λ e. cc)

-- two trees are the same exactly where they are equal
pub same_tree_decides : (a b : Tree) → Decides (same_tree a b) (a ≡ b)
same_tree_decides (t.base i) (t.base j) = Decides-like _ (λ e. ap t.base e) (λ e. cc) (Decides-eqb i j)
same_tree_decides (t.filter a p) (t.filter b q) = Decides-like _ (λ s. let f = s.0 in let g = s.1 in cc) (λ s. (cc, cc)) (Decides-and _ _ (same_tree_decides a b) (same_pred_decides p q))
same_tree_decides (t.pair kind a b p) (t.pair other c d q) =
    Decides-like _ (λ s. let f = s.0 in let g = s.1.0 in let h = s.1.1.0 in let i = s.1.1.1 in cc) (λ s. (cc, (cc, (cc, cc))))
    (Decides-and _ _ (same_pairing_decides kind other) (Decides-and _ _ (same_tree_decides a c) (Decides-and _ _ (same_tree_decides b d) (same_pred_decides p q))))
same_tree_decides (t.group a keys agg) (t.group b others other) =
    Decides-like _ (λ s. let f = s.0 in let g = s.1.0 in let h = s.1.1 in cc) (λ s. (cc, (cc, cc)))
    (Decides-and _ _ (same_tree_decides a b) (Decides-and _ _ (slice_eq-Decides Decides-eqb keys others (pointwise ◌==◌ keys others) refl) (same_agg_decides agg other)))
same_tree_decides (t.unite kind a b) (t.unite other c d) =
    Decides-like _ (λ s. let f = s.0 in let g = s.1.0 in let h = s.1.1 in cc) (λ s. (cc, (cc, cc)))
    (Decides-and _ _ (same_uniting_decides kind other) (Decides-and _ _ (same_tree_decides a c) (same_tree_decides b d)))
same_tree_decides _ _ = apart (λ e. cc)

-- a tree, and a proper part of it, has no more operators than it
no_more : (a part : Tree) → (has_below a part ≡ true → operators part < operators a) → (same_tree a part || has_below a part) ≡ true → operators part ≤ operators a
no_more a part less is =
    elim (or_cases (same_tree a part) (has_below a part) is) [
      | inl e ↦ let same = ap operators ((same_tree_decides a part).0 e) in omega (arith, same)
      | inr e ↦ let under = less e in omega (arith, under)
    ]

-- a proper part of a tree has fewer operators
pub below_less : (whole part : Tree) → has_below whole part ≡ true → operators part < operators whole
below_less (t.base table) part is = absurd (false≢true is)
below_less (t.filter child p) part is = let most = no_more child part (below_less child part) is in omega (arith, most)
below_less (t.pair kind a b p) part is =
    elim (or_cases (same_tree a part || has_below a part) (same_tree b part || has_below b part) is) [
      | inl e ↦ let most = no_more a part (below_less a part) e in omega (arith, most)
      | inr e ↦ let most = no_more b part (below_less b part) e in omega (arith, most)
    ]
below_less (t.group child keys agg) part is = let most = no_more child part (below_less child part) is in omega (arith, most)
below_less (t.unite kind a b) part is =
    elim (or_cases (same_tree a part || has_below a part) (same_tree b part || has_below b part) is) [
      | inl e ↦ let most = no_more a part (below_less a part) e in omega (arith, most)
      | inr e ↦ let most = no_more b part (below_less b part) e in omega (arith, most)
    ]

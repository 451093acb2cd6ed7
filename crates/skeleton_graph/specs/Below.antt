-- Which trees have which as parts.
use Rattle.std.specs.Prelude.{Bool, true, false, ◌==◌, ◌&&◌, ◌||◌}
use Rattle.std.specs.Cmp.Lexicographic.{pointwise}
use Rattle.predicate_core.specs.Equal.{same_pred}
use Rattle.query_core.specs.Tree.{Tree}
use Rattle.query_core.specs.Tree as t
use Rattle.query_core.specs.declared.agg.Agg.{Agg}
use Rattle.query_core.specs.declared.agg.Agg.TheVariants.{CountAll, Count, CountDistinct, Sum, Min, Max}
use Rattle.query_core.specs.declared.kinds.Pairing.{Pairing}
use Rattle.query_core.specs.declared.kinds.Pairing.TheVariants.{Join, Left}
use Rattle.query_core.specs.declared.kinds.Uniting.{Uniting}
use Rattle.query_core.specs.declared.kinds.Uniting.TheVariants.{All, Firsts}

-- whether two kinds of pairs are the same
abbrev pub same_pairing : Pairing → Pairing → Bool
same_pairing Join Join = true
same_pairing Left Left = true
same_pairing _ _ = false

-- whether two kinds of unions are the same
abbrev pub same_uniting : Uniting → Uniting → Bool
same_uniting All All = true
same_uniting Firsts Firsts = true
same_uniting _ _ = false

-- whether two aggregates are the same
abbrev pub same_agg : Agg → Agg → Bool
same_agg CountAll CountAll = true
same_agg (Count i) (Count j) = i == j
same_agg (CountDistinct i) (CountDistinct j) = i == j
same_agg (Sum i) (Sum j) = i == j
same_agg (Min i) (Min j) = i == j
same_agg (Max i) (Max j) = i == j
same_agg _ _ = false

-- whether two trees are the same: their roots are, and so are the parts of these
abbrev pub same_tree : Tree → Tree → Bool
same_tree (t.base i) (t.base j) = i == j
same_tree (t.filter a p) (t.filter b q) = same_tree a b && same_pred p q
same_tree (t.pair kind a b p) (t.pair other c d q) = same_pairing kind other && (same_tree a c && (same_tree b d && same_pred p q))
same_tree (t.group a keys agg) (t.group b others other) = same_tree a b && (pointwise ◌==◌ keys others && same_agg agg other)
same_tree (t.unite kind a b) (t.unite other c d) = same_uniting kind other && (same_tree a c && same_tree b d)
same_tree _ _ = false

-- whether a tree has another as a proper part: one of its own parts is the same, or has it as a proper part
abbrev pub has_below : Tree → Tree → Bool
has_below (t.base table) part = false
has_below (t.filter child p) part = same_tree child part || has_below child part
has_below (t.pair kind a b p) part = (same_tree a part || has_below a part) || (same_tree b part || has_below b part)
has_below (t.group child keys agg) part = same_tree child part || has_below child part
has_below (t.unite kind a b) part = (same_tree a part || has_below a part) || (same_tree b part || has_below b part)

-- The trees of pairs and unions, and lists put behind one another.
use Rattle.std.proofs.Common.{◌≡◌, ◌⊎◌, ℕ, inl, inr, List, ◌++◌, sym, ap, ◌∙◌}
use Rattle.std.proofs.lemmas.List.{append_assoc}
use Rattle.predicate_core.specs.declared.pred.Pred.{Pred}
use Rattle.query_core.specs.Tree.{Tree}
use Rattle.query_core.specs.Tree as t
use Rattle.query_core.specs.View.{layer, tree}
use Rattle.query_core.specs.declared.kinds.Pairing.{Pairing}
use Rattle.query_core.specs.declared.kinds.Pairing.TheVariants.{Join, Left}
use Rattle.query_core.specs.declared.kinds.Uniting.{Uniting}
use Rattle.query_core.specs.declared.kinds.Uniting.TheVariants.{All, Firsts}
use Rattle.query_core.specs.declared.node.Node as n
use Rattle.query_core.specs.declared.node.Node.{Node, fold-roll-Node}
use Rattle.query_core.specs.declared.node.Node.TheVariants.{rolls-Join, rolls-Left, rolls-UnionAll, rolls-Union}

tree_join : (a b : Node) (p : Pred) → tree (n.Join a b p) ≡ t.pair Join (tree a) (tree b) p
tree_join a b p = ap tree (sym (rolls-Join a b p)) ∙ fold-roll-Node Tree layer _

tree_left : (a b : Node) (p : Pred) → tree (n.Left a b p) ≡ t.pair Left (tree a) (tree b) p
tree_left a b p = ap tree (sym (rolls-Left a b p)) ∙ fold-roll-Node Tree layer _

-- a join and a left join are pairs
pub pair_of : (node a b : Node) (p : Pred) → (node ≡ n.Join a b p) ⊎ (node ≡ n.Left a b p) → (kind : Pairing) × (tree node ≡ t.pair kind (tree a) (tree b) p)
pair_of node a b p (inl e) = (Join, ap tree e ∙ tree_join a b p)
pair_of node a b p (inr e) = (Left, ap tree e ∙ tree_left a b p)

tree_union_all : (a b : Node) → tree (n.UnionAll a b) ≡ t.unite All (tree a) (tree b)
tree_union_all a b = ap tree (sym (rolls-UnionAll a b)) ∙ fold-roll-Node Tree layer _

tree_union : (a b : Node) → tree (n.Union a b) ≡ t.unite Firsts (tree a) (tree b)
tree_union a b = ap tree (sym (rolls-Union a b)) ∙ fold-roll-Node Tree layer _

pub union_of : (node a b : Node) → (node ≡ n.UnionAll a b) ⊎ (node ≡ n.Union a b) → (kind : Uniting) × (tree node ≡ t.unite kind (tree a) (tree b))
union_of node a b (inl e) = (All, ap tree e ∙ tree_union_all a b)
union_of node a b (inr e) = (Firsts, ap tree e ∙ tree_union a b)

-- two lists behind a list, and one more behind them
pub two_behind : (xs ys zs ws : List ℕ) → ((xs ++ ys) ++ zs) ++ ws ≡ xs ++ ((ys ++ zs) ++ ws)
two_behind xs ys zs ws = simp append_assoc

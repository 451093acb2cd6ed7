-- The trees of nodes, by their variants.
use Rattle.std.proofs.Common.{◌≡◌, ℕ, List, sym, ap, ◌∙◌}
use Rattle.predicate_core.specs.declared.pred.Pred.{Pred}
use Rattle.query_core.specs.Tree.{Tree}
use Rattle.query_core.specs.Tree as t
use Rattle.query_core.specs.View.{layer, tree}
use Rattle.query_core.specs.declared.agg.Agg.{Agg}
use Rattle.query_core.specs.declared.node.Node as n
use Rattle.query_core.specs.declared.node.Node.{Node, fold-roll-Node}
use Rattle.query_core.specs.declared.node.Node.TheVariants.{rolls-Base, rolls-Filter, rolls-Join, rolls-Left, rolls-Group, rolls-UnionAll, rolls-Union}
use Rattle.query_core.specs.declared.kinds.Pairing.TheVariants.{Join, Left}
use Rattle.query_core.specs.declared.kinds.Uniting.TheVariants.{All, Firsts}

pub tree_base : (table : ℕ) → tree (n.Base table) ≡ t.base table
tree_base table = ap tree (sym (rolls-Base table)) ∙ fold-roll-Node Tree layer _

pub tree_filter : (child : Node) (p : Pred) → tree (n.Filter child p) ≡ t.filter (tree child) p
tree_filter child p = ap tree (sym (rolls-Filter child p)) ∙ fold-roll-Node Tree layer _

pub tree_group : (child : Node) (keys : List ℕ) (agg : Agg) → tree (n.Group child keys agg) ≡ t.group (tree child) keys agg
tree_group child keys agg = ap tree (sym (rolls-Group child keys agg)) ∙ fold-roll-Node Tree layer _

pub tree_join : (a b : Node) (p : Pred) → tree (n.Join a b p) ≡ t.pair Join (tree a) (tree b) p
tree_join a b p = ap tree (sym (rolls-Join a b p)) ∙ fold-roll-Node Tree layer _

pub tree_left : (a b : Node) (p : Pred) → tree (n.Left a b p) ≡ t.pair Left (tree a) (tree b) p
tree_left a b p = ap tree (sym (rolls-Left a b p)) ∙ fold-roll-Node Tree layer _

pub tree_union_all : (a b : Node) → tree (n.UnionAll a b) ≡ t.unite All (tree a) (tree b)
tree_union_all a b = ap tree (sym (rolls-UnionAll a b)) ∙ fold-roll-Node Tree layer _

pub tree_union : (a b : Node) → tree (n.Union a b) ≡ t.unite Firsts (tree a) (tree b)
tree_union a b = ap tree (sym (rolls-Union a b)) ∙ fold-roll-Node Tree layer _

-- The plain data that a `Node` and a `Query` stand for.
use Rattle.query_core.specs.Tree.{Tree, Select}
use Rattle.query_core.specs.Tree as t
use Rattle.query_core.specs.declared.node.Node.{Node, fold-Node}
use Rattle.query_core.specs.declared.node.Node.TheOpen.{Node-F}
use Rattle.query_core.specs.declared.kinds.Pairing.TheVariants.{Join, Left}
use Rattle.query_core.specs.declared.kinds.Uniting.TheVariants.{All, Firsts}
use Rattle.query_core.specs.declared.query.Query.{Query}

-- one level, with each tree inside already seen
abbrev pub layer : Node-F Tree → Tree
layer (Node-F.Base n) = t.base n
layer (Node-F.Filter child p) = t.filter child p
layer (Node-F.Join a b p) = t.pair Join a b p
layer (Node-F.Left a b p) = t.pair Left a b p
layer (Node-F.Group child keys agg) = t.group child keys agg
layer (Node-F.UnionAll a b) = t.unite All a b
layer (Node-F.Union a b) = t.unite Firsts a b

-- the tree of a node
abbrev pub tree : Node → Tree
tree = fold-Node Tree layer

-- the plain query
abbrev pub select : Query → Select
select q = record { body = tree q.body; picks = q.map; distinct = q.distinct }

-- Laws of the graph of a task.
use Rattle.std.proofs.Common.{◌≡◌, ℕ, ◌≤◌, List, [], map, length, sym, ap, ◌∙◌, arith}
use Rattle.std.proofs.lemmas.List.{length-map}
use Rattle.value_core.specs.declared.value.ColType.{ColType}
use Rattle.table_core.specs.declared.task.TaskParts.{TaskParts}
use Rattle.query_core.specs.Meaning.{columns}
use Rattle.query_core.specs.Grammar.{skeletons}
use Rattle.skeleton_graph.specs.declared.node.SkelNode.{SkelNode}
use Rattle.skeleton_graph.specs.declared.levels.Levels.{Levels}
use Rattle.skeleton_graph.specs.Nodes.{trees_of}
use Rattle.skeleton_graph.specs.Links.{linked_all}
use Rattle.skeleton_graph.specs.Seen.{all_of}
use Rattle.skeleton_graph.specs.View.{parts_of}
use Rattle.skeleton_graph.specs.Listing.{placed_levels}
use Rattle.skeleton_graph.specs.GraphData.{IsGraph}
use Rattle.skeleton_graph.proofs.LinkLaws.{linked_trees, linked_count}
use Rattle.skeleton_graph.proofs.BoundLaws.{PartsFirst, children_first}
use Rattle.skeleton_graph.proofs.ChainLaws.{Exact, exact_is, chains_are, older_are}
use Rattle.skeleton_graph.proofs.OrderLaws.{lefts_first, rights_first}
use Rattle.skeleton_graph.proofs.PlacedLaws.{count_is}
use Rattle.skeleton_graph.proofs.ShapeLaws.{nodes_have}
use Rattle.skeleton_graph.proofs.SimLaws.{same_levels}

-- how many skeletons there are
pub size_is : (task : TaskParts) → (placed_levels task task.ops).count ≡ length (skeletons task)
size_is task = (same_levels task task.ops).count

pub few_listed : (task : TaskParts) (l : Levels) → l ≡ placed_levels task task.ops → l.count ≤ 100000 → length (all_of l.levels) ≤ 100000
few_listed task l is few =
    let count : l.count ≡ length (all_of l.levels) = rw is (count_is task task.ops) in
    omega (arith, count, few)

pub trees_are : (task : TaskParts) (l : Levels) (nodes : List SkelNode) → l ≡ placed_levels task task.ops → nodes ≡ linked_all [] (parts_of (all_of l.levels)) → trees_of nodes ≡ skeletons task
trees_are task l nodes is made =
    ap trees_of (made ∙ ap (λ x. linked_all [] (parts_of (all_of x.levels))) is) ∙ linked_trees (parts_of (all_of (placed_levels task task.ops).levels)) ∙ (same_levels task task.ops).trees

pub types_are : (task : TaskParts) (l : Levels) (types : List (List ColType)) → l ≡ placed_levels task task.ops → types ≡ map (λ p. p.types) (parts_of (all_of l.levels)) → types ≡ map (columns task.inputs) (skeletons task)
types_are task l types is made = made ∙ ap (λ x. map (λ p. p.types) (parts_of (all_of x.levels))) is ∙ (same_levels task task.ops).types

parts_counted : (task : TaskParts) (n : ℕ) → (placed_levels task n).count ≡ length (parts_of (all_of (placed_levels task n).levels))
parts_counted task n = count_is task n ∙ sym (length-map (all_of (placed_levels task n).levels) (λ p. p.part))

pub is_graph : (task : TaskParts) (l : Levels) (nodes : List SkelNode) (types : List (List ColType)) → l ≡ placed_levels task task.ops → l.count ≤ 100000
    → nodes ≡ linked_all [] (parts_of (all_of l.levels)) → types ≡ map (λ p. p.types) (parts_of (all_of l.levels)) → IsGraph nodes types
is_graph task l nodes types is few made typed =
    let parts = parts_of (all_of l.levels) in
    let one : length nodes ≡ length parts = ap length made ∙ linked_count parts in
    let two : length types ≡ length parts = ap length typed ∙ length-map parts (λ p. p.types) in
    let all : length parts ≡ length (all_of l.levels) = length-map (all_of l.levels) (λ p. p.part) in
    let order : PartsFirst 0 parts = rw is (children_first task task.ops (parts_counted task)) in
    let exact : Exact nodes = rw made (exact_is parts order) in
    record {
      sizes = two ∙ sym one;
      few = let most = few_listed task l is few in omega (arith, one, all, most);
      lefts = rw made (lefts_first parts order);
      rights = rw made (rights_first parts order);
      older = older_are nodes exact;
      chains = chains_are nodes exact;
      shaped = rw (made ∙ ap (λ x. linked_all [] (parts_of (all_of x.levels))) is) (nodes_have task task.ops);
    }

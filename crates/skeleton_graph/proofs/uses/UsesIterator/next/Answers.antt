use Rattle.std.proofs.Common.{rules, ◌≡◌, ◌/◌, ◌%◌, ℕ, Option, Some, List, ◌∷◌, map, length, sym, ap, ◌∙◌}
use Rattle.skeleton_graph.specs.Nodes.{next_use, chain_from, user_and_side}
use Rattle.skeleton_graph.specs.GraphData.{Descends}
use Rattle.skeleton_graph.specs.declared.node.SkelNode.{SkelNode}
use Rattle.skeleton_graph.proofs.ChainLaws.{below_is, chain_next}
use Rattle.skeleton_graph.proofs.uses.UsesIterator.next.Goals as goal

first_left : (nodes : List SkelNode) (whole : List (ℕ × ℕ)) (next older : Option ℕ) (number : ℕ) → Descends (next_use nodes) → whole ≡ map user_and_side (chain_from nodes next) → next ≡ Some number → older ≡ next_use nodes number
    → whole ≡ (number / 2, number % 2) ∷ map user_and_side (chain_from nodes older)
first_left nodes whole next older number down is some is_older =
    is ∙ ap (λ n. map user_and_side (chain_from nodes n)) some ∙ ap (map user_and_side) (chain_next nodes (below_is (next_use nodes) down) number)
    ∙ ap (λ n. (number / 2, number % 2) ∷ map user_and_side (chain_from nodes n)) (sym is_older)

pub returns-clause-steps : goal.returns-clause-steps
returns-clause-steps c = first_left c.self.inside.nodes.now c.args.self.now c.self.inside.next c.next_use-self-inside.result c.in_ok-number.number c.self.invariant (sym c.self.view_is) c.in_ok-number.was c.next_use-self-inside.ensures

pub returns-clause-goes : goal.returns-clause-goes
returns-clause-goes c =
    let steps = first_left c.self.inside.nodes.now c.args.self.now c.self.inside.next c.next_use-self-inside.result c.in_ok-number.number c.self.invariant (sym c.self.view_is) c.in_ok-number.was c.next_use-self-inside.ensures in
    let sizes = ap length steps in
    search (rules, sizes, steps)

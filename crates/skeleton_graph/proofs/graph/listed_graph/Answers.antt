use Rattle.std.proofs.Common.{◌≡◌, [], map, length, Err, ap, ◌∙◌, arith}
use Rattle.std.proofs.lemmas.Result.{err_from_is_err_and}
use Rattle.query_core.specs.Meaning.{columns}
use Rattle.query_core.specs.Grammar.{skeletons}
use Rattle.table_core.specs.declared.task.TaskParts.{TaskParts}
use Rattle.skeleton_graph.specs.Seen.{all_of}
use Rattle.skeleton_graph.specs.View.{parts_of}
use Rattle.skeleton_graph.specs.Links.{linked_all}
use Rattle.skeleton_graph.specs.declared.fault.ListFault.TheVariants as list
use Rattle.skeleton_graph.proofs.GraphLaws.{size_is, few_listed, trees_are, types_are, is_graph}
use Rattle.skeleton_graph.proofs.graph.listed_graph.Goals as goal

pub returns-in_err-listed-clause-many : goal.returns-in_err-listed-clause-many
returns-in_err-listed-clause-many c =
    λ e.
    let p = err_from_is_err_and c.from_residual.result c.from_residual.ensures.1 in
    let same : c.in_err-listed.field-0.0 ≡ list.TooMany = cc in
    let most = c.in_err-listed.ensures.many (ap Err same) in
    let size = size_is c.parts-parts.result.now in
    let task : length (skeletons c.parts-parts.result.now) ≡ length (skeletons c.args.task.now) = ap (λ t. length (skeletons t)) c.parts-parts.ensures.parts in
    omega (arith, most, size, task)

pub link_all-requires : goal.link_all-requires
link_all-requires c =
    let most = few_listed c.parts-parts.result.now c.in_ok-listed.listed c.in_ok-listed.ensures.listed c.in_ok-listed.ensures.within in
    rw c.as_slice.ensures most

pub invariant_of-result : goal.invariant_of-result
invariant_of-result c =
    is_graph c.parts-parts.result.now c.in_ok-listed.listed _ _ c.in_ok-listed.ensures.listed c.in_ok-listed.ensures.within
    (c.in_ok-linked.ensures.nodes ∙ ap (λ x. linked_all [] (parts_of (all_of x))) c.as_slice.ensures)
    (c.in_ok-linked.ensures.types ∙ ap (λ x. map (λ p. p.types) (parts_of (all_of x))) c.as_slice.ensures)

pub returns-clause-trees : goal.returns-clause-trees
returns-clause-trees c =
    trees_are c.parts-parts.result.now c.in_ok-listed.listed _ c.in_ok-listed.ensures.listed (c.in_ok-linked.ensures.nodes ∙ ap (λ x. linked_all [] (parts_of (all_of x))) c.as_slice.ensures)
    ∙ ap skeletons c.parts-parts.ensures.parts

pub returns-clause-types : goal.returns-clause-types
returns-clause-types c =
    types_are c.parts-parts.result.now c.in_ok-listed.listed _ c.in_ok-listed.ensures.listed (c.in_ok-linked.ensures.types ∙ ap (λ x. map (λ p. p.types) (parts_of (all_of x))) c.as_slice.ensures)
    ∙ ap (λ (t : TaskParts). map (columns t.inputs) (skeletons t)) c.parts-parts.ensures.parts

pub returns-clause-few : goal.returns-clause-few
returns-clause-few c =
    (is_graph c.parts-parts.result.now c.in_ok-listed.listed _ _ c.in_ok-listed.ensures.listed c.in_ok-listed.ensures.within
    (c.in_ok-linked.ensures.nodes ∙ ap (λ x. linked_all [] (parts_of (all_of x))) c.as_slice.ensures)
    (c.in_ok-linked.ensures.types ∙ ap (λ x. map (λ p. p.types) (parts_of (all_of x))) c.as_slice.ensures)).few

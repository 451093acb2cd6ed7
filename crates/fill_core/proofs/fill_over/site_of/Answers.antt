use Rattle.std.proofs.Common.{ap, sym, ◌∙◌, option_copied}
use Rattle.query_core.specs.Tree as t
use Rattle.query_core.specs.View.{tree}
use Rattle.query_core.proofs.TreeLaws.{tree_filter, tree_join, tree_left, tree_group, tree_union_all, tree_union}
use Rattle.query_core.specs.declared.kinds.Pairing.TheVariants.{Join, Left}
use Rattle.query_core.specs.declared.kinds.Uniting.TheVariants.{All, Firsts}
use Rattle.fill_core.proofs.SiteLaws.{site_filters, site_groups, site_pairs, site_unions}
use Rattle.fill_core.proofs.fill_over.site_of.Goals as goal

pub returns-in-Filter-Some-default-clause-filled : goal.returns-in-Filter-Some-default-clause-filled
returns-in-Filter-Some-default-clause-filled c task parts =
    let i = c.in-Filter-Some-default in
    site_filters task i.child.now (tree i.field-0-0) i.field-1-0 (tree c.args.skeleton.now) _ _ (sym (tree_filter i.field-0-0 i.field-1-0) ∙ ap tree (sym i.is-0)) (ap option_copied i.is-1) parts

pub returns-in-Group-Some-default-clause-filled : goal.returns-in-Group-Some-default-clause-filled
returns-in-Group-Some-default-clause-filled c task parts =
    let i = c.in-Group-Some-default in
    site_groups task i.child.now (tree i.field-0-0) c.as_slice.result.now i.agg (tree c.args.skeleton.now) _ _ (ap (λ ks. t.group (tree i.field-0-0) ks i.agg) c.as_slice.ensures ∙ sym (tree_group i.field-0-0 i.keys i.agg) ∙ ap tree (sym i.is-0)) (ap option_copied i.is-1) parts

pub returns-in-Join-Some-Some-clause-filled : goal.returns-in-Join-Some-Some-clause-filled
returns-in-Join-Some-Some-clause-filled c task parts =
    let i = c.in-Join-Some-Some in
    site_pairs task Join i.left.now i.right.now (tree i.field-0-0) (tree i.field-1-0) i.field-2-0 (tree c.args.skeleton.now) _ _ (sym (tree_join i.field-0-0 i.field-1-0 i.field-2-0) ∙ ap tree (sym i.is-0)) (ap option_copied i.is-1) (ap option_copied i.is-2) parts

pub returns-in-Left-Some-Some-clause-filled : goal.returns-in-Left-Some-Some-clause-filled
returns-in-Left-Some-Some-clause-filled c task parts =
    let i = c.in-Left-Some-Some in
    site_pairs task Left i.left.now i.right.now (tree i.field-0-0) (tree i.field-1-0) i.field-2-0 (tree c.args.skeleton.now) _ _ (sym (tree_left i.field-0-0 i.field-1-0 i.field-2-0) ∙ ap tree (sym i.is-0)) (ap option_copied i.is-1) (ap option_copied i.is-2) parts

pub returns-in-UnionAll-Some-Some-clause-filled : goal.returns-in-UnionAll-Some-Some-clause-filled
returns-in-UnionAll-Some-Some-clause-filled c task parts =
    let i = c.in-UnionAll-Some-Some in
    site_unions task All i.left.now i.right.now (tree i.field-0-0) (tree i.field-1-0) (tree c.args.skeleton.now) _ _ (sym (tree_union_all i.field-0-0 i.field-1-0) ∙ ap tree (sym i.is-0)) (ap option_copied i.is-1) (ap option_copied i.is-2) parts

pub returns-in-Union-Some-Some-clause-filled : goal.returns-in-Union-Some-Some-clause-filled
returns-in-Union-Some-Some-clause-filled c task parts =
    let i = c.in-Union-Some-Some in
    site_unions task Firsts i.left.now i.right.now (tree i.field-0-0) (tree i.field-1-0) (tree c.args.skeleton.now) _ _ (sym (tree_union i.field-0-0 i.field-1-0) ∙ ap tree (sym i.is-0)) (ap option_copied i.is-1) (ap option_copied i.is-2) parts

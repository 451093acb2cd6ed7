-- The standard form of a tree: it has the tree's leaves, columns and rows, it is standard, and a standard tree is its own.
use Rattle.std.proofs.Common.{◌≡◌, refl, sym, ap, ap₂, ◌∙◌, ◌+◌, ◌≤◌, true, false, not, ◌&&◌, inl, inr, List, ◌++◌, length, arith}
use Rattle.std.specs.Prelude.{filter, option_map}
use Rattle.std.proofs.lemmas.Bool.{cases_Bool, false≢true, and_parts, and_from}
use Rattle.value_core.specs.declared.value.ColType.{ColType}
use Rattle.predicate_core.specs.Truth.{keeps}
use Rattle.predicate_core.specs.declared.pred.Pred.{Pred}
use Rattle.predicate_core.proofs.SameLaws.{same_pred_decides}
use Rattle.table_core.specs.Rows.{Row}
use Rattle.table_core.specs.declared.task.TaskParts.{TaskParts}
use Rattle.query_core.specs.Tree.{Tree}
use Rattle.query_core.specs.Tree as t
use Rattle.query_core.specs.Firsts.{united}
use Rattle.query_core.specs.Groups.{grouped}
use Rattle.query_core.specs.Joins.{crossed, paired}
use Rattle.query_core.specs.Meaning.{columns, hole_types, group_types, rows, of_both, of_rows}
use Rattle.query_core.specs.Grammar.{leaves, takes_filter, predicates}
use Rattle.query_core.specs.Standard.{keeps_all, rows_or_none, is_first, is_standard_filter, is_standard_pair, is_standard_tree, first_of, std_filter, std_pair, std}
use Rattle.query_core.specs.declared.kinds.Pairing.{Pairing}
use Rattle.query_core.specs.Skeleton.{operators}
use Rattle.query_laws.proofs.AlikeLaws.{filtered_agree, filtered_all, both_agree, first_agrees, first_stays, first_keeps_all}

-- the standard form of a filter over c is c where p keeps all, else a filter
pub by_filter : (P : Tree → Type 0) (task : TaskParts) (c : Tree) (p : Pred)
    → (keeps_all task.constants (rows_or_none task c) p ≡ true → P c)
    → (keeps_all task.constants (rows_or_none task c) p ≡ false → P (t.filter c (first_of task (columns task.inputs c) (rows_or_none task c) p)))
    → P (std_filter task c p)
by_filter P task c p out kept =
    elim (cases_Bool (keeps_all task.constants (rows_or_none task c) p)) [
      | inl e ↦ rw e (out e)
      | inr e ↦ rw e (kept e)
    ]

-- the leaves, the columns and the rows stay, and no operator is added
pub leaves_std : (task : TaskParts) (tree : Tree) → leaves (std task tree) ≡ leaves tree
leaves_std task (t.base table) = refl
leaves_std task (t.filter child p) = let same = leaves_std task child in by_filter (λ x. leaves x ≡ leaves child) task (std task child) p (λ e. same) (λ e. same)
leaves_std task (t.pair kind a b p) = ap₂ (λ x y. x ++ y) (leaves_std task a) (leaves_std task b)
leaves_std task (t.group child keys agg) = leaves_std task child
leaves_std task (t.unite kind a b) = ap₂ (λ x y. x ++ y) (leaves_std task a) (leaves_std task b)

pub columns_std : (task : TaskParts) (tree : Tree) → columns task.inputs (std task tree) ≡ columns task.inputs tree
columns_std task (t.base table) = refl
columns_std task (t.filter child p) =
    let same = columns_std task child in by_filter (λ x. columns task.inputs x ≡ columns task.inputs child) task (std task child) p (λ e. same) (λ e. same)
columns_std task (t.pair kind a b p) = ap₂ (λ x y. x ++ y) (columns_std task a) (columns_std task b)
columns_std task (t.group child keys agg) = ap (λ types. group_types types keys agg) (columns_std task child)
columns_std task (t.unite kind a b) = columns_std task a

pub operators_std : (task : TaskParts) (tree : Tree) → operators (std task tree) ≤ operators tree
operators_std task (t.base table) = omega arith
operators_std task (t.filter child p) =
    let fewer = operators_std task child in
    by_filter (λ x. operators x ≤ operators child + 1) task (std task child) p (λ e. omega (arith, fewer)) (λ e. omega (arith, fewer))
operators_std task (t.pair kind a b p) = let left = operators_std task a in let right = operators_std task b in omega (arith, left, right)
operators_std task (t.group child keys agg) = let fewer = operators_std task child in omega (arith, fewer)
operators_std task (t.unite kind a b) = let left = operators_std task a in let right = operators_std task b in omega (arith, left, right)

-- the rows of a filter's standard form, and of a pair's, over parts that are standard
rows_filter : (task : TaskParts) (c : Tree) (p : Pred) → rows task.inputs task.constants (std_filter task c p) ≡ option_map (filter (keeps task.constants p)) (rows task.inputs task.constants c)
rows_filter task c p =
    let found = rows task.inputs task.constants c in
    let candidates = rows_or_none task c in
    let preds = predicates task (columns task.inputs c) in
    let first = first_of task (columns task.inputs c) candidates p in
    by_filter (λ x. rows task.inputs task.constants x ≡ option_map (filter (keeps task.constants p)) found) task c p
    (λ e. filtered_all (keeps task.constants p) found e)
    (λ e. sym (filtered_agree (keeps task.constants p) (keeps task.constants first) found (first_agrees task.constants candidates preds p)))

rows_pair : (task : TaskParts) (kind : Pairing) (a b : Tree) (p : Pred) → rows task.inputs task.constants (std_pair task kind a b p) ≡ rows task.inputs task.constants (t.pair kind a b p)
rows_pair task kind a b p =
    let candidates = crossed (rows_or_none task a) (rows_or_none task b) in
    let types = hole_types task.inputs a b in
    sym (both_agree task.constants kind p (first_of task types candidates p) (length (columns task.inputs b)) (rows task.inputs task.constants a) (rows task.inputs task.constants b) (first_agrees task.constants candidates (predicates task types) p))

pub rows_std : (task : TaskParts) (tree : Tree) → rows task.inputs task.constants (std task tree) ≡ rows task.inputs task.constants tree
rows_std task (t.base table) = refl
rows_std task (t.filter child p) = rows_filter task (std task child) p ∙ ap (option_map (filter (keeps task.constants p))) (rows_std task child)
rows_std task (t.pair kind a b p) =
    let lefts = rows task.inputs task.constants (std task a) in
    let rights = rows task.inputs task.constants (std task b) in
    rows_pair task kind (std task a) (std task b) p
    ∙ ap (λ types. of_both (paired kind task.constants p (length types)) lefts rights) (columns_std task b)
    ∙ ap₂ (of_both (paired kind task.constants p (length (columns task.inputs b)))) (rows_std task a) (rows_std task b)
rows_std task (t.group child keys agg) = ap (of_rows (grouped keys agg)) (rows_std task child)
rows_std task (t.unite kind a b) = ap₂ (of_both (united kind)) (rows_std task a) (rows_std task b)

-- the first predicate of those alike is the first of those alike to it
first_is_first : (task : TaskParts) (types : List ColType) (candidates : List Row) (p : Pred) → is_first task types candidates (first_of task types candidates p) ≡ true
first_is_first task types candidates p = (same_pred_decides _ _).1 (first_stays task.constants candidates (predicates task types) p)

-- the standard form of a filter over a standard tree, and of a pair of standard trees, is standard
filter_standard : (task : TaskParts) (c : Tree) (p : Pred) → is_standard_tree task c ≡ true → is_standard_tree task (std_filter task c p) ≡ true
filter_standard task c p is =
    let types = columns task.inputs c in
    let candidates = rows_or_none task c in
    let first = first_of task types candidates p in
    by_filter (λ x. is_standard_tree task x ≡ true) task c p (λ e. is)
    (λ e.
    let drops = ap not (first_keeps_all task.constants candidates (predicates task types) p ∙ e) in
    and_from (is_standard_tree task c) (is_standard_filter task c first) is
    (and_from (is_first task types candidates first) (not (keeps_all task.constants candidates first)) (first_is_first task types candidates p) drops))

pub standard_std : (task : TaskParts) (tree : Tree) → is_standard_tree task (std task tree) ≡ true
standard_std task (t.base table) = refl
standard_std task (t.filter child p) = filter_standard task (std task child) p (standard_std task child)
standard_std task (t.pair kind a b p) =
    let left = std task a in
    let right = std task b in
    let candidates = crossed (rows_or_none task left) (rows_or_none task right) in
    let types = hole_types task.inputs left right in
    and_from (is_standard_tree task left && is_standard_tree task right) (is_standard_pair task left right (first_of task types candidates p))
    (and_from (is_standard_tree task left) (is_standard_tree task right) (standard_std task a) (standard_std task b))
    (first_is_first task types candidates p)
standard_std task (t.group child keys agg) = standard_std task child
standard_std task (t.unite kind a b) = and_from (is_standard_tree task (std task a)) (is_standard_tree task (std task b)) (standard_std task a) (standard_std task b)

-- a predicate that is the first of those alike is its own first
first_same : (task : TaskParts) (types : List ColType) (candidates : List Row) (p : Pred) → is_first task types candidates p ≡ true → first_of task types candidates p ≡ p
first_same task types candidates p is = (same_pred_decides _ _).0 is

-- a filter with a standard predicate stays
filter_same : (task : TaskParts) (c : Tree) (p : Pred) → is_standard_filter task c p ≡ true → std_filter task c p ≡ t.filter c p
filter_same task c p is =
    let types = columns task.inputs c in
    let candidates = rows_or_none task c in
    let h = and_parts (is_first task types candidates p) (not (keeps_all task.constants candidates p)) is in
    by_filter (λ x. x ≡ t.filter c p) task c p (λ e. absurd (false≢true (sym (ap not e) ∙ h.1))) (λ e. ap (t.filter c) (first_same task types candidates p h.0))

-- a standard tree is its own standard form
pub standard_same : (task : TaskParts) (tree : Tree) → is_standard_tree task tree ≡ true → std task tree ≡ tree
standard_same task (t.base table) is = refl
standard_same task (t.filter child p) is =
    let h = and_parts (is_standard_tree task child) (is_standard_filter task child p) is in
    ap (λ c. std_filter task c p) (standard_same task child h.0) ∙ filter_same task child p h.1
standard_same task (t.pair kind a b p) is =
    let h = and_parts (is_standard_tree task a && is_standard_tree task b) (is_standard_pair task a b p) is in
    let k = and_parts (is_standard_tree task a) (is_standard_tree task b) h.0 in
    let candidates = crossed (rows_or_none task a) (rows_or_none task b) in
    ap₂ (λ x y. std_pair task kind x y p) (standard_same task a k.0) (standard_same task b k.1)
    ∙ ap (t.pair kind a b) (first_same task (hole_types task.inputs a b) candidates p h.1)
standard_same task (t.group child keys agg) is = ap (λ c. t.group c keys agg) (standard_same task child is)
standard_same task (t.unite kind a b) is =
    let h = and_parts (is_standard_tree task a) (is_standard_tree task b) is in ap₂ (t.unite kind) (standard_same task a h.0) (standard_same task b h.1)

-- no filter comes to stand over a filter or a join
pub takes_filter_std : (task : TaskParts) (tree : Tree) → takes_filter tree ≡ true → takes_filter (std task tree) ≡ true
takes_filter_std task (t.base table) e = e
takes_filter_std task (t.filter child p) e = absurd (false≢true e)
takes_filter_std task (t.pair kind a b p) e = e
takes_filter_std task (t.group child keys agg) e = e
takes_filter_std task (t.unite kind a b) e = e

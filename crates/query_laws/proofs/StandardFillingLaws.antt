-- The standard form of a tree of the grammar is one of the grammar.
use Rattle.std.proofs.Common.{◌≡◌, refl, sym, ap, ap₂, subst, ◌∙◌, ◌+◌, Bool, true, false, ◌&&◌, inl, inr, List, [], ◌∷◌, ◌++◌, length}
use Rattle.std.specs.Prelude.{not, nat_le}
use Rattle.std.specs.Ordering.{nat_cmp, is_gt}
use Rattle.std.specs.Cmp.Lexicographic.{slice_cmp, pointwise}
use Rattle.std.proofs.lemmas.Bool.{false≢true, and_parts, and_from}
use Rattle.value_core.specs.Value.{same_type}
use Rattle.value_core.specs.declared.value.ColType.{ColType}
use Rattle.predicate_core.specs.declared.pred.Pred.{Pred}
use Rattle.predicate_core.proofs.OnceLists.{In}
use Rattle.table_core.specs.Rows.{Row}
use Rattle.table_core.specs.declared.task.TaskParts.{TaskParts}
use Rattle.query_core.specs.Tree.{Tree}
use Rattle.query_core.specs.Tree as t
use Rattle.query_core.specs.Joins.{crossed}
use Rattle.query_core.specs.Meaning.{columns, hole_types, group_types}
use Rattle.query_core.specs.Grammar.{leaves, takes_filter, pair_in_order, may_meet, in_order, may_pair, may_unite, predicates, filter_predicates, filters_filled, pairs_filled, fillings}
use Rattle.query_core.specs.Standard.{keeps_all, rows_or_none, first_of, std}
use Rattle.query_core.specs.declared.kinds.Pairing.{Pairing}
use Rattle.query_core.specs.declared.kinds.Pairing.TheVariants.{Join, Left}
use Rattle.query_core.specs.Skeleton.{operators, are_keys, is_allowed, is_formed}
use Rattle.query_laws.proofs.MemberLaws.{in_one, map_in, flat_map_in}
use Rattle.query_laws.proofs.FillingLaws.{of_each_in, in_filter_fillings, in_pair_fillings, in_group_fillings, in_union_fillings}
use Rattle.query_laws.proofs.QueryLaws.{opened}
use Rattle.query_laws.proofs.SkeletonLaws.{three_parts}
use Rattle.query_laws.proofs.AlikeLaws.{first_in, first_keeps_all, always_keeps_all}
use Rattle.query_laws.proofs.StandardTreeLaws.{by_filter, leaves_std, columns_std, takes_filter_std}

-- an opened tree has the tree's leaves, columns and operators, and takes a filter where the tree does
pub leaves_opened : (tree : Tree) → leaves (opened tree) ≡ leaves tree
leaves_opened (t.base table) = refl
leaves_opened (t.filter child p) = leaves_opened child
leaves_opened (t.pair kind a b p) = ap₂ (λ x y. x ++ y) (leaves_opened a) (leaves_opened b)
leaves_opened (t.group child keys agg) = leaves_opened child
leaves_opened (t.unite kind a b) = ap₂ (λ x y. x ++ y) (leaves_opened a) (leaves_opened b)

pub columns_opened : (task : TaskParts) (tree : Tree) → columns task.inputs (opened tree) ≡ columns task.inputs tree
columns_opened task (t.base table) = refl
columns_opened task (t.filter child p) = columns_opened task child
columns_opened task (t.pair kind a b p) = ap₂ (λ x y. x ++ y) (columns_opened task a) (columns_opened task b)
columns_opened task (t.group child keys agg) = ap (λ types. group_types types keys agg) (columns_opened task child)
columns_opened task (t.unite kind a b) = columns_opened task a

pub operators_opened : (tree : Tree) → operators (opened tree) ≡ operators tree
operators_opened (t.base table) = refl
operators_opened (t.filter child p) = ap (λ n. n + 1) (operators_opened child)
operators_opened (t.pair kind a b p) = ap₂ (λ m n. (m + n) + 1) (operators_opened a) (operators_opened b)
operators_opened (t.group child keys agg) = ap (λ n. n + 1) (operators_opened child)
operators_opened (t.unite kind a b) = ap₂ (λ m n. (m + n) + 1) (operators_opened a) (operators_opened b)

pub takes_filter_opened : (tree : Tree) → takes_filter (opened tree) ≡ takes_filter tree
takes_filter_opened (t.base table) = refl
takes_filter_opened (t.filter child p) = refl
takes_filter_opened (t.pair kind a b p) = refl
takes_filter_opened (t.group child keys agg) = refl
takes_filter_opened (t.unite kind a b) = refl

-- the opened standard form has the opened tree's leaves and columns
leaves_kept : (task : TaskParts) (tree : Tree) → leaves (opened (std task tree)) ≡ leaves (opened tree)
leaves_kept task tree = leaves_opened (std task tree) ∙ leaves_std task tree ∙ sym (leaves_opened tree)

columns_kept : (task : TaskParts) (tree : Tree) → columns task.inputs (opened (std task tree)) ≡ columns task.inputs (opened tree)
columns_kept task tree = columns_opened task (std task tree) ∙ columns_std task tree ∙ sym (columns_opened task tree)

-- whether two trees may be a pair, or united, hangs on their leaves and columns alone
meet_same : (task : TaskParts) (a b c d : Tree) → leaves a ≡ leaves c → leaves b ≡ leaves d → may_meet task (a, b) ≡ may_meet task (c, d)
meet_same task a b c d left right = ap₂ (λ xs ys. nat_le (length xs + length ys) task.leaves) left right

in_order_same : (a b c d : Tree) → leaves a ≡ leaves c → leaves b ≡ leaves d → in_order (a, b) ≡ in_order (c, d)
in_order_same a b c d left right = ap₂ (λ xs ys. not (is_gt (slice_cmp nat_cmp xs ys))) left right

pair_order_same : (kind : Pairing) (a b c d : Tree) → leaves a ≡ leaves c → leaves b ≡ leaves d → pair_in_order kind (a, b) ≡ pair_in_order kind (c, d)
pair_order_same Join a b c d left right = in_order_same a b c d left right
pair_order_same Left a b c d left right = refl

pub pair_same : (task : TaskParts) (kind : Pairing) (a b c d : Tree) → leaves a ≡ leaves c → leaves b ≡ leaves d → may_pair task kind (a, b) ≡ may_pair task kind (c, d)
pair_same task kind a b c d left right = ap₂ (λ x y. x && y) (meet_same task a b c d left right) (pair_order_same kind a b c d left right)

pub unite_same : (task : TaskParts) (a b c d : Tree) → leaves a ≡ leaves c → leaves b ≡ leaves d → columns task.inputs a ≡ columns task.inputs c → columns task.inputs b ≡ columns task.inputs d
    → may_unite task (a, b) ≡ may_unite task (c, d)
unite_same task a b c d left right lefts rights =
    ap₂ (λ x y. x && y)
    (ap₂ (λ x y. x && y) (meet_same task a b c d left right) (in_order_same a b c d left right))
    (ap₂ (λ xs ys. pointwise same_type xs ys) lefts rights)

-- the standard form of a formed tree is formed
pub formed_std : (task : TaskParts) (tree : Tree) → is_formed task (opened tree) ≡ true → is_formed task (opened (std task tree)) ≡ true
formed_std task (t.base table) formed = formed
formed_std task (t.filter child p) formed =
    let c = std task child in
    let h = and_parts (is_formed task (opened child)) (takes_filter (opened child) && true) formed in
    let k = and_parts (takes_filter (opened child)) true h.1 in
    let part = formed_std task child h.0 in
    let takes = takes_filter_opened c ∙ takes_filter_std task child (sym (takes_filter_opened child) ∙ k.0) in
    by_filter (λ x. is_formed task (opened x) ≡ true) task c p (λ e. part)
    (λ e. and_from (is_formed task (opened c)) (takes_filter (opened c) && true) part (and_from (takes_filter (opened c)) true takes refl))
formed_std task (t.pair kind a b p) formed =
    let h = three_parts (is_formed task (opened a)) (is_formed task (opened b)) (may_pair task kind (opened a, opened b) && true) formed in
    let left = opened (std task a) in
    let right = opened (std task b) in
    let may = ap (λ x. x && true) (pair_same task kind left right (opened a) (opened b) (leaves_kept task a) (leaves_kept task b)) ∙ h.2 in
    and_from (is_formed task left && is_formed task right) (may_pair task kind (left, right) && true)
    (and_from (is_formed task left) (is_formed task right) (formed_std task a h.0) (formed_std task b h.1)) may
formed_std task (t.group child keys agg) formed =
    let fits : List ColType → Bool = λ types. are_keys (length types) keys && is_allowed task.aggregates types keys agg in
    let h = and_parts (is_formed task (opened child)) (fits (columns task.inputs (opened child))) formed in
    and_from (is_formed task (opened (std task child))) (fits (columns task.inputs (opened (std task child)))) (formed_std task child h.0) (ap fits (columns_kept task child) ∙ h.1)
formed_std task (t.unite kind a b) formed =
    let h = three_parts (is_formed task (opened a)) (is_formed task (opened b)) (may_unite task (opened a, opened b)) formed in
    let left = opened (std task a) in
    let right = opened (std task b) in
    let may = unite_same task left right (opened a) (opened b) (leaves_kept task a) (leaves_kept task b) (columns_kept task a) (columns_kept task b) ∙ h.2 in
    and_from (is_formed task left && is_formed task right) (may_unite task (left, right))
    (and_from (is_formed task left) (is_formed task right) (formed_std task a h.0) (formed_std task b h.1)) may

-- each predicate of a tree is one of its hole's
abbrev pub HolesFit : TaskParts → Tree → Type 0
HolesFit task (t.base table) = Unit {0}
HolesFit task (t.filter child p) = HolesFit task child × In p (filter_predicates task (columns task.inputs child))
HolesFit task (t.pair kind a b p) = HolesFit task a × HolesFit task b × In p (predicates task (hole_types task.inputs a b))
HolesFit task (t.group child keys agg) = HolesFit task child
HolesFit task (t.unite kind a b) = HolesFit task a × HolesFit task b

-- so is each of a filling, and a tree of such predicates fills its skeleton
pub filling_fits : (task : TaskParts) (skeleton body : Tree) → In body (fillings task skeleton) → HolesFit task body
filling_fits task (t.base table) body i = subst (HolesFit task) (sym (in_one body (t.base table) i)) tt
filling_fits task (t.filter child p) body i =
    let h = in_filter_fillings task child p body i in
    subst (HolesFit task) (sym h.4) (filling_fits task child h.0 h.2, h.3)
filling_fits task (t.pair kind a b p) body i =
    let h = in_pair_fillings task kind a b p body i in
    subst (HolesFit task) (sym h.6) (filling_fits task a h.0 h.3, filling_fits task b h.1 h.4, h.5)
filling_fits task (t.group child keys agg) body i =
    let h = in_group_fillings task child keys agg body i in
    subst (HolesFit task) (sym h.2) (filling_fits task child h.0 h.1)
filling_fits task (t.unite kind a b) body i =
    let h = in_union_fillings task kind a b body i in
    subst (HolesFit task) (sym h.4) (filling_fits task a h.0 h.2, filling_fits task b h.1 h.3)

pub fits_filling : (task : TaskParts) (tree : Tree) → HolesFit task tree → In tree (fillings task (opened tree))
fits_filling task (t.base table) fit = inl refl
fits_filling task (t.filter child p) fit =
    flat_map_in (filters_filled task) (t.filter child p) child (fillings task (opened child)) (fits_filling task child fit.0)
    (map_in (t.filter child) p (filter_predicates task (columns task.inputs child)) fit.1)
fits_filling task (t.pair kind a b p) fit =
    of_each_in (pairs_filled task kind) (t.pair kind a b p) a b (fillings task (opened a)) (fillings task (opened b)) (fits_filling task a fit.0) (fits_filling task b fit.1)
    (map_in (t.pair kind a b) p (predicates task (hole_types task.inputs a b)) fit.2)
fits_filling task (t.group child keys agg) fit = map_in (λ c. t.group c keys agg) child (fillings task (opened child)) (fits_filling task child fit)
fits_filling task (t.unite kind a b) fit =
    of_each_in (λ x y. t.unite kind x y ∷ []) (t.unite kind a b) a b (fillings task (opened a)) (fillings task (opened b)) (fits_filling task a fit.0) (fits_filling task b fit.1) (inl refl)

-- the first of those alike to a filter's predicate that doesn't keep all is one of a filter's, as it isn't Always
first_of_filter : (task : TaskParts) (types : List ColType) (candidates : List Row) (p : Pred) → In p (filter_predicates task types) → keeps_all task.constants candidates p ≡ false
    → In (first_of task types candidates p) (filter_predicates task types)
first_of_filter task types candidates p i drops =
    let preds = predicates task types in
    let first = first_of task types candidates p in
    let same : keeps_all task.constants candidates first ≡ false = first_keeps_all task.constants candidates preds p ∙ drops in
    elim (first_in task.constants candidates preds p (inr i)) [
      | inl e ↦ absurd (false≢true (sym same ∙ ap (keeps_all task.constants candidates) e ∙ always_keeps_all task.constants candidates))
      | inr later ↦ later
    ]

-- the predicates of the standard form are of their holes
pub fits_std : (task : TaskParts) (tree : Tree) → HolesFit task tree → HolesFit task (std task tree)
fits_std task (t.base table) fit = tt
fits_std task (t.filter child p) fit =
    let c = std task child in
    let part = fits_std task child fit.0 in
    let own : In p (filter_predicates task (columns task.inputs c)) = subst (λ types. In p (filter_predicates task types)) (sym (columns_std task child)) fit.1 in
    by_filter (HolesFit task) task c p (λ e. part) (λ e. (part, first_of_filter task (columns task.inputs c) (rows_or_none task c) p own e))
fits_std task (t.pair kind a b p) fit =
    let left = std task a in
    let right = std task b in
    let types : hole_types task.inputs left right ≡ hole_types task.inputs a b = ap₂ (λ x y. x ++ y) (columns_std task a) (columns_std task b) in
    let own : In p (predicates task (hole_types task.inputs left right)) = subst (λ types. In p (predicates task types)) (sym types) fit.2 in
    let candidates = crossed (rows_or_none task left) (rows_or_none task right) in
    (fits_std task a fit.0, fits_std task b fit.1, first_in task.constants candidates (predicates task (hole_types task.inputs left right)) p own)
fits_std task (t.group child keys agg) fit = fits_std task child fit
fits_std task (t.unite kind a b) fit = (fits_std task a fit.0, fits_std task b fit.1)

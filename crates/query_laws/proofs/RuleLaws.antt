-- The rules of the grammar at each node of a tree are that its skeleton is formed and each predicate is one of its hole's.
use Rattle.std.proofs.Common.{◌≡◌, refl, sym, ap, ap₂, ◌∙◌, ℕ, ◌+◌, ◌≤◌, Bool, true, false, ◌&&◌, nat_lt, inl, inr, List, [], ◌∷◌, length, arith}
use Rattle.std.specs.List.{list_all}
use Rattle.std.specs.Cmp.Lexicographic.{pointwise}
use Rattle.std.proofs.lemmas.Bool.{false≢true, and_parts, and_from, ltb-true, lt-ltb, leb-true, le-leb}
use Rattle.std.proofs.lemmas.List.{length-append}
use Rattle.value_core.specs.Value.{same_type}
use Rattle.value_core.specs.declared.value.ColType.{ColType}
use Rattle.value_core.specs.declared.value.ColType.TheVariants as kind
use Rattle.predicate_core.proofs.OnceLists.{In}
use Rattle.table_core.specs.declared.agg_set.AggSet.{AggSet}
use Rattle.table_core.specs.declared.task.TaskParts.{TaskParts}
use Rattle.query_core.specs.Tree.{Tree}
use Rattle.query_core.specs.Tree as t
use Rattle.query_core.specs.Meaning.{columns, hole_types, type_at}
use Rattle.query_core.specs.Grammar.{leaves, takes_filter, may_meet, in_order, pair_in_order, may_pair, may_unite}
use Rattle.query_core.specs.Columns.{names_inputs, pred_in_range, agg_in_range, names_columns, pred_agrees, agg_agrees, types_agree}
use Rattle.query_core.specs.Membership.{each_node, filter_placed, filter_asks, parts_ordered, are_few_ascending, keys_ascend, agg_is_no_key, agg_apart, allows, agg_allowed, atoms_in_order, atoms_few}
use Rattle.query_core.specs.Skeleton.{are_keys, is_no_key, is_free, is_allowed, is_formed}
use Rattle.query_core.specs.declared.agg.Agg.{Agg}
use Rattle.query_core.specs.declared.agg.Agg.TheVariants.{CountAll, Count, CountDistinct, Sum, Min, Max}
use Rattle.query_laws.proofs.AscendingLists.{of_all}
use Rattle.query_laws.proofs.HoleLaws.{PredFits, preds_fit, fitting_preds, filter_preds_fit, fitting_filter_preds}
use Rattle.query_laws.proofs.QueryLaws.{opened}
use Rattle.query_laws.proofs.SkeletonLaws.{three_parts}
use Rattle.query_laws.proofs.StandardFillingLaws.{leaves_opened, columns_opened, takes_filter_opened, pair_same, unite_same, HolesFit}

three_from : (x y z : Bool) → x ≡ true → y ≡ true → z ≡ true → ((x && y) && z) ≡ true
three_from x y z e f g = and_from (x && y) z (and_from x y e f) g

-- a test that asks nothing more
and_true : (x : Bool) → x ≡ (x && true)
and_true true = refl
and_true false = refl

-- a test holds of each node where one that implies it does, and two tests hold together where each does

pub each_more : (f g : Tree → Bool) → ((x : Tree) → f x ≡ true → g x ≡ true) → (tree : Tree) → each_node f tree ≡ true → each_node g tree ≡ true
each_more f g more (t.base table) e = more (t.base table) e
each_more f g more (t.filter child p) e =
    let node = t.filter child p in
    let h = and_parts (each_node f child) (f node) e in
    and_from (each_node g child) (g node) (each_more f g more child h.0) (more node h.1)
each_more f g more (t.pair kind a b p) e =
    let node = t.pair kind a b p in
    let h = three_parts (each_node f a) (each_node f b) (f node) e in
    three_from (each_node g a) (each_node g b) (g node) (each_more f g more a h.0) (each_more f g more b h.1) (more node h.2)
each_more f g more (t.group child keys agg) e =
    let node = t.group child keys agg in
    let h = and_parts (each_node f child) (f node) e in
    and_from (each_node g child) (g node) (each_more f g more child h.0) (more node h.1)
each_more f g more (t.unite kind a b) e =
    let node = t.unite kind a b in
    let h = three_parts (each_node f a) (each_node f b) (f node) e in
    three_from (each_node g a) (each_node g b) (g node) (each_more f g more a h.0) (each_more f g more b h.1) (more node h.2)

abbrev both : (Tree → Bool) → (Tree → Bool) → Tree → Bool
both f g x = f x && g x

each_both : (f g : Tree → Bool) (tree : Tree) → each_node f tree ≡ true → each_node g tree ≡ true → each_node (both f g) tree ≡ true
each_both f g (t.base table) e o = and_from (f (t.base table)) (g (t.base table)) e o
each_both f g (t.filter child p) e o =
    let node = t.filter child p in
    let h = and_parts (each_node f child) (f node) e in
    let k = and_parts (each_node g child) (g node) o in
    and_from (each_node (both f g) child) (both f g node) (each_both f g child h.0 k.0) (and_from (f node) (g node) h.1 k.1)
each_both f g (t.pair kind a b p) e o =
    let node = t.pair kind a b p in
    let h = three_parts (each_node f a) (each_node f b) (f node) e in
    let k = three_parts (each_node g a) (each_node g b) (g node) o in
    three_from (each_node (both f g) a) (each_node (both f g) b) (both f g node) (each_both f g a h.0 k.0) (each_both f g b h.1 k.1) (and_from (f node) (g node) h.2 k.2)
each_both f g (t.group child keys agg) e o =
    let node = t.group child keys agg in
    let h = and_parts (each_node f child) (f node) e in
    let k = and_parts (each_node g child) (g node) o in
    and_from (each_node (both f g) child) (both f g node) (each_both f g child h.0 k.0) (and_from (f node) (g node) h.1 k.1)
each_both f g (t.unite kind a b) e o =
    let node = t.unite kind a b in
    let h = three_parts (each_node f a) (each_node f b) (f node) e in
    let k = three_parts (each_node g a) (each_node g b) (g node) o in
    three_from (each_node (both f g) a) (each_node (both f g) b) (both f g node) (each_both f g a h.0 k.0) (each_both f g b h.1 k.1) (and_from (f node) (g node) h.2 k.2)

each_true : (tree : Tree) → each_node (λ x. true) tree ≡ true
each_true (t.base table) = refl
each_true (t.filter child p) = and_from (each_node (λ x. true) child) true (each_true child) refl
each_true (t.pair kind a b p) = three_from (each_node (λ x. true) a) (each_node (λ x. true) b) true (each_true a) (each_true b) refl
each_true (t.group child keys agg) = and_from (each_node (λ x. true) child) true (each_true child) refl
each_true (t.unite kind a b) = three_from (each_node (λ x. true) a) (each_node (λ x. true) b) true (each_true a) (each_true b) refl

-- whether all of some tests hold of a node, and whether each of them holds of each node
abbrev pub all_hold : List (Tree → Bool) → Tree → Bool
all_hold tests x = list_all (λ f. f x) tests

abbrev pub all_each : List (Tree → Bool) → Tree → Bool
all_each tests tree = list_all (λ f. each_node f tree) tests

pub each_all : (tests : List (Tree → Bool)) (tree : Tree) → all_each tests tree ≡ true → each_node (all_hold tests) tree ≡ true
each_all [] tree e = each_true tree
each_all (f ∷ fs) tree e =
    let h = and_parts (each_node f tree) (all_each fs tree) e in
    each_both f (all_hold fs) tree h.0 (each_all fs tree h.1)

pub all_of_each : (tests : List (Tree → Bool)) (tree : Tree) → each_node (all_hold tests) tree ≡ true → all_each tests tree ≡ true
all_of_each [] tree e = refl
all_of_each (f ∷ fs) tree e =
    let first = each_more (both f (all_hold fs)) f (λ x h. (and_parts (f x) (all_hold fs x) h).0) tree e in
    let others = each_more (both f (all_hold fs)) (all_hold fs) (λ x h. (and_parts (f x) (all_hold fs x) h).1) tree e in
    and_from (each_node f tree) (all_each fs tree) first (all_of_each fs tree others)

-- what is asked of the inputs, the numbers and the types, node by node

abbrev pub input_named : TaskParts → Tree → Bool
input_named task (t.base table) = nat_lt table (length task.inputs)
input_named task (t.filter child p) = true
input_named task (t.pair kind a b p) = true
input_named task (t.group child keys agg) = true
input_named task (t.unite kind a b) = true

pub inputs_each : (task : TaskParts) (tree : Tree) → names_inputs task tree ≡ each_node (input_named task) tree
inputs_each task (t.base table) = refl
inputs_each task (t.filter child p) = inputs_each task child ∙ and_true (each_node (input_named task) child)
inputs_each task (t.pair kind a b p) =
    ap₂ (λ x y. x && y) (inputs_each task a) (inputs_each task b) ∙ and_true (each_node (input_named task) a && each_node (input_named task) b)
inputs_each task (t.group child keys agg) = inputs_each task child ∙ and_true (each_node (input_named task) child)
inputs_each task (t.unite kind a b) =
    ap₂ (λ x y. x && y) (inputs_each task a) (inputs_each task b) ∙ and_true (each_node (input_named task) a && each_node (input_named task) b)

abbrev pub columns_named : TaskParts → Tree → Bool
columns_named task (t.base table) = true
columns_named task (t.filter child p) = pred_in_range (length (columns task.inputs child)) (length task.constants) p
columns_named task (t.pair kind a b p) = pred_in_range (length (hole_types task.inputs a b)) (length task.constants) p
columns_named task (t.group child keys agg) =
    list_all (λ k. nat_lt k (length (columns task.inputs child))) keys && agg_in_range (length (columns task.inputs child)) agg
columns_named task (t.unite kind a b) = true

pub columns_each : (task : TaskParts) (tree : Tree) → names_columns task tree ≡ each_node (columns_named task) tree
columns_each task (t.base table) = refl
columns_each task (t.filter child p) = ap (λ x. x && columns_named task (t.filter child p)) (columns_each task child)
columns_each task (t.pair kind a b p) = ap₂ (λ x y. (x && y) && columns_named task (t.pair kind a b p)) (columns_each task a) (columns_each task b)
columns_each task (t.group child keys agg) = ap (λ x. x && columns_named task (t.group child keys agg)) (columns_each task child)
columns_each task (t.unite kind a b) =
    ap₂ (λ x y. x && y) (columns_each task a) (columns_each task b) ∙ and_true (each_node (columns_named task) a && each_node (columns_named task) b)

abbrev pub types_fit : TaskParts → Tree → Bool
types_fit task (t.base table) = true
types_fit task (t.filter child p) = pred_agrees (columns task.inputs child) task.constants p
types_fit task (t.pair kind a b p) = pred_agrees (hole_types task.inputs a b) task.constants p
types_fit task (t.group child keys agg) = agg_agrees (columns task.inputs child) agg
types_fit task (t.unite kind a b) = pointwise same_type (columns task.inputs a) (columns task.inputs b)

pub types_each : (task : TaskParts) (tree : Tree) → types_agree task tree ≡ each_node (types_fit task) tree
types_each task (t.base table) = refl
types_each task (t.filter child p) = ap (λ x. x && types_fit task (t.filter child p)) (types_each task child)
types_each task (t.pair kind a b p) = ap₂ (λ x y. (x && y) && types_fit task (t.pair kind a b p)) (types_each task a) (types_each task b)
types_each task (t.group child keys agg) = ap (λ x. x && types_fit task (t.group child keys agg)) (types_each task child)
types_each task (t.unite kind a b) = ap₂ (λ x y. (x && y) && types_fit task (t.unite kind a b)) (types_each task a) (types_each task b)

-- two parts have together no more leaves than the task allows
abbrev pub parts_meet : TaskParts → Tree → Bool
parts_meet task (t.base table) = true
parts_meet task (t.filter child p) = true
parts_meet task (t.pair kind a b p) = may_meet task (a, b)
parts_meet task (t.group child keys agg) = true
parts_meet task (t.unite kind a b) = may_meet task (a, b)

pub few_leaves_meet : (task : TaskParts) (tree : Tree) → length (leaves tree) ≤ task.leaves → each_node (parts_meet task) tree ≡ true
few_leaves_meet task (t.base table) few = refl
few_leaves_meet task (t.filter child p) few = and_from (each_node (parts_meet task) child) true (few_leaves_meet task child few) refl
few_leaves_meet task (t.pair kind a b p) few =
    let sum = length-append (leaves a) (leaves b) in
    three_from (each_node (parts_meet task) a) (each_node (parts_meet task) b) (may_meet task (a, b))
    (few_leaves_meet task a (omega (arith, sum, few))) (few_leaves_meet task b (omega (arith, sum, few)))
    (le-leb (length (leaves a) + length (leaves b)) task.leaves (omega (arith, sum, few)))
few_leaves_meet task (t.group child keys agg) few = and_from (each_node (parts_meet task) child) true (few_leaves_meet task child few) refl
few_leaves_meet task (t.unite kind a b) few =
    let sum = length-append (leaves a) (leaves b) in
    three_from (each_node (parts_meet task) a) (each_node (parts_meet task) b) (may_meet task (a, b))
    (few_leaves_meet task a (omega (arith, sum, few))) (few_leaves_meet task b (omega (arith, sum, few)))
    (le-leb (length (leaves a) + length (leaves b)) task.leaves (omega (arith, sum, few)))

pub meeting_leaves_few : (task : TaskParts) → 1 ≤ task.leaves → (tree : Tree) → each_node (parts_meet task) tree ≡ true → length (leaves tree) ≤ task.leaves
meeting_leaves_few task some (t.base table) e = omega arith
meeting_leaves_few task some (t.filter child p) e = meeting_leaves_few task some child (and_parts (each_node (parts_meet task) child) true e).0
meeting_leaves_few task some (t.pair kind a b p) e =
    let h = three_parts (each_node (parts_meet task) a) (each_node (parts_meet task) b) (may_meet task (a, b)) e in
    let sum = length-append (leaves a) (leaves b) in
    let few = leb-true (length (leaves a) + length (leaves b)) task.leaves h.2 in
    omega (arith, sum, few)
meeting_leaves_few task some (t.group child keys agg) e = meeting_leaves_few task some child (and_parts (each_node (parts_meet task) child) true e).0
meeting_leaves_few task some (t.unite kind a b) e =
    let h = three_parts (each_node (parts_meet task) a) (each_node (parts_meet task) b) (may_meet task (a, b)) e in
    let sum = length-append (leaves a) (leaves b) in
    let few = leb-true (length (leaves a) + length (leaves b)) task.leaves h.2 in
    omega (arith, sum, few)

-- the keys of a group: in range and ascending
keys_from : (width : ℕ) (keys : List ℕ) → list_all (λ k. nat_lt k width) keys ≡ true → are_few_ascending keys ≡ true → are_keys width keys ≡ true
keys_from width [] range ascend = refl
keys_from width (i ∷ []) range ascend = (and_parts (nat_lt i width) true range).0
keys_from width (i ∷ j ∷ []) range ascend =
    let h = and_parts (nat_lt i width) (nat_lt j width && true) range in
    and_from (nat_lt i j) (nat_lt j width) ascend (and_parts (nat_lt j width) true h.1).0
keys_from width (i ∷ j ∷ k ∷ more) range ascend = ascend

keys_to : (width : ℕ) (keys : List ℕ) → are_keys width keys ≡ true → (list_all (λ k. nat_lt k width) keys ≡ true) × (are_few_ascending keys ≡ true)
keys_to width [] e = (refl, refl)
keys_to width (i ∷ []) e = (and_from (nat_lt i width) true e refl, refl)
keys_to width (i ∷ j ∷ []) e =
    let h = and_parts (nat_lt i j) (nat_lt j width) e in
    let ascends = ltb-true i j h.0 in
    let below = ltb-true j width h.1 in
    (and_from (nat_lt i width) (nat_lt j width && true) (lt-ltb i width (omega arith)) (and_from (nat_lt j width) true h.1 refl), h.0)
keys_to width (i ∷ j ∷ k ∷ more) e = absurd (false≢true e)

-- the aggregate of a group: allowed, in range, over no key, and a sum over whole numbers
abbrev AggFits : AggSet → List ColType → List ℕ → Agg → Type 0
AggFits set types keys agg =
    (agg_in_range (length types) agg ≡ true) × (agg_agrees types agg ≡ true) × (agg_is_no_key keys agg ≡ true) × (allows set agg ≡ true)

free_from : (flag : Bool) (width : ℕ) (keys : List ℕ) (column : ℕ) → nat_lt column width ≡ true → is_no_key keys column ≡ true → flag ≡ true → (flag && is_free width keys column) ≡ true
free_from flag width keys column range free allowed = and_from flag (is_free width keys column) allowed (and_from (nat_lt column width) (is_no_key keys column) range free)

free_to : (flag : Bool) (width : ℕ) (keys : List ℕ) (column : ℕ) → (flag && is_free width keys column) ≡ true → (nat_lt column width ≡ true) × (is_no_key keys column ≡ true) × (flag ≡ true)
free_to flag width keys column e =
    let h = and_parts flag (is_free width keys column) e in
    let k = and_parts (nat_lt column width) (is_no_key keys column) h.1 in
    (k.0, k.1, h.0)

agg_from : (set : AggSet) (types : List ColType) (keys : List ℕ) (agg : Agg) → AggFits set types keys agg → is_allowed set types keys agg ≡ true
agg_from set types keys CountAll fits = fits.3
agg_from set types keys (Count column) fits = free_from set.count (length types) keys column fits.0 fits.2 fits.3
agg_from set types keys (CountDistinct column) fits = free_from set.count_distinct (length types) keys column fits.0 fits.2 fits.3
agg_from set types keys (Sum column) fits =
    let ints = same_type (type_at types column) kind.Int in
    let free = and_from (nat_lt column (length types)) (is_no_key keys column) fits.0 fits.2 in
    and_from set.sum (is_free (length types) keys column && ints) fits.3 (and_from (is_free (length types) keys column) ints free fits.1)
agg_from set types keys (Min column) fits = free_from set.min (length types) keys column fits.0 fits.2 fits.3
agg_from set types keys (Max column) fits = free_from set.max (length types) keys column fits.0 fits.2 fits.3

agg_to : (set : AggSet) (types : List ColType) (keys : List ℕ) (agg : Agg) → is_allowed set types keys agg ≡ true → AggFits set types keys agg
agg_to set types keys CountAll e = (refl, refl, refl, e)
agg_to set types keys (Count column) e = let h = free_to set.count (length types) keys column e in (h.0, refl, h.1, h.2)
agg_to set types keys (CountDistinct column) e = let h = free_to set.count_distinct (length types) keys column e in (h.0, refl, h.1, h.2)
agg_to set types keys (Sum column) e =
    let ints = same_type (type_at types column) kind.Int in
    let h = and_parts set.sum (is_free (length types) keys column && ints) e in
    let k = and_parts (is_free (length types) keys column) ints h.1 in
    let f = and_parts (nat_lt column (length types)) (is_no_key keys column) k.0 in
    (f.0, k.1, f.1, h.0)
agg_to set types keys (Min column) e = let h = free_to set.min (length types) keys column e in (h.0, refl, h.1, h.2)
agg_to set types keys (Max column) e = let h = free_to set.max (length types) keys column e in (h.0, refl, h.1, h.2)

-- the tests of a node: those of the names and types, of the grammar, and of the sizes
abbrev pub rules : TaskParts → List (Tree → Bool)
rules task =
    input_named task ∷ columns_named task ∷ types_fit task ∷ filter_placed ∷ filter_asks ∷ parts_ordered ∷ keys_ascend ∷ agg_apart ∷ agg_allowed task ∷ atoms_in_order ∷ atoms_few task ∷ parts_meet task ∷ []

-- the places of the tests
module _ (task : TaskParts) where
  pub first_rule : In (input_named task) (rules task)
  first_rule = inl refl

  pub second_rule : In (columns_named task) (rules task)
  second_rule = inr (inl refl)

  pub third_rule : In (types_fit task) (rules task)
  third_rule = inr (inr (inl refl))

  pub fourth_rule : In filter_placed (rules task)
  fourth_rule = inr (inr (inr (inl refl)))

  pub fifth_rule : In filter_asks (rules task)
  fifth_rule = inr (inr (inr (inr (inl refl))))

  pub sixth_rule : In parts_ordered (rules task)
  sixth_rule = inr (inr (inr (inr (inr (inl refl)))))

  pub seventh_rule : In keys_ascend (rules task)
  seventh_rule = inr (inr (inr (inr (inr (inr (inl refl))))))

  pub eighth_rule : In agg_apart (rules task)
  eighth_rule = inr (inr (inr (inr (inr (inr (inr (inl refl)))))))

  pub ninth_rule : In (agg_allowed task) (rules task)
  ninth_rule = inr (inr (inr (inr (inr (inr (inr (inr (inl refl))))))))

  pub tenth_rule : In atoms_in_order (rules task)
  tenth_rule = inr (inr (inr (inr (inr (inr (inr (inr (inr (inl refl)))))))))

  pub eleventh_rule : In (atoms_few task) (rules task)
  eleventh_rule = inr (inr (inr (inr (inr (inr (inr (inr (inr (inr (inl refl))))))))))

  pub twelfth_rule : In (parts_meet task) (rules task)
  twelfth_rule = inr (inr (inr (inr (inr (inr (inr (inr (inr (inr (inr (inl refl)))))))))))

  -- a node that keeps all rules keeps each
  kept : (x : Tree) → all_hold (rules task) x ≡ true → (f : Tree → Bool) → In f (rules task) → f x ≡ true
  kept x e f i = of_all (λ g. g x) f (rules task) e i

-- six tests in a row hold where each does
six_from : (a b c d e f : Bool) → a ≡ true → b ≡ true → c ≡ true → d ≡ true → e ≡ true → f ≡ true → (a && (b && (c && (d && (e && (f && true)))))) ≡ true
six_from a b c d e f g h i j k l =
    and_from a (b && (c && (d && (e && (f && true))))) g
    (and_from b (c && (d && (e && (f && true)))) h
    (and_from c (d && (e && (f && true))) i
    (and_from d (e && (f && true)) j
    (and_from e (f && true) k (and_from f true l refl)))))

module _ (task : TaskParts) (some : 1 ≤ task.atoms) where
  -- the rules of a tree say that its skeleton is formed and that each predicate is one of its hole's
  pub rules_form : (tree : Tree) → each_node (all_hold (rules task)) tree ≡ true → (is_formed task (opened tree) ≡ true) × HolesFit task tree
  rules_form (t.base table) e = (kept task (t.base table) e (input_named task) (first_rule task), tt)
  rules_form (t.filter child p) e =
      let node = t.filter child p in
      let h = and_parts (each_node (all_hold (rules task)) child) (all_hold (rules task) node) e in
      let part = rules_form child h.0 in
      let placed = kept task node h.1 filter_placed (fourth_rule task) in
      let takes = and_from (takes_filter (opened child)) true (takes_filter_opened child ∙ placed) refl in
      let fits : PredFits task (columns task.inputs child) p = (
        kept task node h.1 (columns_named task) (second_rule task),
        kept task node h.1 (types_fit task) (third_rule task),
        kept task node h.1 atoms_in_order (tenth_rule task),
        kept task node h.1 (atoms_few task) (eleventh_rule task),
      ) in (
        and_from (is_formed task (opened child)) (takes_filter (opened child) && true) part.0 takes,
        (part.1, fitting_filter_preds task (columns task.inputs child) some p fits (kept task node h.1 filter_asks (fifth_rule task))),
      )
  rules_form (t.pair kind a b p) e =
      let node = t.pair kind a b p in
      let h = three_parts (each_node (all_hold (rules task)) a) (each_node (all_hold (rules task)) b) (all_hold (rules task) node) e in
      let left = rules_form a h.0 in
      let right = rules_form b h.1 in
      let own = and_from (may_meet task (a, b)) (pair_in_order kind (a, b)) (kept task node h.2 (parts_meet task) (twelfth_rule task)) (kept task node h.2 parts_ordered (sixth_rule task)) in
      let may = pair_same task kind (opened a) (opened b) a b (leaves_opened a) (leaves_opened b) ∙ own in
      let fits : PredFits task (hole_types task.inputs a b) p = (
        kept task node h.2 (columns_named task) (second_rule task),
        kept task node h.2 (types_fit task) (third_rule task),
        kept task node h.2 atoms_in_order (tenth_rule task),
        kept task node h.2 (atoms_few task) (eleventh_rule task),
      ) in (
        three_from (is_formed task (opened a)) (is_formed task (opened b)) (may_pair task kind (opened a, opened b) && true) left.0 right.0
            (and_from (may_pair task kind (opened a, opened b)) true may refl),
        (left.1, right.1, fitting_preds task (hole_types task.inputs a b) some p fits),
      )
  rules_form (t.group child keys agg) e =
      let node = t.group child keys agg in
      let types = columns task.inputs child in
      let h = and_parts (each_node (all_hold (rules task)) child) (all_hold (rules task) node) e in
      let part = rules_form child h.0 in
      let range = and_parts (list_all (λ k. nat_lt k (length types)) keys) (agg_in_range (length types) agg) (kept task node h.1 (columns_named task) (second_rule task)) in
      let keyed = keys_from (length types) keys range.0 (kept task node h.1 keys_ascend (seventh_rule task)) in
      let fits : AggFits task.aggregates types keys agg =
      (range.1, kept task node h.1 (types_fit task) (third_rule task), kept task node h.1 agg_apart (eighth_rule task), kept task node h.1 (agg_allowed task) (ninth_rule task)) in
      let grouped : List ColType → Bool = λ us. are_keys (length us) keys && is_allowed task.aggregates us keys agg in
      let own = and_from (are_keys (length types) keys) (is_allowed task.aggregates types keys agg) keyed (agg_from task.aggregates types keys agg fits) in
      (and_from (is_formed task (opened child)) (grouped (columns task.inputs (opened child))) part.0 (ap grouped (columns_opened task child) ∙ own), part.1)
  rules_form (t.unite kind a b) e =
      let node = t.unite kind a b in
      let h = three_parts (each_node (all_hold (rules task)) a) (each_node (all_hold (rules task)) b) (all_hold (rules task) node) e in
      let left = rules_form a h.0 in
      let right = rules_form b h.1 in
      let own = three_from (may_meet task (a, b)) (in_order (a, b)) (pointwise same_type (columns task.inputs a) (columns task.inputs b))
      (kept task node h.2 (parts_meet task) (twelfth_rule task)) (kept task node h.2 parts_ordered (sixth_rule task)) (kept task node h.2 (types_fit task) (third_rule task)) in
      let may = unite_same task (opened a) (opened b) a b (leaves_opened a) (leaves_opened b) (columns_opened task a) (columns_opened task b) ∙ own in
      (three_from (is_formed task (opened a)) (is_formed task (opened b)) (may_unite task (opened a, opened b)) left.0 right.0 may, (left.1, right.1))

  -- and the other way round
  pub formed_rules : (tree : Tree) → is_formed task (opened tree) ≡ true → HolesFit task tree → each_node (all_hold (rules task)) tree ≡ true
  formed_rules (t.base table) formed fit = and_from (nat_lt table (length task.inputs)) true formed refl
  formed_rules (t.filter child p) formed fit =
      let node = t.filter child p in
      let types = columns task.inputs child in
      let h = and_parts (is_formed task (opened child)) (takes_filter (opened child) && true) formed in
      let takes = sym (takes_filter_opened child) ∙ (and_parts (takes_filter (opened child)) true h.1).0 in
      let own = filter_preds_fit task types some p fit.1 in
      and_from (each_node (all_hold (rules task)) child) (all_hold (rules task) node) (formed_rules child h.0 fit.0)
      (six_from (columns_named task node) (types_fit task node) (takes_filter child) (filter_asks node) (atoms_in_order node) (atoms_few task node) own.0.0 own.0.1 takes own.1 own.0.2 own.0.3)
  formed_rules (t.pair kind a b p) formed fit =
      let node = t.pair kind a b p in
      let h = three_parts (is_formed task (opened a)) (is_formed task (opened b)) (may_pair task kind (opened a, opened b) && true) formed in
      let may = sym (pair_same task kind (opened a) (opened b) a b (leaves_opened a) (leaves_opened b)) ∙ (and_parts (may_pair task kind (opened a, opened b)) true h.2).0 in
      let k = and_parts (may_meet task (a, b)) (pair_in_order kind (a, b)) may in
      let own = preds_fit task (hole_types task.inputs a b) some p fit.2 in
      three_from (each_node (all_hold (rules task)) a) (each_node (all_hold (rules task)) b) (all_hold (rules task) node) (formed_rules a h.0 fit.0) (formed_rules b h.1 fit.1)
      (six_from (columns_named task node) (types_fit task node) (parts_ordered node) (atoms_in_order node) (atoms_few task node) (parts_meet task node) own.0 own.1 k.1 own.2 own.3 k.0)
  formed_rules (t.group child keys agg) formed fit =
      let node = t.group child keys agg in
      let types = columns task.inputs child in
      let grouped : List ColType → Bool = λ us. are_keys (length us) keys && is_allowed task.aggregates us keys agg in
      let h = and_parts (is_formed task (opened child)) (grouped (columns task.inputs (opened child))) formed in
      let own = and_parts (are_keys (length types) keys) (is_allowed task.aggregates types keys agg) (sym (ap grouped (columns_opened task child)) ∙ h.1) in
      let keyed = keys_to (length types) keys own.0 in
      let fits = agg_to task.aggregates types keys agg own.1 in
      let range = and_from (list_all (λ k. nat_lt k (length types)) keys) (agg_in_range (length types) agg) keyed.0 fits.0 in
      and_from (each_node (all_hold (rules task)) child) (all_hold (rules task) node) (formed_rules child h.0 fit)
      (and_from (columns_named task node) (types_fit task node && (keys_ascend node && (agg_apart node && (agg_allowed task node && true)))) range
      (and_from (types_fit task node) (keys_ascend node && (agg_apart node && (agg_allowed task node && true))) fits.1
      (and_from (keys_ascend node) (agg_apart node && (agg_allowed task node && true)) keyed.1
      (and_from (agg_apart node) (agg_allowed task node && true) fits.2 (and_from (agg_allowed task node) true fits.3 refl)))))
  formed_rules (t.unite kind a b) formed fit =
      let node = t.unite kind a b in
      let h = three_parts (is_formed task (opened a)) (is_formed task (opened b)) (may_unite task (opened a, opened b)) formed in
      let may = sym (unite_same task (opened a) (opened b) a b (leaves_opened a) (leaves_opened b) (columns_opened task a) (columns_opened task b)) ∙ h.2 in
      let k = three_parts (may_meet task (a, b)) (in_order (a, b)) (types_fit task node) may in
      three_from (each_node (all_hold (rules task)) a) (each_node (all_hold (rules task)) b) (all_hold (rules task) node) (formed_rules a h.0 fit.0) (formed_rules b h.1 fit.1)
      (and_from (types_fit task node) (parts_ordered node && (parts_meet task node && true)) k.2
      (and_from (parts_ordered node) (parts_meet task node && true) k.1 (and_from (parts_meet task node) true k.0 refl)))

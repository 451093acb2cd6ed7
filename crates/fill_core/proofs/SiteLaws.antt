-- What nodes make of their parts' rows are the standard fillings.
use Rattle.std.proofs.Common.{◌≡◌, ℕ, ◌≤◌, List, [], ◌∷◌, ◌++◌, drop, length, refl, sym, ap, subst, ◌∙◌, Option, Some}
use Rattle.std.specs.Prelude.{All}
use Rattle.std.specs.List.{flat_map}
use Rattle.std.proofs.lemmas.List.{append-nil, drop_all}
use Rattle.std.proofs.lemmas.List.Elements.{All-head}
use Rattle.std.proofs.lemmas.List.Folds.{flat_map-map}
use Rattle.value_core.specs.declared.value.ColType.{ColType}
use Rattle.predicate_core.specs.declared.pred.Pred.{Pred}
use Rattle.table_core.specs.Rows.{Row as Tuple}
use Rattle.table_core.specs.declared.task.TaskParts.{TaskParts}
use Rattle.query_core.specs.Tree.{Tree}
use Rattle.query_core.specs.Tree as t
use Rattle.query_core.specs.Groups.{grouped}
use Rattle.query_core.specs.Meaning.{group_types}
use Rattle.query_core.specs.Filled.{Filled, standard_fillings, filled_filters, filled_pairs, filled_groups}
use Rattle.query_core.specs.declared.agg.Agg.{Agg}
use Rattle.query_core.specs.declared.kinds.Pairing.{Pairing}
use Rattle.query_core.specs.declared.kinds.Uniting.{Uniting}
use Rattle.query_core.proofs.MapLaws.{flat_map_same}
use Rattle.query_laws.specs.Filled.{unions_on, of_each_filled}
use Rattle.query_laws.proofs.FilledLaws.{filter_filled, pair_filled, group_filled, union_filled}
use Rattle.fill_core.specs.Offers.{filled_by_all}
use Rattle.fill_core.specs.Sites.{unary_filled, binary_with}
use Rattle.fill_core.specs.View.{entry_filled, entries_filled, row_filled, IsPartOf, ArePartsOf}
use Rattle.fill_core.specs.declared.choice.Choice.{Choice}
use Rattle.fill_core.specs.declared.fillings.Entry.{Entry}
use Rattle.fill_core.specs.declared.fillings.Fillings.{Fillings}
use Rattle.fill_core.specs.declared.site.Unary.TheVariants as one
use Rattle.fill_core.specs.declared.site.Binary.TheVariants as two

-- each as a list of itself
pub singles : {A : Type 0} (xs : List A) → flat_map (λ x. x ∷ []) xs ≡ xs
singles [] = refl
singles (x ∷ xs) = ap (λ t. x ∷ t) (singles xs)

-- a keeper's store, where all choices were kept
pub kept_all : (types own : List ColType) (preds : List Pred) (candidates : List Tuple) (choices : List Choice) (before after : List Entry) (i : ℕ) → types ≡ own → length choices ≤ i
    → entries_filled types after ++ filled_by_all types preds candidates (drop i choices) ≡ entries_filled types before ++ filled_by_all types preds candidates choices
    → entries_filled own after ≡ entries_filled own before ++ flat_map (λ f. f ∷ []) (filled_by_all types preds candidates choices)
kept_all types own preds candidates choices before after i same past so_far =
    ap (λ ts. entries_filled ts after) (sym same)
    ∙ sym (append-nil (entries_filled types after))
    ∙ ap (λ cs. entries_filled types after ++ filled_by_all types preds candidates cs) (sym (drop_all i choices past))
    ∙ so_far
    ∙ ap (λ ts. entries_filled ts before ++ filled_by_all types preds candidates choices) same
    ∙ ap (λ fs. entries_filled own before ++ fs) (sym (singles (filled_by_all types preds candidates choices)))

-- the group of an entry may be handed over, where what the operator makes of the entry may
pub group_accepted : (P : Filled → Type 0) (keys : List ℕ) (agg : Agg) (types child : List ColType) (e : Entry) (preds : List Pred) (rows groups : List Tuple)
    → types ≡ group_types child keys agg → preds ≡ e.preds → rows ≡ groups → grouped keys agg e.rows ≡ Some groups
    → All P (filled_groups keys agg (entry_filled child e)) → P (record { types = types; preds = preds; rows = rows })
group_accepted P keys agg types child e preds rows groups is_types is_preds is_rows is_groups all =
    let one = rw is_groups at all in
    rw (is_types, is_preds, is_rows) (All-head P _ [] one)

-- so may the union of two entries
pub union_accepted : (P : Filled → Type 0) (f : Filled) (types : List ColType) (preds : List Pred) (rows : List Tuple) → types ≡ f.types → preds ≡ f.preds → rows ≡ f.rows → All P (f ∷ []) → P (record { types = types; preds = preds; rows = rows })
union_accepted P f types preds rows is_types is_preds is_rows all = rw (is_types, is_preds, is_rows) (All-head P f [] all)

-- what an operator makes of each entry of a row, where the row is the standard fillings of a skeleton

pub over_filters : (task : TaskParts) (row : Fillings) (child : Tree) (p : Pred) → row_filled row ≡ standard_fillings task child
    → flat_map (unary_filled task one.Filter row.types) row.entries ≡ standard_fillings task (t.filter child p)
over_filters task row child p is =
    sym (flat_map-map (filled_filters task) (entry_filled row.types) row.entries) ∙ ap (flat_map (filled_filters task)) is ∙ sym (filter_filled task child p)

pub over_groups : (task : TaskParts) (row : Fillings) (child : Tree) (keys : List ℕ) (agg : Agg) → row_filled row ≡ standard_fillings task child
    → flat_map (λ e. filled_groups keys agg (entry_filled row.types e)) row.entries ≡ standard_fillings task (t.group child keys agg)
over_groups task row child keys agg is =
    sym (flat_map-map (filled_groups keys agg) (entry_filled row.types) row.entries) ∙ ap (flat_map (filled_groups keys agg)) is ∙ sym (group_filled task child keys agg)

of_rows : (f : Filled → Filled → List Filled) (left right : List ColType) (lefts rights : List Entry)
    → flat_map (λ a. flat_map (λ b. f (entry_filled left a) (entry_filled right b)) rights) lefts ≡ of_each_filled f (entries_filled left lefts) (entries_filled right rights)
of_rows f left right lefts rights =
    flat_map_same (λ a. flat_map (λ b. f (entry_filled left a) (entry_filled right b)) rights) (λ a. flat_map (f (entry_filled left a)) (entries_filled right rights)) lefts
    (λ a. sym (flat_map-map (f (entry_filled left a)) (entry_filled right) rights))
    ∙ sym (flat_map-map (λ a. flat_map (f a) (entries_filled right rights)) (entry_filled left) lefts)

pub between_pairs : (task : TaskParts) (kind : Pairing) (left right : Fillings) (a b : Tree) (p : Pred) → row_filled left ≡ standard_fillings task a → row_filled right ≡ standard_fillings task b
    → flat_map (binary_with task (two.Pair kind) left.types right.types right.entries) left.entries ≡ standard_fillings task (t.pair kind a b p)
between_pairs task kind left right a b p is_left is_right =
    of_rows (filled_pairs task kind) left.types right.types left.entries right.entries
    ∙ ap (λ fs. of_each_filled (filled_pairs task kind) fs (row_filled right)) is_left
    ∙ ap (of_each_filled (filled_pairs task kind) (standard_fillings task a)) is_right
    ∙ sym (pair_filled task kind a b p)

pub between_unions : (task : TaskParts) (kind : Uniting) (left right : Fillings) (a b : Tree) → row_filled left ≡ standard_fillings task a → row_filled right ≡ standard_fillings task b
    → flat_map (binary_with task (two.Unite kind) left.types right.types right.entries) left.entries ≡ standard_fillings task (t.unite kind a b)
between_unions task kind left right a b is_left is_right =
    of_rows (unions_on kind) left.types right.types left.entries right.entries
    ∙ ap (λ fs. of_each_filled (unions_on kind) fs (row_filled right)) is_left
    ∙ ap (of_each_filled (unions_on kind) (standard_fillings task a)) is_right
    ∙ sym (union_filled task kind a b)

-- what a node makes of the rows of its parts are the standard fillings of its skeleton

part_row : (task : TaskParts) (child : Tree) (row : Fillings) (part : Option Fillings) → part ≡ Some row → IsPartOf task child part → row_filled row ≡ standard_fillings task child
part_row task child row part is own = (subst (IsPartOf task child) is own).0

pub site_filters : (task : TaskParts) (row : Fillings) (child : Tree) (p : Pred) (skeleton : Tree) (left right : Option Fillings) → t.filter child p ≡ skeleton → left ≡ Some row → ArePartsOf task skeleton left right
    → flat_map (unary_filled task one.Filter row.types) row.entries ≡ standard_fillings task skeleton
site_filters task row child p skeleton left right is is_left parts =
    over_filters task row child p (part_row task child row left is_left (subst (λ s. ArePartsOf task s left right) (sym is) parts)) ∙ ap (standard_fillings task) is

pub site_groups : (task : TaskParts) (row : Fillings) (child : Tree) (keys : List ℕ) (agg : Agg) (skeleton : Tree) (left right : Option Fillings) → t.group child keys agg ≡ skeleton → left ≡ Some row → ArePartsOf task skeleton left right
    → flat_map (λ e. filled_groups keys agg (entry_filled row.types e)) row.entries ≡ standard_fillings task skeleton
site_groups task row child keys agg skeleton left right is is_left parts =
    over_groups task row child keys agg (part_row task child row left is_left (subst (λ s. ArePartsOf task s left right) (sym is) parts)) ∙ ap (standard_fillings task) is

pub site_pairs : (task : TaskParts) (kind : Pairing) (a b : Fillings) (x y : Tree) (p : Pred) (skeleton : Tree) (left right : Option Fillings) → t.pair kind x y p ≡ skeleton → left ≡ Some a → right ≡ Some b → ArePartsOf task skeleton left right
    → flat_map (binary_with task (two.Pair kind) a.types b.types b.entries) a.entries ≡ standard_fillings task skeleton
site_pairs task kind a b x y p skeleton left right is is_left is_right parts =
    let both = subst (λ s. ArePartsOf task s left right) (sym is) parts in
    between_pairs task kind a b x y p (part_row task x a left is_left both.0) (part_row task y b right is_right both.1) ∙ ap (standard_fillings task) is

pub site_unions : (task : TaskParts) (kind : Uniting) (a b : Fillings) (x y : Tree) (skeleton : Tree) (left right : Option Fillings) → t.unite kind x y ≡ skeleton → left ≡ Some a → right ≡ Some b → ArePartsOf task skeleton left right
    → flat_map (binary_with task (two.Unite kind) a.types b.types b.entries) a.entries ≡ standard_fillings task skeleton
site_unions task kind a b x y skeleton left right is is_left is_right parts =
    let both = subst (λ s. ArePartsOf task s left right) (sym is) parts in
    between_unions task kind a b x y (part_row task x a left is_left both.0) (part_row task y b right is_right both.1) ∙ ap (standard_fillings task) is

-- The rows of each filling of a skeleton are covered by the skeleton's abstract rows.
use Rattle.std.proofs.Common.{◌≡◌, refl, sym, ap, ap₂, ◌∙◌, subst, true, false, ◌||◌, inl, inr, List, ◌++◌, map, length, Option, Some, None, option_map}
use Rattle.std.specs.Prelude.{filter}
use Rattle.std.proofs.lemmas.Bool.{cases_Bool, cond_both, or_parts, false≢true}
use Rattle.std.proofs.lemmas.Option.{none-some}
use Rattle.predicate_core.specs.Truth.{keeps}
use Rattle.predicate_core.proofs.OnceLists.{In}
use Rattle.table_core.specs.Rows.{Row}
use Rattle.table_core.specs.declared.task.TaskParts.{TaskParts}
use Rattle.query_core.specs.Tree.{Tree}
use Rattle.query_core.specs.Tree as t
use Rattle.query_core.specs.Firsts.{united}
use Rattle.query_core.specs.Joins.{paired}
use Rattle.query_core.specs.Groups.{grouped}
use Rattle.query_core.specs.Meaning.{columns, rows, input_at, of_both, of_rows}
use Rattle.query_core.specs.Grammar.{fillings}
use Rattle.query_laws.proofs.ListLaws.{contains_in}
use Rattle.query_laws.proofs.QueryLaws.{opened, opened_fillings}
use Rattle.query_laws.proofs.StandardFillingLaws.{columns_opened}
use Rattle.over_eval.specs.Over.{AbsRow, exact_row, has_hole, over_pair, groups_over, over_both, exact, over}
use Rattle.over_eval.specs.Laws.{IsCovered, AreCovered, RowsAreCovered}
use Rattle.over_eval.proofs.PlacedLaws.{part_places, part_filtered}
use Rattle.over_eval.proofs.StepLaws.{exact_covered, covered_paired, covered_united}
use Rattle.over_eval.proofs.GroupLaws.{from_map, covered_groups}

-- there are abstract rows, and they cover these
abbrev pub CoveredBy : List Row → Option (List AbsRow) → Type 0
CoveredBy given o = (abstract : List AbsRow) × (o ≡ Some abstract) × AreCovered given abstract

-- the rows of two parts
from_both : (f : List Row → List Row → List Row) (left right : Option (List Row)) (given : List Row) → of_both f left right ≡ Some given
    → (xs ys : List Row) × (left ≡ Some xs) × (right ≡ Some ys) × (given ≡ f xs ys)
from_both f None right given e = absurd (none-some given e)
from_both f (Some xs) right given e = let h = from_map (f xs) right given e in (xs, h.0, refl, h.1, h.2)

both_covered : (f : List Row → List Row → List Row) (g : List AbsRow → List AbsRow → List AbsRow)
    → ((xs ys : List Row) (us vs : List AbsRow) → AreCovered xs us → AreCovered ys vs → AreCovered (f xs ys) (g us vs))
    → (left right : Option (List Row)) (overl overr : Option (List AbsRow))
    → ((xs : List Row) → left ≡ Some xs → CoveredBy xs overl) → ((ys : List Row) → right ≡ Some ys → CoveredBy ys overr)
    → (given : List Row) → of_both f left right ≡ Some given → CoveredBy given (over_both g overl overr)
both_covered f g step left right overl overr lefts rights given e =
    let h = from_both f left right given e in
    let l = lefts h.0 h.2 in
    let r = rights h.1 h.3 in
    (g l.0 r.0, ap₂ (over_both g) l.1 r.1, subst (λ (xs : List Row). AreCovered xs (g l.0 r.0)) (sym h.4) (step h.0 h.1 l.0 r.0 l.2 r.2))

-- the rows of a part
from_rows : (f : List Row → Option (List Row)) (o : Option (List Row)) (given : List Row) → of_rows f o ≡ Some given → (xs : List Row) × (o ≡ Some xs) × (f xs ≡ Some given)
from_rows f None given e = absurd (none-some given e)
from_rows f (Some xs) given e = (xs, refl, e)

-- known rows cover themselves
exact_by : (given : List Row) (o : Option (List Row)) → o ≡ Some given → CoveredBy given (option_map (map exact_row) o)
exact_by given o e = (map exact_row given, ap (option_map (map exact_row)) e, exact_covered given)

-- the rows of a tree are covered by its abstract rows
pub tree_covered : (task : TaskParts) (tree : Tree) (given : List Row) → rows task.inputs task.constants tree ≡ Some given → CoveredBy given (over task tree)
tree_covered task (t.base table) given e = exact_by given (Some (input_at task.inputs table).rows) e
tree_covered task (t.filter child p) given e =
    let h = from_map (filter (keeps task.constants p)) (rows task.inputs task.constants child) given e in
    let c = tree_covered task child h.0 h.1 in
    (c.0, c.1, subst (λ (xs : List Row). AreCovered xs c.0) (sym h.2) (part_places IsCovered (filter (keeps task.constants p) h.0) h.0 c.0 (part_filtered (keeps task.constants p) h.0) c.2))
tree_covered task (t.pair kind a b p) given e =
    let width = length (columns task.inputs b) in
    both_covered (paired kind task.constants p width) (over_pair kind width) (λ xs ys us vs h k. covered_paired kind task.constants p width xs ys us vs h k)
    (rows task.inputs task.constants a) (rows task.inputs task.constants b) (over task a) (over task b) (tree_covered task a) (tree_covered task b) given e
tree_covered task (t.group child keys agg) given e =
    let h = from_rows (grouped keys agg) (rows task.inputs task.constants child) given e in
    let c = tree_covered task child h.0 h.1 in
    cond_both (has_hole child) (option_map (groups_over keys agg) (over task child)) (exact task (t.group child keys agg)) (CoveredBy given)
    (λ some. (groups_over keys agg c.0, ap (option_map (groups_over keys agg)) c.1, covered_groups keys agg h.0 c.0 given c.2 h.2))
    (λ none. exact_by given (rows task.inputs task.constants (t.group child keys agg)) e)
tree_covered task (t.unite kind a b) given e =
    cond_both (has_hole a || has_hole b) (over_both (λ lefts rights. lefts ++ rights) (over task a) (over task b)) (exact task (t.unite kind a b)) (CoveredBy given)
    (λ some. both_covered (united kind) (λ lefts rights. lefts ++ rights) (λ xs ys us vs h k. covered_united kind xs ys us vs h k)
    (rows task.inputs task.constants a) (rows task.inputs task.constants b) (over task a) (over task b) (tree_covered task a) (tree_covered task b) given e)
    (λ none. exact_by given (rows task.inputs task.constants (t.unite kind a b)) e)

-- Abstract rows hang on no predicate.

hole_opened : (tree : Tree) → has_hole (opened tree) ≡ has_hole tree
hole_opened (t.base table) = refl
hole_opened (t.filter child p) = refl
hole_opened (t.pair kind a b p) = refl
hole_opened (t.group child keys agg) = hole_opened child
hole_opened (t.unite kind a b) = ap₂ (λ x y. x || y) (hole_opened a) (hole_opened b)

-- a tree without holes is open already
whole_opened : (tree : Tree) → has_hole tree ≡ false → opened tree ≡ tree
whole_opened (t.base table) none = refl
whole_opened (t.filter child p) none = absurd (false≢true (sym none))
whole_opened (t.pair kind a b p) none = absurd (false≢true (sym none))
whole_opened (t.group child keys agg) none = ap (λ c. t.group c keys agg) (whole_opened child none)
whole_opened (t.unite kind a b) none = let h = or_parts (has_hole a) (has_hole b) none in ap₂ (t.unite kind) (whole_opened a h.0) (whole_opened b h.1)

pub over_opened : (task : TaskParts) (tree : Tree) → over task (opened tree) ≡ over task tree
over_opened task (t.base table) = refl
over_opened task (t.filter child p) = over_opened task child
over_opened task (t.pair kind a b p) =
    ap (λ types. over_both (over_pair kind (length types)) (over task (opened a)) (over task (opened b))) (columns_opened task b)
    ∙ ap₂ (over_both (over_pair kind (length (columns task.inputs b)))) (over_opened task a) (over_opened task b)
over_opened task (t.group child keys agg) =
    elim (cases_Bool (has_hole child)) [
      | inl some ↦
          let also : has_hole (opened child) ≡ true = hole_opened child ∙ some in
          rw (some, also) (ap (option_map (groups_over keys agg)) (over_opened task child))
      | inr none ↦ ap (λ c. over task (t.group c keys agg)) (whole_opened child none)
    ]
over_opened task (t.unite kind a b) =
    elim (cases_Bool (has_hole a || has_hole b)) [
      | inl some ↦
          let also : (has_hole (opened a) || has_hole (opened b)) ≡ true = ap₂ (λ x y. x || y) (hole_opened a) (hole_opened b) ∙ some in
          rw (some, also) (ap₂ (over_both (λ lefts rights. lefts ++ rights)) (over_opened task a) (over_opened task b))
      | inr none ↦ let h = or_parts (has_hole a) (has_hole b) none in ap₂ (λ x y. over task (t.unite kind x y)) (whole_opened a h.0) (whole_opened b h.1)
    ]

-- what fills a skeleton has its abstract rows
pub filling_over : (task : TaskParts) (skeleton body : Tree) → In body (fillings task skeleton) → over task body ≡ over task skeleton
filling_over task skeleton body i = sym (over_opened task body) ∙ ap (over task) (opened_fillings task skeleton body i) ∙ over_opened task skeleton

pub filling_covered : (task : TaskParts) (skeleton body : Tree) (given : List Row) → In body (fillings task skeleton) → rows task.inputs task.constants body ≡ Some given → CoveredBy given (over task skeleton)
filling_covered task skeleton body given i e =
    let h = tree_covered task body given e in
    (h.0, sym (filling_over task skeleton body i) ∙ h.1, h.2)

-- the law
pub rows_covered : (task : TaskParts) → RowsAreCovered task
rows_covered task skeleton body given fills e = filling_covered task skeleton body given (contains_in (fillings task skeleton) body fills) e

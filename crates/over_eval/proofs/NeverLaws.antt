-- A tree never has rows exactly where a part of it has no hole and no rows.
use Rattle.std.proofs.Common.{◌≡◌, refl, sym, ap, ◌∙◌, ℕ, false, ◌||◌, ◌⊎◌, inl, inr, List, ◌++◌, map, length, Option, Some, None, option_map}
use Rattle.std.proofs.lemmas.Bool.{cases_Bool, or_parts, false≢true}
use Rattle.std.proofs.lemmas.Option.{none-some}
use Rattle.table_core.specs.Rows.{Row}
use Rattle.table_core.specs.declared.task.TaskParts.{TaskParts}
use Rattle.query_core.specs.Tree.{Tree}
use Rattle.query_core.specs.Tree as t
use Rattle.query_core.specs.Firsts.{united}
use Rattle.query_core.specs.Groups.{grouped}
use Rattle.query_core.specs.Meaning.{columns, rows, input_at, of_both, of_rows}
use Rattle.query_core.specs.declared.agg.Agg.{Agg}
use Rattle.query_core.specs.declared.kinds.Uniting.{Uniting}
use Rattle.over_eval.specs.Over.{AbsRow, exact_row, has_hole, over_pair, groups_over, over_both, exact, over}
use Rattle.over_eval.specs.Laws.{IsRowless, HasRowlessPart, NeverByRowlessPart}

-- what is made of no value is none, and nothing else
unmapped : {X Y : Type 0} (f : X → Y) (o : Option X) → option_map f o ≡ None → o ≡ None
unmapped f None e = refl
unmapped f (Some x) e = absurd (none-some (f x) (sym e))

-- two parts: never where one of them is never there
one_never : (g : List AbsRow → List AbsRow → List AbsRow) (left right : Option (List AbsRow)) → over_both g left right ≡ None → (left ≡ None) ⊎ (right ≡ None)
one_never g None right e = inl refl
one_never g (Some lefts) right e = inr (unmapped (g lefts) right e)

left_never : (g : List AbsRow → List AbsRow → List AbsRow) (left right : Option (List AbsRow)) → left ≡ None → over_both g left right ≡ None
left_never g left right e = ap (λ o. over_both g o right) e

right_never : (g : List AbsRow → List AbsRow → List AbsRow) (left right : Option (List AbsRow)) → right ≡ None → over_both g left right ≡ None
right_never g None right e = refl
right_never g (Some lefts) right e = ap (option_map (g lefts)) e

left_none : (f : List Row → List Row → List Row) (left right : Option (List Row)) → left ≡ None → of_both f left right ≡ None
left_none f left right e = ap (λ o. of_both f o right) e

right_none : (f : List Row → List Row → List Row) (left right : Option (List Row)) → right ≡ None → of_both f left right ≡ None
right_none f None right e = refl
right_none f (Some lefts) right e = ap (option_map (f lefts)) e

module _ (task : TaskParts) where
  abbrev rows_of : Tree → Option (List Row)
  rows_of tree = rows task.inputs task.constants tree

  -- the abstract rows of a tree without holes are its rows
  pub whole_over : (tree : Tree) → has_hole tree ≡ false → over task tree ≡ exact task tree
  whole_over (t.base table) none = refl
  whole_over (t.filter child p) none = absurd (false≢true (sym none))
  whole_over (t.pair kind a b p) none = absurd (false≢true (sym none))
  whole_over (t.group child keys agg) none = rw none refl
  whole_over (t.unite kind a b) none = rw none refl

  -- so they are never there exactly where its rows aren't
  rowless_never : (tree : Tree) → IsRowless task tree → over task tree ≡ None
  rowless_never tree h = whole_over tree h.0 ∙ ap (option_map (map exact_row)) h.1

  never_rows : (tree : Tree) → has_hole tree ≡ false → over task tree ≡ None → rows_of tree ≡ None
  never_rows tree none e = unmapped (map exact_row) (rows_of tree) (sym (whole_over tree none) ∙ e)

  -- a tree that never has rows has such a part
  never_rowless : (tree : Tree) → over task tree ≡ None → HasRowlessPart task tree
  never_rowless (t.base table) e = absurd (none-some (map exact_row (input_at task.inputs table).rows) (sym e))
  never_rowless (t.filter child p) e = inr (never_rowless child e)
  never_rowless (t.pair kind a b p) e =
      elim (one_never (over_pair kind (length (columns task.inputs b))) (over task a) (over task b) e) [
        | inl left ↦ inr (inl (never_rowless a left))
        | inr right ↦ inr (inr (never_rowless b right))
      ]
  never_rowless (t.group child keys agg) e =
      elim (cases_Bool (has_hole child)) [
        | inl some ↦
            let h : option_map (groups_over keys agg) (over task child) ≡ None = rw some at e in
            inr (never_rowless child (unmapped (groups_over keys agg) (over task child) h))
        | inr none ↦ inl (none, never_rows (t.group child keys agg) none e)
      ]
  never_rowless (t.unite kind a b) e =
      elim (cases_Bool (has_hole a || has_hole b)) [
        | inl some ↦
            let both : List AbsRow → List AbsRow → List AbsRow = λ lefts rights. lefts ++ rights in
            let h : over_both both (over task a) (over task b) ≡ None = rw some at e in
            elim (one_never both (over task a) (over task b) h) [
              | inl left ↦ inr (inl (never_rowless a left))
              | inr right ↦ inr (inr (never_rowless b right))
            ]
        | inr none ↦ inl (none, never_rows (t.unite kind a b) none e)
      ]

  -- a tree with such a part never has rows
  group_never : (child : Tree) (keys : List ℕ) (agg : Agg) → over task child ≡ None → over task (t.group child keys agg) ≡ None
  group_never child keys agg e =
      elim (cases_Bool (has_hole child)) [
        | inl some ↦ rw some (ap (option_map (groups_over keys agg)) e)
        | inr none ↦ rowless_never (t.group child keys agg) (none, ap (of_rows (grouped keys agg)) (never_rows child none e))
      ]

  unite_never : (kind : Uniting) (a b : Tree) → (over task a ≡ None) ⊎ (over task b ≡ None) → over task (t.unite kind a b) ≡ None
  unite_never kind a b e =
      let both : List AbsRow → List AbsRow → List AbsRow = λ lefts rights. lefts ++ rights in
      elim (cases_Bool (has_hole a || has_hole b)) [
        | inl some ↦ rw some (elim e [
          | inl left ↦ left_never both (over task a) (over task b) left
          | inr right ↦ right_never both (over task a) (over task b) right
        ])
        | inr none ↦
            let h = or_parts (has_hole a) (has_hole b) none in
            rowless_never (t.unite kind a b) (
              none,
              elim e [
                | inl left ↦ left_none (united kind) (rows_of a) (rows_of b) (never_rows a h.0 left)
                | inr right ↦ right_none (united kind) (rows_of a) (rows_of b) (never_rows b h.1 right)
              ],
            )
      ]

  rowless_part_never : (tree : Tree) → HasRowlessPart task tree → over task tree ≡ None
  rowless_part_never (t.base table) h = rowless_never (t.base table) h
  rowless_part_never (t.filter child p) (inl h) = rowless_never (t.filter child p) h
  rowless_part_never (t.filter child p) (inr h) = rowless_part_never child h
  rowless_part_never (t.pair kind a b p) (inl h) = rowless_never (t.pair kind a b p) h
  rowless_part_never (t.pair kind a b p) (inr (inl h)) = left_never (over_pair kind (length (columns task.inputs b))) (over task a) (over task b) (rowless_part_never a h)
  rowless_part_never (t.pair kind a b p) (inr (inr h)) = right_never (over_pair kind (length (columns task.inputs b))) (over task a) (over task b) (rowless_part_never b h)
  rowless_part_never (t.group child keys agg) (inl h) = rowless_never (t.group child keys agg) h
  rowless_part_never (t.group child keys agg) (inr h) = group_never child keys agg (rowless_part_never child h)
  rowless_part_never (t.unite kind a b) (inl h) = rowless_never (t.unite kind a b) h
  rowless_part_never (t.unite kind a b) (inr (inl h)) = unite_never kind a b (inl (rowless_part_never a h))
  rowless_part_never (t.unite kind a b) (inr (inr h)) = unite_never kind a b (inr (rowless_part_never b h))

  -- the law
  pub never_by_rowless_part : NeverByRowlessPart task
  never_by_rowless_part tree = (never_rowless tree, rowless_part_never tree)

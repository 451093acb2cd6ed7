-- Parts of lists, and first copies.
use Rattle.std.proofs.Common.{◌≡◌, refl, sym, ap, ◌∙◌, Bool, true, false, not, List, [], ◌∷◌, ◌++◌, ◌⊎◌, inl, inr}
use Rattle.std.specs.Prelude.{filter}
use Rattle.std.specs.List.{list_any}
use Rattle.std.proofs.lemmas.Bool.{cases_Bool, false≢true, or_parts, not_from_true, not_from_false}
use Rattle.std.proofs.lemmas.List.{append-nil}
use Rattle.std.proofs.lemmas.List.Elements.{filter-append}
use Rattle.predicate_core.proofs.OnceLists.{In, Once}
use Rattle.table_core.specs.Rows.{Row}
use Rattle.table_core.specs.Bag.{same_cells, has_double}
use Rattle.table_core.proofs.BagLaws.{same_cells_decides}
use Rattle.query_core.specs.Firsts.{firsts}
use Rattle.query_laws.specs.Parts.{IsPart}
use Rattle.query_laws.proofs.MemberLaws.{in_filter, filter_in}
use Rattle.query_laws.proofs.JoinedLists.{once_filter}

-- two filters go in either order
pub filter_swap : {X : Type 0} (p q : X → Bool) (xs : List X) → filter p (filter q xs) ≡ filter q (filter p xs)
filter_swap p q [] = refl
filter_swap p q (x ∷ xs) =
    elim (cases_Bool (p x)) [
      | inl kept ↦ elim (cases_Bool (q x)) [
        | inl holds ↦ simp (kept, holds) (ap (λ t. x ∷ t) (filter_swap p q xs))
        | inr fails ↦ simp (kept, fails) (filter_swap p q xs)
      ]
      | inr dropped ↦ elim (cases_Bool (q x)) [
        | inl holds ↦ simp (dropped, holds) (filter_swap p q xs)
        | inr fails ↦ simp (dropped, fails) (filter_swap p q xs)
      ]
    ]

-- where no element passes a test, all are kept that don't pass it
filter_none : {X : Type 0} (p : X → Bool) (xs : List X) → list_any p xs ≡ false → filter (λ x. not (p x)) xs ≡ xs
filter_none p [] none = refl
filter_none p (x ∷ xs) none = let h = or_parts (p x) (list_any p xs) none in rw h.0 (ap (λ t. x ∷ t) (filter_none p xs h.1))

-- an element of a part is one of the list
pub in_part : {X : Type 0} (x : X) (part xs : List X) → IsPart part xs → In x part → In x xs
in_part x part [] e i = rw e at i
in_part x part (y ∷ ys) (inl h) i = inr (in_part x part ys h i)
in_part x part (y ∷ ys) (inr h) i =
    let j : In x (y ∷ h.0) = rw h.1 at i in
    elim j [ inl e ↦ inl e | inr rest ↦ inr (in_part x h.0 ys h.2 rest) ]

-- what is kept of a part is a part
pub part_filtered : {X : Type 0} (p : X → Bool) (part xs : List X) → IsPart part xs → IsPart (filter p part) xs
part_filtered p part [] e = ap (filter p) e
part_filtered p part (x ∷ xs) (inl h) = inl (part_filtered p part xs h)
part_filtered p part (x ∷ xs) (inr h) =
    elim (cases_Bool (p x)) [
      | inl holds ↦ inr (filter p h.0, rw (h.1, holds) refl, part_filtered p h.0 xs h.2)
      | inr fails ↦ inl (rw (h.1, fails) (part_filtered p h.0 xs h.2))
    ]

-- what is kept of a part is a part of what is kept of the list
pub kept_part : {X : Type 0} (p : X → Bool) (part xs : List X) → IsPart part xs → IsPart (filter p part) (filter p xs)
kept_part p part [] e = ap (filter p) e
kept_part p part (x ∷ xs) (inl h) =
    elim (cases_Bool (p x)) [
      | inl holds ↦ rw holds (inl (kept_part p part xs h))
      | inr fails ↦ rw fails (kept_part p part xs h)
    ]
kept_part p part (x ∷ xs) (inr h) =
    elim (cases_Bool (p x)) [
      | inl holds ↦ rw (h.1, holds) (inr (filter p h.0, refl, kept_part p h.0 xs h.2))
      | inr fails ↦ rw (h.1, fails) (kept_part p h.0 xs h.2)
    ]

-- rows other than x
abbrev other_rows : Row → List Row → List Row
other_rows x rows = filter (λ r. not (same_cells r x)) rows

-- x isn't among the rows other than x
not_other : (x : Row) (rows : List Row) → In x (other_rows x rows) → ⊥
not_other x rows i =
    let same : same_cells x x ≡ true = (same_cells_decides x x).1 refl in
    let h = in_filter (λ r. not (same_cells r x)) x rows i in
    false≢true (sym (not_from_true (same_cells x x) same) ∙ h.1)

-- each first copy stands once
pub once_firsts : (rows : List Row) → Once (firsts rows)
once_firsts [] = tt
once_firsts (x ∷ rows) = (not_other x (firsts rows), once_filter (λ r. not (same_cells r x)) (firsts rows) (once_firsts rows))

-- each row has a first copy
pub in_firsts : (y : Row) (rows : List Row) → In y rows → In y (firsts rows)
in_firsts y [] i = absurd i
in_firsts y (x ∷ rows) (inl e) = inl e
in_firsts y (x ∷ rows) (inr i) =
    elim (cases_Bool (same_cells y x)) [
      | inl same ↦ inl ((same_cells_decides y x).0 same)
      | inr other ↦ inr (filter_in (λ r. not (same_cells r x)) y (firsts rows) (not_from_false (same_cells y x) other) (in_firsts y rows i))
    ]

-- the first copies are a part of the rows
pub part_firsts : (rows : List Row) → IsPart (firsts rows) rows
part_firsts [] = refl
part_firsts (x ∷ rows) = inr (other_rows x (firsts rows), refl, part_filtered (λ r. not (same_cells r x)) (firsts rows) rows (part_firsts rows))

-- rows without doubles are their own first copies
pub firsts_single : (rows : List Row) → has_double rows ≡ false → firsts rows ≡ rows
firsts_single [] none = refl
firsts_single (x ∷ rows) none =
    let h = or_parts (list_any (λ r. same_cells r x) rows) (has_double rows) none in
    ap (λ t. x ∷ t) (ap (other_rows x) (firsts_single rows h.1) ∙ filter_none (λ r. same_cells r x) rows h.0)

-- a row stands among others, or it doesn't
in_or_not : (row : Row) (rows : List Row) → In row rows ⊎ (In row rows → ⊥)
in_or_not row [] = inr (λ i. i)
in_or_not row (x ∷ rows) =
    elim (cases_Bool (same_cells row x)) [
      | inl same ↦ inl (inl ((same_cells_decides row x).0 same))
      | inr other ↦ elim (in_or_not row rows) [
        | inl i ↦ inl (inr i)
        | inr new ↦ inr (λ i. elim i [ inl e ↦ false≢true (sym other ∙ (same_cells_decides row x).1 e) | inr later ↦ new later ])
      ]
    ]

-- the other rows where a row comes last that is x, and one that isn't
other_rows_same : (x row : Row) (rows : List Row) → row ≡ x → other_rows x (rows ++ row ∷ []) ≡ other_rows x rows
other_rows_same x row rows e =
    let same : same_cells row x ≡ true = (same_cells_decides row x).1 e in
    filter-append (λ r. not (same_cells r x)) rows (row ∷ []) ∙ rw same (append-nil (other_rows x rows))

other_rows_new : (x row : Row) (rows : List Row) → (row ≡ x → ⊥) → other_rows x (rows ++ row ∷ []) ≡ other_rows x rows ++ row ∷ []
other_rows_new x row rows apart =
    elim (cases_Bool (same_cells row x)) [
      | inl same ↦ absurd (apart ((same_cells_decides row x).0 same))
      | inr other ↦ filter-append (λ r. not (same_cells r x)) rows (row ∷ []) ∙ rw other refl
    ]

-- a row that comes last and didn't stand before is a first copy
pub firsts_new : (rows : List Row) (row : Row) → (In row rows → ⊥) → firsts (rows ++ row ∷ []) ≡ firsts rows ++ row ∷ []
firsts_new [] row new = refl
firsts_new (x ∷ rows) row new =
    ap (λ t. x ∷ t) (ap (other_rows x) (firsts_new rows row (λ i. new (inr i))) ∙ other_rows_new x row (firsts rows) (λ e. new (inl e)))

-- one that stood before is none
pub firsts_seen : (rows : List Row) (row : Row) → In row rows → firsts (rows ++ row ∷ []) ≡ firsts rows
firsts_seen [] row i = absurd i
firsts_seen (x ∷ rows) row i =
    elim (in_or_not row rows) [
      | inl later ↦ ap (λ t. x ∷ other_rows x t) (firsts_seen rows row later)
      | inr new ↦
          let first : row ≡ x = elim i [ inl e ↦ e | inr later ↦ absurd (new later) ] in
          ap (λ t. x ∷ t) (ap (other_rows x) (firsts_new rows row new) ∙ other_rows_same x row (firsts rows) first)
    ]

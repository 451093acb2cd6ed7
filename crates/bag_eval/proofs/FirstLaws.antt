-- Laws of first copies.
use Rattle.std.proofs.Common.{◌≡◌, Bool, true, false, not, List, [], ◌∷◌, ◌++◌, if◌then◌else◌, refl, sym, ap, ◌∙◌, inl, inr}
use Rattle.std.specs.Prelude.{filter}
use Rattle.std.specs.List.{list_any}
use Rattle.std.proofs.lemmas.Bool.{cases_Bool, false≢true}
use Rattle.std.proofs.lemmas.List.Elements.{filter-append}
use Rattle.table_core.specs.Rows.{Row}
use Rattle.table_core.specs.Bag.{same_cells}
use Rattle.table_core.proofs.BagLaws.{same_cells_decides}
use Rattle.query_core.specs.Firsts.{firsts}

-- rows other than x
abbrev others : Row → List Row → List Row
others x rows = filter (λ r. not (same_cells r x)) rows

-- a row that is the same as x is apart from y where x is
apart_too : (r x y : Row) → same_cells r x ≡ true → same_cells x y ≡ false → same_cells r y ≡ false
apart_too r x y same apart = let e : r ≡ x = (same_cells_decides r x).0 same in rw e apart

-- the test for the same row goes both ways
same_back : (x y : Row) → same_cells x y ≡ true → same_cells y x ≡ true
same_back x y same = (same_cells_decides y x).1 (sym ((same_cells_decides x y).0 same))

apart_back : (x y : Row) → same_cells x y ≡ false → same_cells y x ≡ false
apart_back x y apart =
    elim (cases_Bool (same_cells y x)) [
      | inl same ↦ absurd (false≢true (sym apart ∙ same_back y x same))
      | inr e ↦ e
    ]

-- leaving out the rows that are x doesn't change whether y, another row, is among them
any_others : (x y : Row) (rows : List Row) → same_cells x y ≡ false → list_any (λ r. same_cells r y) (others x rows) ≡ list_any (λ r. same_cells r y) rows
any_others x y [] apart = refl
any_others x y (r ∷ rows) apart =
    elim (cases_Bool (same_cells r x)) [
      | inl same ↦ rw (same, apart_too r x y same apart) (any_others x y rows apart)
      | inr other ↦ rw (other, any_others x y rows apart) refl
    ]

-- whether y comes last among the first copies behind x
last_of : (x y : Row) (seen : Bool) (rows : List Row) → same_cells x y ≡ true → others x (rows ++ (if seen then [] else y ∷ [])) ≡ others x rows ++ []
last_of x y true rows same = filter-append (λ r. not (same_cells r x)) rows []
last_of x y false rows same = filter-append (λ r. not (same_cells r x)) rows (y ∷ []) ∙ rw (same_back x y same) refl

last_other : (x y : Row) (seen : Bool) (rows : List Row) → same_cells x y ≡ false → others x (rows ++ (if seen then [] else y ∷ [])) ≡ others x rows ++ (if seen then [] else y ∷ [])
last_other x y true rows apart = filter-append (λ r. not (same_cells r x)) rows []
last_other x y false rows apart = filter-append (λ r. not (same_cells r x)) rows (y ∷ []) ∙ rw (apart_back x y apart) refl

-- the first copies, and one row more at the end
pub firsts_push : (xs : List Row) (y : Row) → firsts (xs ++ y ∷ []) ≡ firsts xs ++ (if list_any (λ r. same_cells r y) (firsts xs) then [] else y ∷ [])
firsts_push [] y = refl
firsts_push (x ∷ xs) y =
    elim (cases_Bool (same_cells x y)) [
      | inl same ↦ rw (firsts_push xs y, same) (ap (λ t. x ∷ t) (last_of x y _ (firsts xs) same))
      | inr apart ↦ rw (firsts_push xs y, apart, any_others x y (firsts xs) apart) (ap (λ t. x ∷ t) (last_other x y _ (firsts xs) apart))
    ]

-- a row is among the first copies exactly where it is among the rows
pub any_firsts : (y : Row) (rows : List Row) → list_any (λ r. same_cells r y) (firsts rows) ≡ list_any (λ r. same_cells r y) rows
any_firsts y [] = refl
any_firsts y (x ∷ rows) =
    elim (cases_Bool (same_cells x y)) [
      | inl same ↦ rw (same) refl
      | inr apart ↦ rw (apart, any_others x y (firsts rows) apart) (any_firsts y rows)
    ]

-- How often rows stand in bags that are the same.
use Rattle.std.proofs.Common.{◌≡◌, ◌≤◌, ◌==◌, true, List, [], ◌∷◌, ◌++◌, sym, arith, inl, inr}
use Rattle.std.proofs.lemmas.Bool.{cases_Bool, eqb-true}
use Rattle.predicate_core.proofs.OnceLists.{In}
use Rattle.table_core.specs.Rows.{Row}
use Rattle.table_core.specs.Bag.{same_cells, count, same_rows}
use Rattle.table_core.proofs.BagLaws.{same_cells_decides}
use Rattle.query_laws.proofs.MemberLaws.{in_front, in_back}
use Rattle.query_laws.proofs.AscendingLists.{of_all}
use Rattle.map_walk.proofs.RowCountLaws.{count_next, counted}

-- a row that has a place is among the rows
pub found : (x : Row) (rows : List Row) → 1 ≤ count rows x → In x rows
found x [] some = absurd (omega (arith, some))
found x (row ∷ rows) some =
    let next = count_next (λ r. same_cells r x) row rows in
    elim (cases_Bool (same_cells row x)) [
      | inl here ↦ inl (sym ((same_cells_decides row x).0 here))
      | inr other ↦ inr (found x rows (let h = rw (next, other) at some in omega (arith, h)))
    ]

-- rows that are one bag have the same elements
pub bag_counts : (xs ys : List Row) (x : Row) → same_rows xs ys ≡ true → In x (xs ++ ys) → count xs x ≡ count ys x
bag_counts xs ys x bag i = eqb-true _ _ (of_all (λ r. count xs r == count ys r) x (xs ++ ys) bag i)

pub in_second : (xs ys : List Row) (x : Row) → same_rows xs ys ≡ true → In x xs → In x ys
in_second xs ys x bag i = let e = bag_counts xs ys x bag (in_front x xs ys i) in let some = counted x xs i in found x ys (omega (arith, e, some))

pub in_first : (xs ys : List Row) (x : Row) → same_rows xs ys ≡ true → In x ys → In x xs
in_first xs ys x bag i = let e = bag_counts xs ys x bag (in_back x xs ys i) in let some = counted x ys i in found x xs (omega (arith, e, some))

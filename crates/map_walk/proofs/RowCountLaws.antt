-- Rows and their first copies: how often a row stands among rows, and tests of all.
use Rattle.std.proofs.Common.{◌≡◌, ◌≤◌, ◌+◌, Bool, true, false, cond, List, [], ◌∷◌, refl, sym, arith, inl, inr}
use Rattle.std.specs.Prelude.{count_by}
use Rattle.std.specs.List.{list_all}
use Rattle.std.proofs.lemmas.Bool.{false≢true}
use Rattle.std.proofs.lemmas.List.Sums.{sum_by-cons}
use Rattle.predicate_core.proofs.OnceLists.{In}
use Rattle.table_core.specs.Rows.{Row}
use Rattle.table_core.specs.Bag.{same_cells, count}
use Rattle.table_core.proofs.BagLaws.{same_cells_decides}
use Rattle.query_core.specs.Firsts.{firsts}
use Rattle.query_laws.proofs.AscendingLists.{all_of, of_all}
use Rattle.query_laws.proofs.FirstCopyLaws.{in_firsts, in_part, part_firsts}

-- two tests that hold of the same are one
pub both_same : (a b : Bool) → (a ≡ true → b ≡ true) → (b ≡ true → a ≡ true) → a ≡ b
both_same true b to from = sym (to refl)
both_same false true to from = absurd (false≢true (from refl))
both_same false false to from = refl

-- each first copy is a row
pub firsts_in : (x : Row) (rows : List Row) → In x (firsts rows) → In x rows
firsts_in x rows i = in_part x (firsts rows) rows (part_firsts rows) i

-- all rows pass a test where the first copies do
pub all_firsts : (p : Row → Bool) (rows : List Row) → list_all p (firsts rows) ≡ list_all p rows
all_firsts p rows = both_same _ _ (λ all. all_of p rows (λ r i. of_all p r (firsts rows) all (in_firsts r rows i))) (λ all. all_of p (firsts rows) (λ r i. of_all p r rows all (firsts_in r rows i)))

-- the places among one row more
pub count_next : (p : Row → Bool) (row : Row) (rows : List Row) → count_by p (row ∷ rows) ≡ cond (p row) 1 0 + count_by p rows
count_next p row rows = sum_by-cons (λ r. cond (p r) 1 0) row rows

-- a row has a place exactly where it is among the rows
pub counted : (x : Row) (rows : List Row) → In x rows → 1 ≤ count rows x
counted x [] i = absurd i
counted x (row ∷ rows) (inl e) =
    let here : same_cells row x ≡ true = (same_cells_decides row x).1 (sym e) in
    let next = count_next (λ r. same_cells r x) row rows in
    rw (next, here) (omega arith)
counted x (row ∷ rows) (inr i) =
    let next = count_next (λ r. same_cells r x) row rows in
    let more = counted x rows i in
    rw next (omega (arith, more))

-- Laws of rows and bags.
use Rattle.std.proofs.Common.{◌≡◌, Decides}
use Rattle.std.specs.Cmp.Lexicographic.{pointwise_decides}
use Rattle.value_core.proofs.ValueLaws.{same_decides}
use Rattle.table_core.specs.Rows.{Row}
use Rattle.table_core.specs.Bag.{same_cells}

-- two rows are the same exactly where they are equal
pub same_cells_decides : (a b : Row) → Decides (same_cells a b) (a ≡ b)
same_cells_decides a b = pointwise_decides same_decides a b

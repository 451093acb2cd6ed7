-- The rows of an output as targets: which candidate rows of a body project to each, and how often it is wanted.
use Rattle.std.specs.Prelude.{ℕ, Bool, true, false, not, ◌&&◌, ◌||◌, ◌==◌, nat_lt, nat_le, List, map}
use Rattle.std.specs.List.{list_all, sum_by}
use Rattle.table_core.specs.Rows.{Row}
use Rattle.table_core.specs.Bag.{same_cells, count, same_rows, has_double}
use Rattle.query_core.specs.Firsts.{projected, firsts}
use Rattle.query_core.specs.Meaning.{selected, given_rows}
use Rattle.bit_rows.specs.Bits.{and_bits}
use Rattle.map_walk.specs.Targets.{ones}
use Rattle.map_walk.specs.declared.target.Target.{Target}

-- whether the rows of a body give an output by this map: they are its bag, and where duplicates are removed there are some
abbrev pub rows_give : List ℕ → Bool → List Row → List Row → Bool
rows_give picks distinct rows output = (not distinct || has_double (selected picks rows)) && same_rows (given_rows picks distinct rows) output

-- how many bits are set in both of two rows
abbrev pub shared : List Bool → List Bool → ℕ
shared bits mask = ones (and_bits bits mask)

-- which candidate rows project to this row
abbrev pub mask_of : List ℕ → List Row → Row → List Bool
mask_of picks candidates row = map (λ c. same_cells (projected picks c) row) candidates

-- a row of an output as a target
abbrev pub target_of : List ℕ → List Row → List Row → Row → Target
target_of picks candidates output row = record { mask = mask_of picks candidates row; copies = count output row }

-- the rows of an output, each once, as targets
abbrev pub targets : List ℕ → List Row → List Row → List Target
targets picks candidates output = map (target_of picks candidates output) (firsts output)

-- whether as many candidates as are wanted are kept, and of each target as many as it has copies
abbrev pub all_give : ℕ → List Bool → List Target → Bool
all_give wanted bits targets = (ones bits == wanted) && list_all (λ t. shared bits t.mask == t.copies) targets

-- whether so many candidates are those of the targets, of each target some, and each target has one copy
abbrev pub each_found : ℕ → List Bool → List Target → Bool
each_found total bits targets = (total == sum_by (λ t. shared bits t.mask) targets) && list_all (λ t. nat_le 1 (shared bits t.mask) && (t.copies == 1)) targets

-- whether more candidates than are wanted are kept, each of a target, of each target some, and each target has one copy
abbrev pub firsts_give : ℕ → List Bool → List Target → Bool
firsts_give wanted bits targets = nat_lt wanted (ones bits) && each_found (ones bits) bits targets

-- whether the candidates that some bits keep give an output of so many rows, with or without removal of duplicates
abbrev pub bits_give : Bool → ℕ → List Bool → List Target → Bool
bits_give true wanted bits targets = firsts_give wanted bits targets
bits_give false wanted bits targets = all_give wanted bits targets

-- A folder in memory whose reads fail at chosen numbers.
use Rattle.std.specs.Prelude.{ℕ, ◌==◌, ◌||◌, Bool, List, slice_index, set, if◌then◌else◌}
use Rattle.std.specs.Option.{is_none}
use Rattle.std.specs.List.{list_any}
use Rattle.io_edge.specs.Rose.{next}
use Rattle.io_edge.specs.Files.{place_of, bytes_of}

-- its files, a count of faults for each of them and then one for all names that it doesn't hold, the numbers of the reads that fail, and how many reads there were
pub record MemFiles : Type 0 where
  pub files : List (List ℕ × List ℕ)
  pub counts : List ℕ
  pub fails : List ℕ
  pub reads : ℕ

-- the count of a name
abbrev pub count_of : MemFiles → List ℕ → ℕ
count_of m name = slice_index m.counts (place_of m.files name)

-- the counts with that of a name one higher
abbrev pub raised : MemFiles → List ℕ → List ℕ
raised m name = set m.counts (place_of m.files name) (next (count_of m name))

-- whether the next read fails: its number is among those that fail, or no file has the name
abbrev pub read_fails : MemFiles → List ℕ → Bool
read_fails m name = list_any (λ number. number == next m.reads) m.fails || is_none (bytes_of m.files name)

-- the folder after a read of this name
abbrev pub after_read : MemFiles → List ℕ → MemFiles
after_read m name =
    record { files = m.files; counts = (if read_fails m name then raised m name else m.counts); fails = m.fails; reads = next m.reads }

-- A sink in memory whose writes fail at chosen numbers.
use Rattle.std.specs.Prelude.{ℕ, ◌-◌, ◌==◌, ◌||◌, ◌&&◌, Bool, nat_lt, List, ◌++◌, length, take, min, if◌then◌else◌}
use Rattle.std.specs.List.{list_any}
use Rattle.io_edge.specs.Rose.{next}

-- its bytes, the room that it has for them, the most that one write takes, the numbers of the writes that fail, how many writes there were, and its count of faults
pub record MemBytes : Type 0 where
  pub bytes : List ℕ
  pub room : ℕ
  pub largest : ℕ
  pub fails : List ℕ
  pub writes : ℕ
  pub count : ℕ

-- whether the next write of this piece fails: its number is among those that fail, or there is a piece and no room
abbrev pub write_fails : MemBytes → List ℕ → Bool
write_fails m piece = list_any (λ number. number == next m.writes) m.fails || (nat_lt 0 (length piece) && (length m.bytes == m.room))

-- how many bytes a write that doesn't fail takes of this piece
abbrev pub taken : MemBytes → List ℕ → ℕ
taken m piece = min (min (length piece) m.largest) (m.room - length m.bytes)

-- the sink after a write of this piece
abbrev pub after_write : MemBytes → List ℕ → MemBytes
after_write m piece =
    if write_fails m piece
    then (record { bytes = m.bytes; room = m.room; largest = m.largest; fails = m.fails; writes = next m.writes; count = next m.count })
    else (record { bytes = m.bytes ++ take (taken m piece) piece; room = m.room; largest = m.largest; fails = m.fails; writes = next m.writes; count = m.count })

-- Counts of faults.
use Rattle.std.specs.Prelude.{ℕ, ◌+◌, ◌-◌, ◌^◌, ◌≤◌, min}

-- one more, as far as 64 bits go
abbrev pub next : ℕ → ℕ
next n = min (n + 1) (2 ^ 64 - 1)

-- a count rose, or stands at the end of 64 bits
abbrev pub Rose : ℕ → ℕ → Type 0
Rose before now = next before ≤ now

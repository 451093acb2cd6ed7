-- Numbers that seem drawn at random: each draw replaces a state, and reads a number off the new one.
use Rattle.std.specs.Prelude.{ℕ, zero, suc, ◌+◌, ◌*◌, ◌/◌, ◌%◌, ◌^◌}

-- the state that replaces a state
unfoldable pub next_state : ℕ → ℕ
next_state x = (6364136223846793005 * x + 1442695040888963407) % 2 ^ 64

-- the number below m that is read off a state
unfoldable pub read_off : ℕ → ℕ → ℕ
read_off x m = (x / 2 ^ 33) % m

-- the state after so many draws from a state
unfoldable pub state_after : ℕ → ℕ → ℕ
state_after x zero = x
state_after x (suc n) = next_state (state_after x n)

-- the n-th draw from a state, which is below m
abbrev pub draw : ℕ → ℕ → ℕ → ℕ
draw x n m = read_off (state_after x n) m

-- The linear congruential generator of the samples, modulo 2^31.
-- The definition of the sample tables rests on it.
use Rattle.std.specs.Prelude.{ℕ, zero, suc, ◌+◌, ◌*◌, ◌/◌, ◌%◌, ◌^◌}

-- The state that a seed gives.
unfoldable pub first_state : ℕ → ℕ
first_state seed = seed % 2 ^ 31

-- The state after one draw.
unfoldable pub next_state : ℕ → ℕ
next_state x = (x * 1103515245 + 12345) % 2 ^ 31

-- The number below m that a draw from a state gives: the state after it without its low 16 bits, modulo m.
unfoldable pub drawn : ℕ → ℕ → ℕ
drawn x m = next_state x / 65536 % m

-- The state after n draws from a state.
unfoldable pub state_after : ℕ → ℕ → ℕ
state_after x zero = x
state_after x (suc n) = next_state (state_after x n)

-- Draw number n from a state, counted from 0: a number below m.
abbrev pub draw : ℕ → ℕ → ℕ → ℕ
draw x n m = drawn (state_after x n) m

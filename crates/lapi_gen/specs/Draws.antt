-- The stream of draws that a number starts. Its numbers are chosen for this project alone.
use Rattle.std.specs.Prelude.{ℕ, zero, suc, ◌+◌, ◌*◌, ◌/◌, ◌%◌, ◌^◌}
use Rattle.lapi_gen.specs.declared.random.TheConstants.{MULTIPLIER, INCREMENT}

-- state i of the stream, which starts at the number
unfoldable pub state_at : (number i : ℕ) → ℕ
state_at number zero = number
state_at number (suc i) = (state_at number i * MULTIPLIER + INCREMENT) % 2 ^ 64

-- draw i, counted from 0: the high half of the state after it
unfoldable pub draw : (number i : ℕ) → ℕ
draw number i = state_at number (i + 1) / 2 ^ 32

-- the same as a number below a bound
abbrev pub pick : (number i bound : ℕ) → ℕ
pick number i bound = draw number i % bound

-- a stream, and how many draws were taken from it
pub record Stream : Type 0 where
  pub number : ℕ
  pub drawn : ℕ

-- What a receiving window stands for: the set of the numbers taken.
use Rattle.std.specs.Prelude.{◌≡◌, ℕ, ◌+◌, ◌<◌, ◌≤◌, Bool, true}
use Rattle.lapi_base.specs.Record.Below.{least_missing}
use Rattle.lapi_window.specs.NumberSet.{Members, is_in}

-- how many numbers from the base on may be taken, and those that were
pub record Receiving : Type 0 where
  pub window : ℕ
  pub taken : Members

abbrev pub is_taken : Receiving → ℕ → Bool
is_taken r n = is_in r.taken n

-- the least number that was not taken; each one taken is below 2 ^ 32 - 1
abbrev pub base_of : Receiving → ℕ
base_of r = least_missing 4294967295 (is_taken r)

-- the window has its size, and what was taken lies below its end
pub record IsReceiving (r : Receiving) : Type 0 where
  pub size : (1 ≤ r.window) × (r.window ≤ 64)
  pub near : (n : ℕ) → is_in r.taken n ≡ true → n < r.taken.base + r.window

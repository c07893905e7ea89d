-- A set of numbers as plain data, and the question whether a number is in it.
use Rattle.std.specs.Prelude.{ℕ, zero, suc, ◌+◌, ◌*◌, ◌-◌, ◌/◌, ◌%◌, ◌==◌, nat_lt, Bool, false, cond, ◌||◌, List, [], ◌∷◌}
use Rattle.lapi_base.specs.Record.Below.{has_bit}

-- each number below `base`, and those from `base` on whose flag is set, the first flag being that of `base`
pub record Members : Type 0 where
  pub base : ℕ
  pub flags : List Bool

-- the flag at a place; past the end there is none set
unfoldable pub flag_at : List Bool → ℕ → Bool
flag_at [] i = false
flag_at (b ∷ bs) zero = b
flag_at (b ∷ bs) (suc i) = flag_at bs i

unfoldable pub is_in : Members → ℕ → Bool
is_in members n = nat_lt n members.base || flag_at members.flags (n - members.base)

-- an acknowledgement tells of every number below its base, and of base + i for each bit i that is set
unfoldable pub is_covered : (base bits : ℕ) → ℕ → Bool
is_covered base bits n = nat_lt n base || has_bit bits (n - base)

-- the lowest bits as flags, and flags as a number
unfoldable pub flags_of : ℕ → ℕ → List Bool
flags_of zero bits = []
flags_of (suc n) bits = (bits % 2 == 1) ∷ flags_of n (bits / 2)

unfoldable pub number_of : List Bool → ℕ
number_of [] = 0
number_of (b ∷ bs) = cond b 1 0 + 2 * number_of bs

-- Sets of numbers, given by a test: what holds of all numbers below a bound, which of them pass, and the
-- least that doesn't; and the bits of a number. These are words of this project for windows and rounds.
use Rattle.std.specs.Prelude.{ℕ, zero, suc, ◌+◌, ◌*◌, ◌/◌, ◌%◌, ◌==◌, Bool, true, cond, ◌&&◌, List, [], ◌∷◌, ◌++◌}

-- every number below n passes
unfoldable pub every_below : ℕ → (ℕ → Bool) → Bool
every_below zero p = true
every_below (suc n) p = every_below n p && p n

-- the numbers below n that pass, rising
unfoldable pub below : ℕ → (ℕ → Bool) → List ℕ
below zero p = []
below (suc n) p = cond (p n) (below n p ++ n ∷ []) (below n p)

-- the least number below n that doesn't pass, or n
unfoldable pub least_missing : ℕ → (ℕ → Bool) → ℕ
least_missing zero p = zero
least_missing (suc n) p = cond (every_below (suc n) p) (suc n) (least_missing n p)

-- bit i of a number, bit 0 being the lowest
unfoldable pub has_bit : ℕ → ℕ → Bool
has_bit bits zero = bits % 2 == 1
has_bit bits (suc i) = has_bit (bits / 2) i

-- the number whose bit i tells, for each i below n, whether i passes
unfoldable pub bits_of : ℕ → (ℕ → Bool) → ℕ
bits_of zero p = 0
bits_of (suc n) p = cond (p 0) 1 0 + 2 * bits_of n (λ i. p (suc i))

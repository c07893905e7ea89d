-- A set of numbers as one bit each, 64 to a word.
use Rattle.std.specs.Prelude.{◌≡◌, ℕ, ◌*◌, ◌/◌, ◌%◌, ◌<◌, ◌≤◌, Bool, true, false, List, slice_index, Option, Some, None}
use Rattle.lapi_base.specs.Record.Below.{has_bit}

-- past the last word there is no number
unfoldable pub is_in : (words : List ℕ) → ℕ → Bool
is_in words n = has_bit (slice_index words (n / 64)) (n % 64)

-- the least number of the words from one place up to another, if there is one
abbrev pub IsLeastBetween : (words : List ℕ) (first end : ℕ) → Option ℕ → Type 0
IsLeastBetween words first end None = (n : ℕ) → 64 * first ≤ n → n < 64 * end → is_in words n ≡ false
IsLeastBetween words first end (Some least) =
    (64 * first ≤ least) × (least < 64 * end) × (is_in words least ≡ true) × ((n : ℕ) → 64 * first ≤ n → n < least → is_in words n ≡ false)
